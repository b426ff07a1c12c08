-- Bytes as the machine sees them: the frame that they spell.
use Rattle.std.specs.Prelude.{ℕ, Result, Ok, Err, List}
use Rattle.sb_frames.specs.Decoding.{decode_result}
use Rattle.sb_frames.specs.Grammar.{Spells}
use Rattle.sb_frames.specs.declared.fault.FrameFault.{FrameFault}
use Rattle.sb_frames.specs.declared.frame.Frame.{Frame}
use Rattle.sb_frames.specs.declared.frame.Frame.TheVariants as frame

-- the frame that the bytes begin with, or a frame that says nothing if they begin with none
abbrev pub frame_or_flush : Result (Frame × ℕ) FrameFault → Frame
frame_or_flush (Ok found) = found.0
frame_or_flush (Err fault) = frame.Flush

unfoldable pub frame_in : List ℕ → Frame
frame_in bytes = frame_or_flush (decode_result bytes)

-- the bytes spell a frame
pub record IsFrameBytes (bytes : List ℕ) : Type 0 where
  pub frame : Frame
  pub spelled : Spells frame bytes

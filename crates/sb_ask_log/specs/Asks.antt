-- Asks as a log's file has them.
use Rattle.std.specs.Prelude.{ℕ, List}
use Rattle.std.specs.List.{flat_map}
use Rattle.sb_calls.specs.declared.ask.Key.{Key}
use Rattle.sb_calls.specs.declared.call.Call.{Call}
use Rattle.sb_frames.specs.Grammar.{IsFrame, spelling}
use Rattle.sb_frames.specs.declared.frame.Frame.{Frame}
use Rattle.sb_frames.specs.declared.frame.Frame.TheVariants.{Ask}

-- the frame of an ask
abbrev pub ask_frame : Key × Call → Frame
ask_frame ask = Ask ask.0.client ask.0.request ask.1

-- its numbers fit their widths, and its call is valid
abbrev pub IsAsk : Key × Call → Type 0
IsAsk ask = IsFrame (ask_frame ask)

-- the bytes of asks: the spellings of their frames, in order
abbrev pub asks_field : List (Key × Call) → List ℕ
asks_field asks = flat_map (λ ask. spelling (ask_frame ask)) asks

-- The frame that a stream hands out, and the bytes that remain.
use Rattle.std.proofs.Common.{◌≡◌, ℕ, false, List, ◌++◌, take, drop, sym, ap, ◌∙◌}
use Rattle.std.proofs.lemmas.List.{take-append-drop}
use Rattle.sb_frames.specs.Grammar.{Spells}
use Rattle.sb_frames.specs.Streaming.{StreamState, HandsOutFrame}
use Rattle.sb_frames.specs.declared.frame.Frame.{Frame}

-- unread bytes that begin with the spelling of a frame, which is skipped
pub handed_out : (old new : StreamState) (unread : List ℕ) (frame : Frame) (size : ℕ) → unread ≡ old.unread → Spells frame (take size unread)
    → new.unread ≡ drop size unread → new.failed ≡ false → HandsOutFrame old frame new
handed_out old new unread frame size seen spells left going = record {
  valid = spells.valid;
  spelled = (take size unread, spells, sym seen ∙ sym (take-append-drop size unread) ∙ ap (λ (rest : List ℕ). take size unread ++ rest) (sym left));
  not_failed = going;
}

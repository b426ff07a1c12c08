-- Frames among their bytes.
use Rattle.std.proofs.Common.{◌≡◌, ℕ, zero, suc, Some, Ok, List, [], ◌∷◌, ◌++◌, length, map, sym, ap, subst, ◌∙◌}
use Rattle.std.specs.Prelude.{option_map}
use Rattle.std.proofs.lemmas.List.{map-append}
use Rattle.std.proofs.lemmas.Option.{slice_get-map}
use Rattle.cown_board.proofs.PositionLaws.{append_nothing}
use Rattle.sb_frames.proofs.Frames.{begins_so}
use Rattle.sb_frames.specs.Decoding.{decode_result}
use Rattle.sb_frames.specs.Grammar.{Spells}
use Rattle.sb_frames.specs.declared.frame.Frame.{Frame}
use Rattle.schedule_player.specs.OneBased.{nth_item, Every}
use Rattle.schedule_player.specs.inner.FrameBytes.{frame_or_flush, frame_in, IsFrameBytes}
use Rattle.cown_board.proofs.LogLaws.{no_some as none_some}

-- bytes that spell a frame decode to it, and nothing is left
pub decoded_whole : (frame : Frame) (bytes : List ℕ) → Spells frame bytes → decode_result bytes ≡ Ok (frame, length bytes)
decoded_whole frame bytes spelled =
    subst (λ b. decode_result b ≡ Ok (frame, length bytes)) (append_nothing bytes) (begins_so frame bytes [] spelled)

pub frame_in_spelled : (frame : Frame) (bytes : List ℕ) → Spells frame bytes → frame_in bytes ≡ frame
unfolding frame_in
frame_in_spelled frame bytes spelled = ap frame_or_flush (decoded_whole frame bytes spelled)

-- the machine sees these bytes as the frame that they spell
pub spelled_as_seen : (bytes : List ℕ) → IsFrameBytes bytes → Spells (frame_in bytes) bytes
spelled_as_seen bytes is =
    subst (λ frame. Spells frame bytes) (sym (frame_in_spelled is.frame bytes is.spelled)) is.spelled

module _ {A : Type 0} (items : A → List ℕ) where
  -- the frames of these bytes, in order
  abbrev seen_in : List A → List Frame
  seen_in sent = map (λ bytes. frame_in (items bytes)) sent

  pub sent_frame : (sent : List A) (place : ℕ) (bytes : A) → Every (λ b. IsFrameBytes (items b)) sent
      → nth_item sent place ≡ Some bytes
      → (frame : Frame) × (nth_item (seen_in sent) place ≡ Some frame) × Spells frame (items bytes)
  sent_frame sent zero bytes all here = absurd (none_some here)
  sent_frame sent (suc k) bytes all here = (
    frame_in (items bytes),
    slice_get-map (λ b. frame_in (items b)) sent k ∙ ap (option_map (λ b. frame_in (items b))) here,
    spelled_as_seen (items bytes) (all k bytes here),
  )

  pub frame_sent : (sent : List A) (bytes : A) (frame : Frame) → Spells frame (items bytes)
      → seen_in (sent ++ bytes ∷ []) ≡ seen_in sent ++ frame ∷ []
  frame_sent sent bytes frame spelled =
      map-append (λ b. frame_in (items b)) sent (bytes ∷ [])
      ∙ ap (λ f. seen_in sent ++ f ∷ []) (frame_in_spelled frame (items bytes) spelled)

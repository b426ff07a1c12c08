-- Bytes that are no outcome of the next ask.
use Rattle.std.proofs.Common.{◌≡◌, ℕ, Result, Ok, Err, List, [], ◌++◌, length, false, true≢false, refl, sym, ap, ◌∙◌, arith, append_assoc, length-append}
use Rattle.std.specs.Prelude.{◌≢◌}
use Rattle.sb_frames.proofs.Frames.{decoded_again, decoded_settled, one_frame, spelling_size}
use Rattle.sb_frames.specs.Decoding.{decode_result, frame_size}
use Rattle.sb_frames.specs.Grammar.{spelling}
use Rattle.sb_frames.specs.Streaming.{FailsBy, HandsOutFrame, StreamState}
use Rattle.sb_frames.specs.declared.fault.FrameFault.{FrameFault}
use Rattle.sb_frames.specs.declared.fault.FrameFault.TheVariants.{Short}
use Rattle.sb_frames.specs.declared.fault.StreamFault.{StreamFault}
use Rattle.sb_frames.specs.declared.fault.StreamFault.TheVariants.{Bad, Failed, OutOfMemory}
use Rattle.sb_frames.specs.declared.frame.AskOutcome.{AskOutcome}
use Rattle.sb_frames.specs.declared.frame.Frame.{Frame}
use Rattle.sb_frames.specs.declared.frame.Frame.TheVariants.{Outcome}
use Rattle.ask_client.specs.Batches.{BatchOf}
use Rattle.ask_client.specs.Conversations.{IsNoOutcome}

nothing_short : decode_result [] ≡ Err Short
unfolding decode_result frame_size
nothing_short = refl

-- a spelling has bytes
some_bytes : (frame : Frame) (rest : List ℕ) → spelling frame ++ rest ≢ []
some_bytes frame rest none =
    let sized = spelling_size frame in
    let empty = ap length none in
    omega (arith, sized, empty, length-append (spelling frame) rest)

-- another frame came
pub another_frame : (batch : BatchOf) (frame : Frame) (old new : StreamState) → HandsOutFrame old frame new
    → ((outcome : AskOutcome) → frame ≢ Outcome batch.client batch.first outcome) → IsNoOutcome batch old.unread
another_frame batch frame old new handed other =
    let (bytes, spells, parts) = handed.spelled in
    let whole : old.unread ≡ spelling frame ++ new.unread = parts ∙ ap (λ (l : List ℕ). l ++ new.unread) spells.spelled in (
      λ none. some_bytes frame new.unread (sym whole ∙ none),
      λ outcome more behind calls valid e.
          other outcome (one_frame frame (Outcome batch.client batch.first outcome) bytes (spelling (Outcome batch.client batch.first outcome))
          (new.unread ++ more) behind spells (record { valid = valid; spelled = refl })
          (sym (append_assoc bytes new.unread more) ∙ ap (λ (l : List ℕ). l ++ more) (sym parts) ∙ e)).0,
    )

not_both : {A : Type 0} (x : FrameFault) (y : A) → ◌≡◌ {A = Result A FrameFault} (Err x) (Ok y) → ⊥
not_both x y h = cc

same_fault : {A : Type 0} (x y : FrameFault) → ◌≡◌ {A = Result A FrameFault} (Err x) (Err y) → x ≡ y
same_fault x y h = cc

-- no frame begins these bytes
pub no_frame : (batch : BatchOf) (bytes : List ℕ) (fault : FrameFault) → decode_result bytes ≡ Err fault → fault ≢ Short → IsNoOutcome batch bytes
no_frame batch bytes fault bad long = (
  λ none. long (same_fault fault Short (sym bad ∙ ap decode_result none ∙ nothing_short)),
  λ outcome more behind calls valid e.
      let settled : decode_result (bytes ++ more) ≡ Err fault =
      decoded_settled bytes more (λ short. long (same_fault fault Short (sym bad ∙ short))) ∙ bad in
      not_both fault _ (sym settled ∙ ap decode_result e ∙ decoded_again (Outcome batch.client batch.first outcome) behind valid),
)

-- the stream found no frame
pub bad_stream : (batch : BatchOf) (stream : StreamState) (fault : StreamFault) → stream.failed ≡ false → FailsBy stream fault
    → IsNoOutcome batch stream.unread
bad_stream batch stream (Bad fault) going why = no_frame batch stream.unread fault why.1 why.2
bad_stream batch stream Failed going why = absurd (true≢false (sym why ∙ going))
bad_stream batch stream OutOfMemory going why = absurd why

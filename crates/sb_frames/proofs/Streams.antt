-- The frames of a stream are those of its bytes, whatever the calls were.
use Rattle.std.proofs.Common.{◌≡◌, ℕ, ◌<◌, Bool, true, false, Option, List, [], ◌∷◌, ◌++◌, drop, Result, Ok, Err, refl, sym, ap, subst, ◌∙◌, append_assoc}
use Rattle.std.specs.List.{AllByRecursion, flat_map}
use Rattle.std.proofs.lemmas.List.{append-nil, take-append-drop}
use Rattle.std.proofs.lemmas.List.Concat.{flat_map-append}
use Rattle.std.proofs.lemmas.List.Elements.{All-nil, All-append, All-drop, All-from_recursion}
use Rattle.sb_frames.specs.Decoding.{decode_result}
use Rattle.sb_frames.specs.Grammar.{IsFrame, spelling}
use Rattle.sb_frames.specs.Streaming.{StreamState, empty_stream, StreamCall, Feed, Next, AreBytes, Feeds, next_by, next_of, Step, StepsTo, bytes_taken, frames_given, FramesOfBytes}
use Rattle.sb_frames.specs.declared.fault.FrameFault.{FrameFault}
use Rattle.sb_frames.specs.declared.fault.FrameFault.TheVariants.{Short, BadLength, UnknownTag, BadName, BadAmount, BadReply, BadStatus}
use Rattle.sb_frames.specs.declared.fault.StreamFault.{StreamFault}
use Rattle.sb_frames.specs.declared.fault.StreamFault.TheVariants.{Bad, Failed, OutOfMemory}
use Rattle.sb_frames.specs.declared.frame.Frame.{Frame}
use Rattle.sb_frames.proofs.Frames.{decoded_takes}

-- what a call put in comes after the unread bytes, and what it handed out came before those that
-- remain
record Keeps (old : List ℕ) (taken : List ℕ) (given : List Frame) (new : List ℕ) : Type 0 where
  valid : AllByRecursion IsFrame given
  whole : old ++ taken ≡ flat_map spelling given ++ new
  are : AreBytes new

nothing : (old new : List ℕ) → AreBytes old → new ≡ old → Keeps old [] [] new
nothing old new are same = record { valid = tt; whole = append-nil old ∙ sym same; are = subst (λ xs. AreBytes xs) (sym same) are }

feed_keeps : (old : StreamState) (bytes : List ℕ) (answer : Result (Unit {0}) StreamFault) (new : StreamState) → AreBytes old.unread → AreBytes bytes
    → Feeds old bytes answer new
    → Keeps old.unread (bytes_taken (Feed bytes answer)) [] new.unread
feed_keeps old bytes (Ok done) new are come h =
    let left : new.unread ≡ old.unread ++ bytes = ap (λ (s : StreamState). s.unread) h.1 in
    record { valid = tt; whole = sym left; are = subst (λ xs. AreBytes xs) (sym left) (All-append (λ byte. byte < 256) old.unread bytes are come) }
feed_keeps old bytes (Err Failed) new are come h = nothing old.unread new.unread are (ap (λ (s : StreamState). s.unread) h.1)
feed_keeps old bytes (Err OutOfMemory) new are come h = nothing old.unread new.unread are (ap (λ (s : StreamState). s.unread) h.1)
feed_keeps old bytes (Err (Bad fault)) new are come h = elim h [ ]

-- an answer of next with the state after it
abbrev After : Type 0
After = Result (Option Frame) StreamFault × StreamState

same_after : (old : List ℕ) (p q : After) → p ≡ q → Keeps old [] (frames_given (Next q.0)) q.1.unread → Keeps old [] (frames_given (Next p.0)) p.1.unread
same_after old p q e h = subst (λ (x : After). Keeps old [] (frames_given (Next x.0)) x.1.unread) (sym e) h

-- the decoding is handed out
by_keeps : (unread : List ℕ) (read : Result (Frame × ℕ) FrameFault) → AreBytes unread → decode_result unread ≡ read
    → Keeps unread [] (frames_given (Next (next_by read unread).0)) (next_by read unread).1.unread
by_keeps unread (Ok found) are e =
    let spelled = (decoded_takes unread found.0 found.1 are e).1 in
    record {
      valid = (spelled.valid, tt);
      whole = append-nil unread ∙ sym (take-append-drop found.1 unread)
          ∙ ap (λ (xs : List ℕ). xs ++ drop found.1 unread) (spelled.spelled ∙ sym (append-nil (spelling found.0)));
      are = All-drop (λ byte. byte < 256) found.1 unread are;
    }
by_keeps unread (Err Short) are e = nothing unread unread are refl
by_keeps unread (Err BadLength) are e = nothing unread unread are refl
by_keeps unread (Err UnknownTag) are e = nothing unread unread are refl
by_keeps unread (Err BadName) are e = nothing unread unread are refl
by_keeps unread (Err BadAmount) are e = nothing unread unread are refl
by_keeps unread (Err BadReply) are e = nothing unread unread are refl
by_keeps unread (Err BadStatus) are e = nothing unread unread are refl

of_keeps : (unread : List ℕ) (failed : Bool) → AreBytes unread → let old : StreamState = record { unread = unread; failed = failed } in
    Keeps unread [] (frames_given (Next (next_of old).0)) (next_of old).1.unread
of_keeps unread true are = nothing unread unread are refl
of_keeps unread false are = by_keeps unread (decode_result unread) are refl

step_keeps : (old : StreamState) (call : StreamCall) (new : StreamState) → AreBytes old.unread → Step old call new
    → Keeps old.unread (bytes_taken call) (frames_given call) new.unread
step_keeps old (Feed bytes answer) new are h = feed_keeps old bytes answer new are h.0 h.1
step_keeps old (Next answer) new are h = same_after old.unread (answer, new) (next_of old) h (of_keeps old.unread old.failed are)

-- frames of one call, and then of the others
both_valid : (fs gs : List Frame) → AllByRecursion IsFrame fs → AllByRecursion IsFrame gs → AllByRecursion IsFrame (fs ++ gs)
both_valid [] gs h k = k
both_valid (f ∷ fs) gs h k = (h.0, both_valid fs gs h.1 k)

then_keeps : (a b c : List ℕ) (s t : List ℕ) (f g : List Frame) → Keeps a s f b → Keeps b t g c → Keeps a (s ++ t) (f ++ g) c
then_keeps a b c s t f g p q =
    let front = flat_map spelling f in
    let back = flat_map spelling g in
    record {
      valid = both_valid f g p.valid q.valid;
      whole = sym (append_assoc a s t) ∙ ap (λ (xs : List ℕ). xs ++ t) p.whole ∙ append_assoc front b t ∙ ap (λ (xs : List ℕ). front ++ xs) q.whole
          ∙ sym (append_assoc front back c) ∙ ap (λ (xs : List ℕ). xs ++ c) (sym (flat_map-append spelling f g));
      are = q.are;
    }

steps_keep : (calls : List StreamCall) (old new : StreamState) → AreBytes old.unread → StepsTo old calls new
    → Keeps old.unread (flat_map bytes_taken calls) (flat_map frames_given calls) new.unread
steps_keep [] old new are h = nothing old.unread new.unread are (ap (λ (s : StreamState). s.unread) h)
steps_keep (call ∷ calls) old new are h =
    let mid = h.0 in
    let first = step_keeps old call mid are h.1 in
    then_keeps old.unread mid.unread new.unread (bytes_taken call) (flat_map bytes_taken calls) (frames_given call) (flat_map frames_given calls) first
    (steps_keep calls mid new first.are h.2)

pub frames_of_bytes : FramesOfBytes
frames_of_bytes calls end h =
    let kept = steps_keep calls empty_stream end (All-nil (λ byte. byte < 256)) h in
    (All-from_recursion IsFrame (flat_map frames_given calls) kept.valid, kept.whole)

-- The frames of outcomes, taken one after another.
use Rattle.std.proofs.Common.{◌≡◌, ℕ, ◌+◌, ◌<◌, Option, Err, List, [], ◌∷◌, ◌++◌, length, sym, ap, subst, ◌∙◌, arith, length-drop}
use Rattle.std.specs.Prelude.{◌≢◌}
use Rattle.std.specs.Io.KnownBytes.{Consumes}
use Rattle.std.proofs.KnownBytes.{Consumes-trans}
use Rattle.sb_calls.specs.declared.call.Call.{Call}
use Rattle.sb_frames.specs.Grammar.{spelling}
use Rattle.sb_frames.specs.Streaming.{HandsOutFrame, StreamState}
use Rattle.sb_frames.specs.declared.frame.AskOutcome.{AskOutcome}
use Rattle.sb_frames.specs.declared.frame.Frame.{Frame}
use Rattle.sb_frames.specs.declared.frame.Frame.TheVariants.{Outcome}
use Rattle.ask_client.specs.Batches.{BatchOf, after_outcomes}
use Rattle.ask_client.specs.Conversations.{EndsTalk, IsNoOutcome, TellsFirst}
use Rattle.ask_client.specs.OutcomeLines.{outcome_line}
use Rattle.ask_client.specs.declared.talk_fault.TalkFault.{TalkFault}
use Rattle.ask_client.specs.declared.talk_fault.TalkFault.TheVariants.{Connection, Unexpected, OutOfMemory}
use Rattle.ask_client.specs.inner.Telling.{EndsTaking, TakesOutcomes, TellsFrame}
use Rattle.ask_client.proofs.Told.{tells_fed, tells_more, tells_one}
use Rattle.ask_client.proofs.UnexpectedBytes.{another_frame}

-- while turns are left, so are calls
pub some_calls : (calls : List Call) (n m : ℕ) → n + length calls ≡ m → n < m → calls ≢ []
some_calls calls n m count below none = let empty = ap length none in omega (arith, empty)

-- one call less
pub one_less : (batch left : BatchOf) (n m : ℕ) → n + length batch.calls ≡ m → n < m → left ≡ after_outcomes 1 batch
    → n + 1 + length left.calls ≡ m
one_less batch left n m count below is =
    let calls : length left.calls ≡ length (after_outcomes 1 batch).calls = ap (λ (b : BatchOf). length b.calls) is in
    omega (arith, calls, length-drop 1 batch.calls)

-- the next frame is told
pub next_told : (start batch left : BatchOf) (frame : Frame) (old new : StreamState) (outcome : AskOutcome) (bytes a b c : List ℕ)
    → TellsFirst start bytes old.unread a b batch → HandsOutFrame old frame new → batch.calls ≢ [] → frame ≡ Outcome batch.client batch.first outcome
    → c ≡ b ++ (outcome_line batch.first outcome ++ 10 ∷ []) → left ≡ after_outcomes 1 batch → TellsFirst start bytes new.unread a c left
next_told start batch left frame old new outcome bytes a b c told handed some is line left_is =
    let parts : old.unread ≡ spelling (Outcome batch.client batch.first outcome) ++ new.unread =
    handed.spelled.2 ∙ ap (λ (l : List ℕ). l ++ new.unread) (handed.spelled.1.spelled ∙ ap spelling is) in
    tells_more start batch left bytes old.unread new.unread a b c told
    (tells_one batch left outcome old.unread new.unread b c parts some line left_is)

-- the next frame isn't told
pub next_refused : (start batch left : BatchOf) (frame : Frame) (old new : StreamState) (fault : TalkFault) (bytes a b c : List ℕ)
    → TellsFirst start bytes old.unread a b batch → HandsOutFrame old frame new → TellsFrame batch frame (Err fault) b c left
    → TakesOutcomes start (Err fault) bytes new a c left
next_refused start batch left frame old new Connection bytes a b c told handed never = absurd never
next_refused start batch left frame old new OutOfMemory bytes a b c told handed (same, stays) = (
  old.unread,
  subst (λ (l : List ℕ). TellsFirst start bytes old.unread a l left) (sym same)
      (subst (λ (x : BatchOf). TellsFirst start bytes old.unread a b x) (sym stays) told),
  tt,
)
next_refused start batch left frame old new Unexpected bytes a b c told handed (other, same, stays) = (
  old.unread,
  subst (λ (l : List ℕ). TellsFirst start bytes old.unread a l left) (sym same)
      (subst (λ (x : BatchOf). TellsFirst start bytes old.unread a b x) (sym stays) told),
  subst (λ (x : BatchOf). IsNoOutcome x old.unread) (sym stays) (another_frame batch frame old new handed other),
)

-- one read more
pub heard_more : (a b c : Option (List ℕ)) (start batch left : BatchOf) (taken unread piece rest x y z : List ℕ) → Consumes a b taken
    → TellsFirst start taken unread x y batch → Consumes b c piece → TellsFirst batch (unread ++ piece) rest y z left
    → (bytes : List ℕ) × Consumes a c bytes × TellsFirst start bytes rest x z left
heard_more a b c start batch left taken unread piece rest x y z read told more then = (
  taken ++ piece,
  Consumes-trans a b c taken piece read more,
  tells_more start batch left (taken ++ piece) (unread ++ piece) rest x y z (tells_fed start batch taken unread piece x y told) then,
)

pub ends_talk : (left : BatchOf) (rest : List ℕ) (frames : StreamState) (fault : TalkFault) → EndsTaking (Err fault) left rest frames
    → EndsTalk (Err fault) left rest
ends_talk left rest frames Connection never = absurd never
ends_talk left rest frames Unexpected is = is
ends_talk left rest frames OutOfMemory is = tt

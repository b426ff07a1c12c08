-- The turns of a follower.
use Rattle.std.proofs.Common.{◌≡◌, Option, Result, Ok, Err, List, [], ◌∷◌, ◌++◌, refl, sym, ap, subst}
use Rattle.std.specs.Prelude.{IfSome, MatchResult}
use Rattle.std.specs.Result.{result_ok}
use Rattle.std.specs.List.{AllByRecursion}
use Rattle.cown_workers.specs.Draining.{TakesSteps, CrewStep, IsDrained, EndsInVain, KeepsNoJob}
use Rattle.sb_calls.specs.declared.op.Op.{Op}
use Rattle.sb_frames.specs.Streaming.{IsShort, StreamState}
use Rattle.sb_replica.specs.Receiving.{Receives}
use Rattle.sb_replica.specs.Replica.{RestOf, ReplicaOf, rest_of}
use Rattle.sb_replica.specs.declared.received.Received.{Received}
use Rattle.sb_replica.specs.declared.received.Received.TheVariants.{Short}
use Rattle.bank_server.specs.FollowerTurns.{FollowerOf, RunsAll, TakesTurn, TakesTurns, Turn}

-- one more turn
pub turn_after : {S : Type 0} (old mid new : FollowerOf S) (turns : List Turn) (turn : Turn) → TakesTurns old turns mid → TakesTurn mid turn new
    → TakesTurns old (turns ++ turn ∷ []) new
turn_after old mid new [] turn before is = (new, subst (λ f. TakesTurn f turn new) before is, refl)
turn_after old mid new (first ∷ turns) turn before is = (before.0, before.1, turn_after before.0 mid new turns turn before.2 is)

-- less than a whole frame is unread if so it was received
pub short_after : {S : Type 0} (old new : ReplicaOf S) (from rest : StreamState) (received : Received) → received ≡ Short
    → Receives old from (Ok received) new rest → IsShort rest
short_after {S} old new from rest received is heard =
    let short = subst (λ r. Receives {S = S} old from (Ok r) new rest) is heard in
    subst IsShort (sym short.2) short.0

-- a crew without workers takes its steps in place
pub steps_in_place : {C : Type 0} (steps : List CrewStep) (old new : C) → TakesSteps (λ before step after. KeepsNoJob step) old steps new
    → AllByRecursion KeepsNoJob steps
steps_in_place [] old new acts = tt
steps_in_place (step ∷ steps) old new acts = (acts.1, steps_in_place steps acts.0 new acts.2)

-- a board that was drained in place ran everything
pub runs_all : {S C E : Type 0} (old new : ReplicaOf S) (before after : C) (answer : Result (Unit {0}) E)
    → ((steps : List CrewStep) × (TakesSteps (λ before step after. KeepsNoJob step) before steps after × MatchResult answer
    (λ done. IsDrained old.board steps new.board)
    (λ gone. EndsInVain old.board steps new.board)))
    → ◌≡◌ {A = RestOf S × List (Option Op)} (rest_of new, new.held) (rest_of old, old.held)
    → IfSome (result_ok answer) (λ done. RunsAll old new)
runs_all {S} old new before after (Ok done) exchanged beside = record {
  steps = exchanged.0;
  in_place = steps_in_place exchanged.0 before after exchanged.1.0;
  drained = exchanged.1.1;
  rest = ap (λ (both : RestOf S × List (Option Op)). both.0) beside;
  held = ap (λ (both : RestOf S × List (Option Op)). both.1) beside;
}
runs_all old new before after (Err gone) exchanged beside = tt

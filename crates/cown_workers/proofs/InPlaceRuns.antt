-- A board after an op was handed out, executed and finished at once.
use Rattle.std.proofs.Common.{◌≡◌, ℕ, ◌<◌, ℤ, false, Result, Ok, Err, List, refl, sym, ap, ◌∙◌, arith}
use Rattle.std.specs.Prelude.{IsOk, is_ok}
use Rattle.std.proofs.lemmas.Bool.{true≢false}
use Rattle.sb_calls.specs.Behaviour.{declared_cowns, effect_of}
use Rattle.sb_calls.specs.declared.op.Op.{Op}
use Rattle.sb_calls.specs.declared.reply.Reply.{Reply}
use Rattle.cown_board.specs.Board.{BoardOf, unfinished_of, Takes, Finishes}
use Rattle.cown_board.specs.BoardCalls.{TakesBack}
use Rattle.cown_board.specs.Job.{JobOf, DoneOf}
use Rattle.cown_workers.proofs.BoardSteps.{PreservesLog_trans, Takes-drains, Finishes-drains, Takes-counts, Finishes-counts, Takes-here, HasNoneOut-again}
use Rattle.cown_workers.specs.Draining.{PreservesLog, IsResultOf, HasNoneOut, RunsInPlace}
use Rattle.cown_workers.specs.inner.DrainSteps.{waiting_count}

-- what is accepted is not refused
pub no_refusal : {A E : Type 0} (answer : Result A E) → IsOk answer → is_ok answer ≡ false → ⊥
no_refusal answer ok refused = true≢false (sym ok ∙ refused)

-- an op was handed out, executed and finished
pub record CarriesOut (old new : BoardOf Op) : Type 0 where
  pub waiting : waiting_count new < waiting_count old
  pub unfinished : unfinished_of new < unfinished_of old
  pub drains : PreservesLog old new
  pub none_out : HasNoneOut old → HasNoneOut new

module _ (touches : Op → List ℕ) (effect : Op → List ℤ → Reply × List ℤ) where
  -- the result of what was just handed out is accepted, and finished
  pub finished : {old mid new : BoardOf Op} {index : ℕ} {job back : JobOf Op} {done : DoneOf Op} (answer : Result Reply (DoneOf Op))
      → Takes touches effect old index job mid → back ≡ job → IsResultOf done back → TakesBack touches effect mid done answer new
      → IsOk answer × ((reply : Reply) × Finishes touches effect mid done reply new)
  finished (Ok reply) takes same of made = (refl, (reply, made))
  finished {old} {mid} {new} {index} {job} {back} {done} (Err refused) takes same of made =
      absurd (made.0 (Takes-here touches effect done takes
      (of.0 ∙ ap (λ j. j.number) same, of.1 ∙ ap (λ j. j.behaviour) same, of.2 ∙ ap (λ j. j.inputs) same)))

  pub carried : {old mid new : BoardOf Op} {index : ℕ} {job back : JobOf Op} (done : DoneOf Op) (answer : Result Reply (DoneOf Op))
      → Takes touches effect old index job mid → back ≡ job → IsResultOf done back → TakesBack touches effect mid done answer new
      → CarriesOut old new
  carried {old} {mid} {new} done answer takes same of made =
      let finishes = (finished answer takes same of made).1.1 in
      let first = Takes-counts touches effect takes in
      let second = Finishes-counts touches effect finishes in
      record {
        waiting = omega (arith, first, second);
        unfinished = omega (arith, first, second);
        drains = PreservesLog_trans (Takes-drains touches effect takes) (Finishes-drains touches effect finishes);
        none_out = HasNoneOut-again touches effect takes finishes;
      }

-- with its job, if that came back
pub ran_in_place : {old mid new : BoardOf Op} {job back : JobOf Op} (done : DoneOf Op) (answer : Result Reply (DoneOf Op))
    → Takes declared_cowns effect_of old 0 job mid → back ≡ job → IsResultOf done back
    → TakesBack declared_cowns effect_of mid done answer new → RunsInPlace old job new
ran_in_place {old} {mid} {new} {job} {back} done answer takes same of made =
    let (reply, finishes) = (finished declared_cowns effect_of answer takes same of made).1 in
    record {
      taken = mid;
      takes = takes;
      done = done;
      is_of = (of.0 ∙ ap (λ j. j.number) same, of.1 ∙ ap (λ j. j.behaviour) same, of.2 ∙ ap (λ j. j.inputs) same);
      reply = reply;
      finishes = finishes;
    }

-- A board after an op was handed out, or finished.
use Rattle.std.proofs.Common.{◌≡◌, ◌≢◌, inl, inr, ℕ, ◌+◌, ◌<◌, ℤ, true, Option, Some, None, List, length, refl, sym, ap, ◌∙◌, arith}
use Rattle.std.specs.Prelude.{slice_get, slice_set}
use Rattle.std.proofs.lemmas.Bool.{cases_eq, and_parts, true≢false}
use Rattle.std.proofs.lemmas.Option.{slice_get_within}
use Rattle.sb_calls.specs.declared.op.Op.{Op}
use Rattle.sb_calls.specs.declared.reply.Reply.{Reply}
use Rattle.cown_board.proofs.PositionLaws.{place_is}
use Rattle.cown_board.proofs.StateChanges.{slice_get-set_same, slice_get-set_other}
use Rattle.cown_board.specs.Board.{BoardOf, unfinished_of, behaviour_number, inputs_at, IsOutHere, Takes, Finishes}
use Rattle.cown_board.specs.Job.{JobOf, DoneOf}
use Rattle.cown_board.specs.Readiness.{is_ready_at, is_clear_at, ready_positions}
use Rattle.cown_board.specs.State.{is_waiting, is_unfinished, state_is}
use Rattle.cown_board.specs.declared.state.State.{State}
use Rattle.cown_board.specs.declared.state.State.TheVariants.{Waiting, Out, Finished}
use Rattle.cown_workers.proofs.StateCounts.{count-set}
use Rattle.cown_board.proofs.LogLaws.{injective}
use Rattle.cown_workers.specs.Draining.{PreservesLog, IsResultOf, HasNoneOut}
use Rattle.cown_workers.specs.inner.DrainSteps.{waiting_count}

pub PreservesLog_same : (board : BoardOf Op) → PreservesLog board board
PreservesLog_same board = record { opening = refl; base_replies = refl; log = refl; cut = refl; finished = λ k reply finished. finished }

pub PreservesLog_trans : {a b c : BoardOf Op} → PreservesLog a b → PreservesLog b c → PreservesLog a c
PreservesLog_trans first second = record {
  opening = second.opening ∙ first.opening;
  base_replies = second.base_replies ∙ first.base_replies;
  log = second.log ∙ first.log;
  cut = second.cut ∙ first.cut;
  finished = λ k reply h. second.finished k reply (first.finished k reply h);
}

-- one state changed
record Changes (old new : BoardOf Op) (k : ℕ) (before after : State) : Type 0 where
  pub here : slice_get old.states k ≡ Some before
  pub changed : new ≡ record old { states = slice_set old.states k after }

-- and that state wasn't finished before
PreservesLog_changed : (old new : BoardOf Op) (k : ℕ) (before after : State) → ((reply : Reply) → before ≢ Finished reply) → Changes old new k before after
    → PreservesLog old new
PreservesLog_changed old new k before after unfinished c = record {
  opening = ap (λ b. b.opening) c.changed;
  base_replies = ap (λ b. b.base_replies) c.changed;
  log = ap (λ b. b.log) c.changed;
  cut = ap (λ b. b.cut) c.changed;
  finished = λ j reply h. elim (cases_eq j k) [
    | inl same ↦ absurd (unfinished reply (injective (sym c.here ∙ ap (slice_get old.states) (sym same) ∙ h)))
    | inr differs ↦ ap (λ b. slice_get b.states j) c.changed ∙ slice_get-set_other old.states k j after differs ∙ h
  ];
}

waits_here : (o : Option State) → state_is is_waiting o ≡ true → o ≡ Some Waiting
waits_here None h = absurd (true≢false (sym h))
waits_here (Some Waiting) h = refl
waits_here (Some Out) h = absurd (true≢false (sym h))
waits_here (Some (Finished reply)) h = absurd (true≢false (sym h))

waiting_not_finished : (reply : Reply) → Waiting ≢ Finished reply
waiting_not_finished reply h = cc

out_not_finished : (reply : Reply) → Out ≢ Finished reply
out_not_finished reply h = cc

module _ (touches : Op → List ℕ) (effect : Op → List ℤ → Reply × List ℤ) where
  -- the op that is handed out was waiting
  taken_waits : (old : BoardOf Op) (index : ℕ) (job : JobOf Op) (new : BoardOf Op) (takes : Takes touches effect old index job new)
      → slice_get old.states takes.position ≡ Some Waiting
  unfolding ready_positions
  taken_waits old index job new takes =
      let ready = (place_is (is_ready_at touches old.log old.states) (length old.log) index takes.position takes.ready).1 in
      waits_here (slice_get old.states takes.position)
      (and_parts (state_is is_waiting (slice_get old.states takes.position)) (is_clear_at touches old.log old.states takes.position) ready).0

  taken_changes : (old : BoardOf Op) (index : ℕ) (job : JobOf Op) (new : BoardOf Op) (takes : Takes touches effect old index job new)
      → Changes old new takes.position Waiting Out
  taken_changes old index job new takes = record { here = taken_waits old index job new takes; changed = takes.out }

  finished_changes : (old : BoardOf Op) (done : DoneOf Op) (reply : Reply) (new : BoardOf Op) (finishes : Finishes touches effect old done reply new)
      → Changes old new finishes.position Out (Finished reply)
  finished_changes old done reply new finishes = record { here = finishes.here.out; changed = finishes.finished }

  pub Takes-drains : {old : BoardOf Op} {index : ℕ} {job : JobOf Op} {new : BoardOf Op} → Takes touches effect old index job new → PreservesLog old new
  Takes-drains {old} {index} {job} {new} takes =
      PreservesLog_changed old new takes.position Waiting Out waiting_not_finished (taken_changes old index job new takes)

  pub Finishes-drains : {old : BoardOf Op} {done : DoneOf Op} {reply : Reply} {new : BoardOf Op}
      → Finishes touches effect old done reply new → PreservesLog old new
  Finishes-drains {old} {done} {reply} {new} finishes =
      PreservesLog_changed old new finishes.position Out (Finished reply) out_not_finished (finished_changes old done reply new finishes)

  -- one fewer waits, and the same number is unfinished
  pub Takes-counts : {old : BoardOf Op} {index : ℕ} {job : JobOf Op} {new : BoardOf Op} → Takes touches effect old index job new
      → (waiting_count new + 1 ≡ waiting_count old) × (unfinished_of new ≡ unfinished_of old)
  Takes-counts {old} {index} {job} {new} takes =
      let here = taken_waits old index job new takes in
      let waiting = ap (λ b. waiting_count b) takes.out in
      let unfinished = ap (λ b. unfinished_of b) takes.out in
      let a = count-set is_waiting old.states takes.position Waiting Out here in
      let b = count-set is_unfinished old.states takes.position Waiting Out here in
      (omega (arith, waiting, a), omega (arith, unfinished, b))

  -- one fewer is unfinished, and the same number waits
  pub Finishes-counts : {old : BoardOf Op} {done : DoneOf Op} {reply : Reply} {new : BoardOf Op} → Finishes touches effect old done reply new
      → (unfinished_of new + 1 ≡ unfinished_of old) × (waiting_count new ≡ waiting_count old)
  Finishes-counts {old} {done} {reply} {new} finishes =
      let here = finishes.here.out in
      let waiting = ap (λ b. waiting_count b) finishes.finished in
      let unfinished = ap (λ b. unfinished_of b) finishes.finished in
      let a = count-set is_unfinished old.states finishes.position Out (Finished reply) here in
      let b = count-set is_waiting old.states finishes.position Out (Finished reply) here in
      (omega (arith, unfinished, a), omega (arith, waiting, b))

  -- the result of a job that was just handed out is accepted
  pub Takes-here : {old : BoardOf Op} {index : ℕ} {job : JobOf Op} {new : BoardOf Op} (done : DoneOf Op) → Takes touches effect old index job new
      → IsResultOf done job → IsOutHere touches effect new done
  Takes-here {old} {index} {job} {new} done takes (number, behaviour, inputs) = (
    takes.position,
    record {
      number = number ∙ takes.number ∙ ap (λ b. behaviour_number b takes.position) (sym takes.out);
      out = ap (λ b. slice_get b.states takes.position) takes.out
          ∙ slice_get-set_same old.states takes.position Out (slice_get_within old.states takes.position Waiting (taken_waits old index job new takes));
      behaviour = ap (λ b. slice_get b.log takes.position) takes.out ∙ takes.behaviour ∙ ap (λ x. Some x) (sym behaviour);
      inputs = inputs ∙ takes.inputs ∙ ap (inputs_at touches effect old takes.position) (sym behaviour)
          ∙ ap (λ b. inputs_at touches effect b takes.position done.behaviour) (sym takes.out);
    },
  )

  -- if nothing was out, only what was just handed out is
  out_is_taken : (old : BoardOf Op) (index : ℕ) (job : JobOf Op) (new : BoardOf Op) (takes : Takes touches effect old index job new) → HasNoneOut old
      → (j : ℕ) → slice_get new.states j ≡ Some Out → j ≡ takes.position
  out_is_taken old index job new takes none j out = elim (cases_eq j takes.position) [
    | inl same ↦ same
    | inr differs ↦ absurd (none j (sym (slice_get-set_other old.states takes.position j Out differs) ∙ ap (λ b. slice_get b.states j) (sym takes.out) ∙ out))
  ]

  -- and once that is finished, nothing is out
  pub HasNoneOut-again : {old : BoardOf Op} {index : ℕ} {job : JobOf Op} {mid : BoardOf Op} {done : DoneOf Op} {reply : Reply} {new : BoardOf Op}
      → Takes touches effect old index job mid → Finishes touches effect mid done reply new → HasNoneOut old → HasNoneOut new
  HasNoneOut-again {old} {index} {job} {mid} {done} {reply} {new} takes finishes none = λ j out.
      let alone = out_is_taken old index job mid takes none in
      let at : finishes.position ≡ takes.position = alone finishes.position finishes.here.out in
      let within : finishes.position < length mid.states = slice_get_within mid.states finishes.position Out finishes.here.out in
      elim (cases_eq j finishes.position) [
        | inl same ↦ out_not_finished reply (injective (sym out ∙ ap (slice_get new.states) same
            ∙ ap (λ b. slice_get b.states finishes.position) finishes.finished ∙ slice_get-set_same mid.states finishes.position (Finished reply) within))
        | inr differs ↦ differs (alone j (sym (slice_get-set_other mid.states finishes.position j (Finished reply) differs)
            ∙ ap (λ b. slice_get b.states j) (sym finishes.finished) ∙ out) ∙ sym at)
      ]

-- If the crew keeps nothing and nothing was out, nothing is unfinished once nothing is ready.
use Rattle.std.proofs.Common.{◌≡◌, ℕ, ◌<◌, ◌≤◌, refl, sym, ap, ◌∙◌, arith}
use Rattle.std.proofs.lemmas.Bool.{true≢false}
use Rattle.std.proofs.lemmas.Result.{err_from_is_err_and}
use Rattle.cown_board.specs.Board.{unfinished_of}
use Rattle.cown_workers.proofs.BoardSteps.{PreservesLog_same, PreservesLog_trans}
use Rattle.cown_workers.proofs.CrewExchanges.{Exchanged-none, Exchanged_trans, drained, given_up}
use Rattle.cown_workers.proofs.IdleBoards.{nothing_left}
use Rattle.cown_workers.proofs.draining.drain.Goals as goal

pub loop-runs-preserved : goal.loop-runs-preserved
loop-runs-preserved g c =
    let before = c.loop-runs.invariant in
    record {
      exchanged = Exchanged_trans g.C.Crew.acts before.exchanged
          (Exchanged_trans g.C.Crew.acts c.give_ready.ensures.exchanged c.in_ok-finish_next.ensures.exchanged);
      drains = PreservesLog_trans before.drains (PreservesLog_trans c.give_ready.ensures.log c.finish_next.ensures.log);
      none_out = λ nothing none. c.finish_next.ensures.none_out nothing (c.give_ready.ensures.none_out nothing (before.none_out nothing none));
      rest = c.finish_next.ensures.rest ∙ c.give_ready.ensures.rest ∙ before.rest;
    }

pub returns-then-idle-clause-exchanged : goal.returns-then-idle-clause-exchanged
returns-then-idle-clause-exchanged g c =
    drained g.C.Crew.acts (Exchanged_trans g.C.Crew.acts c.loop-runs.invariant.exchanged c.give_ready.ensures.exchanged)
    (c.idle.ensures.value.0 c.if-idle.true)

pub returns-in_err-finish_next-clause-exchanged : goal.returns-in_err-finish_next-clause-exchanged
returns-in_err-finish_next-clause-exchanged g c =
    let (last, (acted, in_vain)) = c.in_err-finish_next.ensures.exchanged in
    let exit = err_from_is_err_and c.from_residual.result c.from_residual.ensures.1 in
    rw exit.1
    (given_up g.C.Crew.acts (Exchanged_trans g.C.Crew.acts c.loop-runs.invariant.exchanged c.give_ready.ensures.exchanged)
    last acted in_vain c.in_err-finish_next.ensures.crew_lost)

pub returns-in_err-finish_next-clause-succeeds : goal.returns-in_err-finish_next-clause-succeeds
returns-in_err-finish_next-clause-succeeds g c = λ nothing none.
    let given = c.give_ready.ensures.none_out nothing (c.loop-runs.invariant.none_out nothing none) in
    let all : unfinished_of (g.R.Runs.board c.give_ready.new.runs) ≡ 0 =
    nothing_left (g.R.Runs.board c.give_ready.new.runs) c.idle.ensures.same_length given c.give_ready.ensures.none_ready in
    absurd (true≢false (sym (c.idle.ensures.value.1 all) ∙ c.if-idle.false))

pub returns-in_err-finish_next-clause-crew_lost : goal.returns-in_err-finish_next-clause-crew_lost
returns-in_err-finish_next-clause-crew_lost g c =
    let exit = err_from_is_err_and c.from_residual.result c.from_residual.ensures.1 in
    let same = ap unfinished_of c.in_err-finish_next.ensures.crew_lost in
    rw exit.1 (λ none. absurd (true≢false (sym (c.idle.ensures.value.1 (sym same ∙ none)) ∙ c.if-idle.false)))

pub returns-in_err-finish_next-clause-log : goal.returns-in_err-finish_next-clause-log
returns-in_err-finish_next-clause-log g c =
    PreservesLog_trans c.loop-runs.invariant.drains (PreservesLog_trans c.give_ready.ensures.log c.finish_next.ensures.log)

pub returns-in_err-finish_next-clause-rest : goal.returns-in_err-finish_next-clause-rest
returns-in_err-finish_next-clause-rest g c = c.finish_next.ensures.rest ∙ c.give_ready.ensures.rest ∙ c.loop-runs.invariant.rest

pub returns-then-idle-clause-ok : goal.returns-then-idle-clause-ok
returns-then-idle-clause-ok g c = c.idle.ensures.value.0 c.if-idle.true

pub returns-then-idle-clause-log : goal.returns-then-idle-clause-log
returns-then-idle-clause-log g c = PreservesLog_trans c.loop-runs.invariant.drains c.give_ready.ensures.log

pub returns-then-idle-clause-rest : goal.returns-then-idle-clause-rest
returns-then-idle-clause-rest g c = c.give_ready.ensures.rest ∙ c.loop-runs.invariant.rest

fewer_still : (new mid old : ℕ) → new < mid → mid ≤ old → new < old
fewer_still new mid old less most = omega arith

pub loop-runs-init : goal.loop-runs-init
loop-runs-init g c = record {
  exchanged = Exchanged-none g.C.Crew.acts c.args.crew.now (g.R.Runs.board c.args.runs.now);
  drains = PreservesLog_same (g.R.Runs.board c.args.runs.now);
  none_out = λ _ none. none;
  rest = refl;
}

pub loop-runs-smaller : goal.loop-runs-smaller
loop-runs-smaller g c = fewer_still _ _ _ c.in_ok-finish_next.ensures.ok c.give_ready.ensures.unfinished

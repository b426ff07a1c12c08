-- One more was given.
use Rattle.std.proofs.Common.{ℕ, ◌≤◌, refl, ◌∙◌, le_refl, arith}
use Rattle.cown_workers.proofs.BoardSteps.{PreservesLog_same, PreservesLog_trans}
use Rattle.cown_workers.proofs.CrewExchanges.{Exchanged-none, Exchanged_trans}
use Rattle.cown_workers.proofs.draining.give_ready.Goals as goal

no_more : (new mid old : ℕ) → new ≤ mid → mid ≤ old → new ≤ old
no_more new mid old most more = omega arith

pub loop-init : goal.loop-init
loop-init g c = record {
  exchanged = Exchanged-none g.C.Crew.acts c.args.crew.now (g.R.Runs.board c.args.runs.now);
  drains = PreservesLog_same (g.R.Runs.board c.args.runs.now);
  unfinished = le_refl _;
  none_out = λ _ none. none;
  rest = refl;
}

pub loop-preserved : goal.loop-preserved
loop-preserved g c =
    let before = c.loop.invariant in
    let given = c.give_first.ensures in
    record {
      exchanged = Exchanged_trans g.C.Crew.acts before.exchanged given.exchanged;
      drains = PreservesLog_trans before.drains given.log;
      unfinished = no_more _ _ _ given.unfinished before.unfinished;
      none_out = λ nothing none. given.none_out nothing (before.none_out nothing none);
      rest = given.rest ∙ before.rest;
    }

pub returns-clause-exchanged : goal.returns-clause-exchanged
returns-clause-exchanged g c = Exchanged_trans g.C.Crew.acts c.loop.invariant.exchanged c.give_first.ensures.exchanged

pub returns-clause-log : goal.returns-clause-log
returns-clause-log g c = PreservesLog_trans c.loop.invariant.drains c.give_first.ensures.log

pub returns-clause-unfinished : goal.returns-clause-unfinished
returns-clause-unfinished g c = no_more _ _ _ c.give_first.ensures.unfinished c.loop.invariant.unfinished

pub returns-clause-none_out : goal.returns-clause-none_out
returns-clause-none_out g c nothing none = c.give_first.ensures.none_out nothing (c.loop.invariant.none_out nothing none)

pub returns-clause-rest : goal.returns-clause-rest
returns-clause-rest g c = c.give_first.ensures.rest ∙ c.loop.invariant.rest

-- Each that is given waited.
use Rattle.std.proofs.Common.{◌≡◌, ◌≤◌, false}
use Rattle.cown_board.specs.Board.{unfinished_of}
use Rattle.cown_workers.specs.Draining.{PreservesLog, HasNoneOut}
use Rattle.cown_workers.specs.inner.DrainSteps.{HasExchanges, waiting_count}
use Rattle.cown_workers.proofs.draining.give_ready.Given as goal

abbrev pub invariant-loop : goal.invariant-loop
invariant-loop g l = record {
  exchanged : HasExchanges g.C.Crew.acts l.fn.crew l.crew (g.R.Runs.board l.fn.runs) (g.R.Runs.board l.runs);
  drains : PreservesLog (g.R.Runs.board l.fn.runs) (g.R.Runs.board l.runs);
  unfinished : unfinished_of (g.R.Runs.board l.runs) ≤ unfinished_of (g.R.Runs.board l.fn.runs);
  none_out : g.C.Crew.keeps ≡ false → HasNoneOut (g.R.Runs.board l.fn.runs) → HasNoneOut (g.R.Runs.board l.runs);
  rest : g.R.Runs.rest l.runs ≡ g.R.Runs.rest l.fn.runs;
}

abbrev pub decreases-loop : goal.decreases-loop
decreases-loop g l = waiting_count (g.R.Runs.board l.runs)

-- Each round but the last finishes one more.
use Rattle.std.proofs.Common.{◌≡◌, false}
use Rattle.cown_board.specs.Board.{unfinished_of}
use Rattle.cown_workers.specs.Draining.{PreservesLog, HasNoneOut}
use Rattle.cown_workers.specs.inner.DrainSteps.{HasExchanges}
use Rattle.cown_workers.proofs.draining.drain.Given as goal

abbrev pub invariant-loop-runs : goal.invariant-loop-runs
invariant-loop-runs g l = record {
  exchanged : HasExchanges g.C.Crew.acts l.fn.crew l.crew (g.R.Runs.board l.fn.runs) (g.R.Runs.board l.runs);
  drains : PreservesLog (g.R.Runs.board l.fn.runs) (g.R.Runs.board l.runs);
  none_out : g.C.Crew.keeps ≡ false → HasNoneOut (g.R.Runs.board l.fn.runs) → HasNoneOut (g.R.Runs.board l.runs);
  rest : g.R.Runs.rest l.runs ≡ g.R.Runs.rest l.fn.runs;
}

abbrev pub decreases-loop-runs : goal.decreases-loop-runs
decreases-loop-runs g l = unfinished_of (g.R.Runs.board l.runs)

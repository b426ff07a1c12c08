-- The opening stays.
use Rattle.std.proofs.Common.{◌≡◌, ◌*◌, length}
use Rattle.sb_calls.specs.Cowns.{contents_of}
use Rattle.schedule_tests.proofs.traces.submit_calls.Given as goal

abbrev pub invariant-loop-line : goal.invariant-loop-line
invariant-loop-line g l = length (contents_of l.board.opening) ≡ 2 * length l.directory

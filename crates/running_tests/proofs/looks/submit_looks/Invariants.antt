-- The opening stays.
use Rattle.std.proofs.Common.{◌≡◌, length}
use Rattle.sb_calls.specs.Cowns.{contents_of}
use Rattle.running_tests.proofs.looks.submit_looks.Given as goal

abbrev pub invariant-loop-first : goal.invariant-loop-first
invariant-loop-first g l = length (contents_of l.board.opening) ≡ 6

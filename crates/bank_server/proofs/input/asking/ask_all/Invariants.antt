use Rattle.std.proofs.Common.{◌≡◌, ◌+◌, ◌≤◌, List, [], length}
use Rattle.sb_calls.specs.declared.ask.AskLine.{AskLine}
use Rattle.sb_rows.specs.Text.{lines}
use Rattle.bank_server.specs.Input.{asks_from}
use Rattle.bank_server.specs.inner.AskSteps.{HasStandings}
use Rattle.bank_server.proofs.input.asking.ask_all.Given as goal

-- these are the asks so far: with those of what is left they are all, and the log and the standings
-- are theirs
abbrev pub invariant-loop-left : goal.invariant-loop-left
invariant-loop-left g l = (asks : List AskLine) × record {
  all : asks_from l.first_line asks (lines l.left) ≡ asks_from l.first_line [] (lines l.text);
  standings : HasStandings asks l.running l.primary.log l.standings.items;
  room : length asks + length l.left ≤ length l.text;
  count : length l.standings.items ≡ length asks;
  node : l.primary.node ≡ l.fn.primary.node;
  few : l.running ≤ length asks + 1;
}

abbrev pub decreases-loop-left : goal.decreases-loop-left
decreases-loop-left g l = length l.left

use Rattle.std.proofs.Common.{◌≡◌, ◌+◌, ◌≤◌, List, ◌++◌, length, take}
use Rattle.sb_calls.specs.declared.ask.AskLine.{AskLine}
use Rattle.bank_server.specs.inner.AskSteps.{HasStandings}
use Rattle.bank_server.proofs.input.asking.ask_batch.Given as goal

-- so many of the batch were asked
abbrev pub invariant-loop-asked : goal.invariant-loop-asked
invariant-loop-asked g l = record {
  asked : (asks : List AskLine) → HasStandings asks l.first_running l.fn.primary.log l.fn.standings.items
      → HasStandings (asks ++ take l.asked-index l.batch) l.running l.primary.log l.standings.items;
  running : l.running ≤ l.first_running + l.asked-index;
  count : length l.standings.items ≡ length l.fn.standings.items + l.asked-index;
  node : l.primary.node ≡ l.fn.primary.node;
}

use Rattle.std.proofs.Common.{◌≡◌, ◌++◌, take, drop}
use Rattle.std.specs.List.{All}
use Rattle.sb_ask_log.specs.Asks.{IsAsk, asks_field}
use Rattle.sb_ask_log.proofs.ask_log.push_asks.Given as goal

abbrev pub invariant-loop-before : goal.invariant-loop-before
invariant-loop-before l = record {
  spelled : l.out.items ≡ l.initial.out.items ++ asks_field (drop l.from (take l.before l.log.log));
  valid : All IsAsk (drop l.from (take l.before l.log.log));
}

-- How many asks a log answered.
use Rattle.std.specs.Prelude.{◌-◌}
use Rattle.bank_server.specs.declared.node0.ask_counts.AskCounts.{AskCounts}

-- before the first ask
abbrev pub no_asks : AskCounts
no_asks = record { entries = 0; repeats = 0; refusals = 0 }

-- those since there were as many as earlier
abbrev pub counts_since : AskCounts → AskCounts → AskCounts
counts_since now earlier = record {
  entries = now.entries - earlier.entries;
  repeats = now.repeats - earlier.repeats;
  refusals = now.refusals - earlier.refusals;
}

use Rattle.std.proofs.Common.{◌≡◌, ◌≤◌, ◌+◌, ◌^◌, ◌++◌, length, drop}
use Rattle.std.specs.List.{flat_map}
use Rattle.sb_frames.specs.Grammar.{spelling}
use Rattle.ask_client.specs.Batches.{ask_frames}
use Rattle.ask_client.proofs.batch.Batch.spell.Given as goal

-- what is written and what is left to write are all asks
abbrev pub invariant-loop-call : goal.invariant-loop-call
invariant-loop-call l = record {
  all : l.bytes.items ++ flat_map spelling (ask_frames l.self.client l.request (drop l.call-index l.call-items))
      ≡ l.fn.bytes.items ++ flat_map spelling (ask_frames l.self.client l.self.first l.self.calls);
  numbered : l.request + length (drop l.call-index l.call-items) ≤ 2 ^ 32;
}

use Rattle.std.proofs.Common.{◌≡◌, length, map, take}
use Rattle.sb_calls.specs.Op.{op_of}
use Rattle.bank_server.specs.inner.Appends.{AreOpsWithin}
use Rattle.bank_server.proofs.node0.resolving.resolve_part.Given as goal

-- the calls so far are looked up
abbrev pub invariant-loop-call : goal.invariant-loop-call
invariant-loop-call l = record {
  value : l.ops.items ≡ map (op_of l.directory) (take l.call-index l.calls);
  within : AreOpsWithin (length l.directory) l.ops.items;
}

use Rattle.std.proofs.Common.{◌≤◌, length}
use Rattle.bank_clients.proofs.slot.Slot.write.Given as goal

-- what is left is a rest of the bytes
abbrev pub invariant-loop : goal.invariant-loop
invariant-loop l = length l.rest ≤ length l.bytes

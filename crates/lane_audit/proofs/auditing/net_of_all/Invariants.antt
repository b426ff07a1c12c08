use Rattle.std.proofs.Common.{◌≡◌, take}
use Rattle.sb_calls.specs.Net.{net_sum}
use Rattle.lane_audit.specs.inner.NetBounds.{IsPossibleNet}
use Rattle.lane_audit.proofs.auditing.net_of_all.Given as goal

abbrev pub invariant-loop-index : goal.invariant-loop-index
invariant-loop-index l = record { same : l.added ≡ net_sum (take l.index l.calls) (take l.index l.replies); within : IsPossibleNet l.index l.added }

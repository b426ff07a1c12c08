use Rattle.std.proofs.Common.{take}
use Rattle.lane_audit.proofs.Chunks.{joined}
use Rattle.lane_audit.proofs.Totals.{BitsAre}
use Rattle.lane_audit.proofs.summing.sum_of_blocks.Given as goal

-- the lanes have the sums of the blocks so far
abbrev pub invariant-loop-block : goal.invariant-loop-block
invariant-loop-block l = BitsAre l.block-index l.sums (joined (take l.block-index l.blocks))

use Rattle.std.proofs.Common.{take}
use Rattle.lane_audit.proofs.Chunks.{joined}
use Rattle.lane_audit.proofs.Counts.{CountsAre}
use Rattle.lane_audit.proofs.counting.count_in_blocks.Given as goal

abbrev pub invariant-loop-block : goal.invariant-loop-block
invariant-loop-block l = CountsAre l.low l.counts (joined (take l.block-index l.blocks))

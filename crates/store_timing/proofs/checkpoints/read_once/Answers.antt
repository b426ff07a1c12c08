-- The bytes spell only one checkpoint, so what is read has as many replies as what was written.
use Rattle.std.proofs.Common.{length, ap, ◌∙◌}
use Rattle.store_timing.proofs.Sizes.{full_is_read}
use Rattle.store_timing.proofs.checkpoints.read_once.Goals as goal

pub returns : goal.returns
returns c =
    ap length c.replies-2.ensures
    ∙ full_is_read c.args.opening_total _ c.args.bytes.now c.in_ok-checkpoint.checkpoint c.requires c.in_ok-checkpoint.ensures.checkpoint.0

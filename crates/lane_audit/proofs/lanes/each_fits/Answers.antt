-- Each value was read.
use Rattle.std.proofs.Common.{pos, FitsSigned, w64, arith}
use Rattle.std.proofs.lemmas.List.Elements.{All-from_get_or}
use Rattle.lane_audit.proofs.lanes.each_fits.Goals as goal

pub returns : goal.returns
returns c =
    All-from_get_or (FitsSigned w64) c.args.values.now (pos 0) (λ k inside. c.loop-value.invariant k (omega (arith, inside, c.loop-value-test.false)))

use Rattle.std.proofs.Common.{◌<◌, arith}
use Rattle.sb_calls.proofs.EffectCases.{amalgamates_giver_first, amalgamates_taker_first}
use Rattle.sb_calls.proofs.cowns.performing.amalgamate.Goals as goal

pub returns-then-from-to : goal.returns-then-from-to
returns-then-from-to c =
    let lt : c.args.places.0 < c.args.places.1 = omega (arith, c.from.ensures.value, c.to.ensures.value, c.if-from-to.true) in
    rw (amalgamates_giver_first c.args.places.0 c.args.places.1 c.args.inputs.now _ _ _ lt c.requires c.index-inputs-0.is c.index-inputs-1.is
    c.index-inputs-2.is)
    c.amalgamate_giver_first.ensures

pub returns-else-from-to : goal.returns-else-from-to
returns-else-from-to c =
    let lt : c.args.places.1 < c.args.places.0 =
    omega (arith, c.from.ensures.value, c.to.ensures.value, c.if-from-to.false, c.from.ensures.different) in
    rw (amalgamates_taker_first c.args.places.0 c.args.places.1 c.args.inputs.now _ _ _ lt c.requires c.index-inputs-0.is c.index-inputs-1.is
    c.index-inputs-2.is)
    c.amalgamate_taker_first.ensures

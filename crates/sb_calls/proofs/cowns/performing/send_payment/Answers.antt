use Rattle.std.proofs.Common.{◌<◌, arith}
use Rattle.sb_calls.proofs.EffectCases.{pays_payee_first, pays_payer_first}
use Rattle.sb_calls.proofs.cowns.performing.send_payment.Goals as goal

pub returns-then-payer_is_first : goal.returns-then-payer_is_first
returns-then-payer_is_first c =
    let lt : c.args.places.0 < c.args.places.1 = omega (arith, c.from.ensures.value, c.to.ensures.value, c.if-payer_is_first.true) in
    rw (pays_payer_first c.args.places.0 c.args.places.1 c.args.amount c.args.inputs.now _ _ lt c.requires c.index-inputs-0.is c.index-inputs-1.is)
    c.pay_payer_first.ensures

pub returns-else-payer_is_first : goal.returns-else-payer_is_first
returns-else-payer_is_first c =
    let lt : c.args.places.1 < c.args.places.0 =
    omega (arith, c.from.ensures.value, c.to.ensures.value, c.if-payer_is_first.false, c.from.ensures.different) in
    rw (pays_payee_first c.args.places.0 c.args.places.1 c.args.amount c.args.inputs.now _ _ lt c.requires c.index-inputs-0-else-payer_is_first.is
    c.index-inputs-1-else-payer_is_first.is)
    c.pay_payee_first.ensures

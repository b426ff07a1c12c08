use Rattle.std.proofs.Common.{◌++◌, ◌∙◌, List, ℕ, ap, sym, arith}
use Rattle.sb_ask_log.proofs.Fields.{one_spelled}
use Rattle.sb_ask_log.proofs.ask_log.push_asks.Goals as goal

pub loop-before-preserved : goal.loop-before-preserved
loop-before-preserved c =
    let i = c.loop-before.invariant in
    let next = one_spelled c.args.log.now.log c.args.from c.loop-before.before c.args.out.now.items c.loop-before.out.items c.extend_from_slice.new.self.items
    c.encode.result.items c.unwrap-call.result (omega arith) (omega (arith, c.length-before-end.ensures.value, c.loop-before-test.true))
    (sym c.ask_of.ensures ∙ c.unwrap-call.ensures) (record { valid = c.encode.ensures.valid; spelled = c.encode.ensures.spelled }) i.spelled i.valid
    (c.in_ok-extend_from_slice.ensures.items ∙ ap (λ (l : List ℕ). c.loop-before.out.items ++ l) c.deref.ensures.0) in
    record { spelled = next.0; valid = next.1 }

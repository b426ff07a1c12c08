use Rattle.std.proofs.Common.{◌≡◌, ◌+◌, ◌+ℤ◌, sym, ap₂, ◌∙◌, subst, arith, w64, to_z, of_z}
use Rattle.std.proofs.lemmas.Int.{to_z-of_z}
use Rattle.lane_audit.specs.inner.NetBounds.{IsPossibleNet}
use Rattle.lane_audit.proofs.Audits.{net_fits, net_sum_more, within_more}
use Rattle.lane_audit.proofs.auditing.net_of_all.Goals as goal

pub loop-index-preserved : goal.loop-index-preserved
loop-index-preserved c =
    let i = c.loop-index.index in
    let added = to_z w64 c.loop-index.added-bits in
    let one = c.net_of_one-added.result in
    let plain : to_z w64 (of_z w64 one) ≡ one = to_z-of_z w64 one (record { sfits = c.net_of_one-added.type_inv }) in
    let within : IsPossibleNet (i + 1) (added +ℤ to_z w64 (of_z w64 one)) =
    within_more i added (to_z w64 (of_z w64 one)) c.loop-index.invariant.within (subst (IsPossibleNet 1) (sym plain) c.net_of_one-added.ensures.within) in
    let back = to_z-of_z w64 (added +ℤ to_z w64 (of_z w64 one)) (net_fits (i + 1) _ (omega arith) within) in
    record {
      same = back ∙ ap₂ (λ a b. a +ℤ b) c.loop-index.invariant.same plain
          ∙ net_sum_more c.args.calls.now c.args.replies.now i _ _ c.loop-index-test.true (omega arith) c.index-calls-index.is c.net_of_one-added.ensures.value;
      within = subst (IsPossibleNet (i + 1)) (sym back) within;
    }

use Rattle.std.proofs.Common.{◌≡◌, ◌≢◌, ℕ, ◌≤◌, inl, inr, Some, List, length, slice_get, get_or, refl, ap, subst, ◌∙◌, arith}
use Rattle.std.proofs.lemmas.Option.{get_or_from_slice_get, slice_get-get_or}
use Rattle.sb_sequencer.proofs.DonorChoice.{IsDonorBefore, donor_is, donor_with_more, donor_stays, donor_of_all}
use Rattle.sb_sequencer.proofs.sequencer.Sequencer.donor_above.Goals as goal
use Rattle.sb_sequencer.proofs.sequencer.Sequencer.donor_above.Goals.{then-other-replica+then-size-most, else-other-replica}

pub loop-index-init : goal.loop-index-init
loop-index-init c = record { least = omega arith; below = λ other more l. absurd (omega (arith, l)); has = refl }

pub loop-index-preserved : goal.loop-index-preserved
loop-index-preserved c =
    let sizes = c.as_slice-checkpoints.result.now in
    let replica = c.args.replica in
    let before = c.loop-index.index in
    let size = get_or sizes before 0 in
    let most = c.loop-index.most in
    elim c.if-other-replica.branch [
      | then-other-replica+then-size-most w ↦
          let there : slice_get sizes before ≡ Some size = slice_get-get_or sizes before 0 c.loop-index-test.true in
          let better =
          donor_with_more sizes replica c.args.length before most c.loop-index.donor c.loop-index.invariant size w.if-other-replica.true there
          w.if-size-most.true in
          donor_is sizes replica c.args.length _ _ _ _ _ better w.most-is w.donor-is
      | else-other-replica w ↦
          let no_more : (other : ℕ) → before ≢ replica → slice_get sizes before ≡ Some other → other ≤ most = λ other differs here.
          let same : size ≡ other = get_or_from_slice_get sizes before other 0 here in
          elim w.else-other-replica.either [ inl less ↦ omega (arith, less.1, same) | inr own ↦ absurd (differs own) ] in
          let kept = donor_stays sizes replica c.args.length before most c.loop-index.donor c.loop-index.invariant no_more in
          donor_is sizes replica c.args.length _ _ _ _ _ kept w.most-is w.donor-is
    ]

pub returns : goal.returns
returns c =
    let same : c.as_slice-checkpoints.result.now ≡ c.args.self.now.checkpoints =
    c.as_slice-checkpoints.ensures.value ∙ ap (λ s. s.checkpoints) c.self.view_is in
    donor_of_all c.args.self.now c.args.replica c.args.length c.loop-index.index c.loop-index.most c.loop-index.donor c.requires
    (omega (arith, ap length same, c.loop-index-test.false))
    (subst (λ (sizes : List ℕ). IsDonorBefore sizes c.args.replica c.args.length c.loop-index.index c.loop-index.most c.loop-index.donor) same
    c.loop-index.invariant)

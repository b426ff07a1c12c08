use Rattle.sb_sequencer.proofs.DonorChoice.{IsDonorBefore}
use Rattle.sb_sequencer.proofs.sequencer.Sequencer.donor_above.Given as goal

abbrev pub invariant-loop-index : goal.invariant-loop-index
invariant-loop-index l = IsDonorBefore l.checkpoints l.replica l.length l.index l.most l.donor

use Rattle.sb_checkpoint.proofs.SpellingIsRead.{one_checkpoint}
use Rattle.sb_checkpoint.proofs.laws.one_checkpoint.Goals as goal

pub returns : goal.returns
returns c = one_checkpoint

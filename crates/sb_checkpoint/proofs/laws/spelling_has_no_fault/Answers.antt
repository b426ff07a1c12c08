use Rattle.sb_checkpoint.proofs.SpellingIsRead.{spelling_has_no_fault}
use Rattle.sb_checkpoint.proofs.laws.spelling_has_no_fault.Goals as goal

pub returns : goal.returns
returns c = spelling_has_no_fault

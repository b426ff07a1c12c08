use Rattle.checkpoint_text.proofs.StatedSpellings.{faultless_if_spelled}
use Rattle.checkpoint_text.proofs.laws.faultless_if_spelled.Goals as goal

pub returns : goal.returns
returns c = faultless_if_spelled

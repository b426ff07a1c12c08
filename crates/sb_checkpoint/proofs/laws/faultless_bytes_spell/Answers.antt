use Rattle.sb_checkpoint.proofs.FaultlessBytes.{faultless_bytes_spell}
use Rattle.sb_checkpoint.proofs.laws.faultless_bytes_spell.Goals as goal

pub returns : goal.returns
returns c = faultless_bytes_spell

use Rattle.sb_log.proofs.Records.{one_record}
use Rattle.sb_log.proofs.laws.one_record.Goals as goal

pub returns : goal.returns
returns c = one_record

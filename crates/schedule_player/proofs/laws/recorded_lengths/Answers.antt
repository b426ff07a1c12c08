use Rattle.schedule_player.proofs.logs.RecordedLengths.{records_played}
use Rattle.schedule_player.proofs.laws.recorded_lengths.Goals as goal

pub returns : goal.returns
returns c = records_played

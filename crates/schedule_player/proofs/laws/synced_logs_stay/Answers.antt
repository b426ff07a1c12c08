use Rattle.schedule_player.proofs.logs.LogLaws.{synced_stay}
use Rattle.schedule_player.proofs.laws.synced_logs_stay.Goals as goal

pub returns : goal.returns
returns c = synced_stay

use Rattle.schedule_player.proofs.logs.Restarting.{restarts}
use Rattle.schedule_player.proofs.laws.restarts_as_after_a_crash.Goals as goal

pub returns : goal.returns
returns c = restarts

use Rattle.schedule_player.proofs.logs.LogLaws.{first_asks_alone}
use Rattle.schedule_player.proofs.laws.log_is_first_asks.Goals as goal

pub returns : goal.returns
returns c = first_asks_alone

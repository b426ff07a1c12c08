use Rattle.schedule_player.proofs.events.EventLists.{holds_after_playing}
use Rattle.schedule_player.proofs.laws.after_playing.Goals as goal

pub returns : goal.returns
returns c = holds_after_playing

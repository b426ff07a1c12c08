use Rattle.replica_laws.proofs.FollowerEvents.{messages_are_events}
use Rattle.replica_laws.proofs.laws.messages_are_events.Goals as goal

pub returns : goal.returns
returns c = messages_are_events

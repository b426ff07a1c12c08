-- The messages of a follower are events at a replica of the machine.
use Rattle.std.proofs.Common.{sym, subst}
use Rattle.std.specs.List.{AllByRecursion}
use Rattle.std.proofs.lemmas.List.Elements.{recursion_from_All}
use Rattle.replica_laws.specs.FollowerEvents.{EventsLead, IsSentBefore, MessagesAreEvents}
use Rattle.replica_laws.specs.FollowerMoves.{follower_node}
use Rattle.replica_laws.proofs.FollowerMessages.{messages_are_moves}
use Rattle.replica_laws.proofs.MovesAsEvents.{events_happen}

pub messages_are_events : MessagesAreEvents
messages_are_events bank sequencer r old new messages frames inbound is short log sent handled =
    let out = messages_are_moves bank old new messages frames is short log handled in
    let all = recursion_from_All (IsSentBefore inbound) frames sent in
    subst (EventsLead bank sequencer r (follower_node inbound old.replica)) (out.moved inbound)
    (events_happen bank sequencer r out.moves (follower_node inbound old.replica)
    (subst (AllByRecursion (IsSentBefore inbound)) (sym out.heard) all))

-- The turns of node 0 are events at replica 0 of the machine.
use Rattle.std.proofs.Common.{inr, List, get_or, subst}
use Rattle.std.specs.List.{All}
use Rattle.std.proofs.lemmas.List.Elements.{recursion_from_All}
use Rattle.sb_frames.specs.declared.frame.Frame.{Frame}
use Rattle.replica_laws.specs.FollowerEvents.{EventsLead, IsSentBefore}
use Rattle.replica_laws.specs.FollowerMoves.{frames_heard}
use Rattle.replica_laws.specs.Node0Events.{Node0Events}
use Rattle.replica_laws.specs.Node0Moves.{node0_node}
use Rattle.replica_laws.proofs.MovesAsEvents.{events_happen}
use Rattle.replica_laws.proofs.Node0Turns.{node0_moves}

pub node0_events : (S : Type 0) → Node0Events S
node0_events S bank sequencer old new turns inbound is taken sent =
    let along = node0_moves S bank old new turns is taken in
    let frames : List Frame = frames_heard along.moves in
    let all : All (IsSentBefore inbound) frames = λ k d within. inr (sent (get_or frames k d) (along.heard k d within)) in
    subst (EventsLead bank sequencer 0 (node0_node inbound old)) (along.moved inbound)
    (events_happen bank sequencer 0 along.moves (node0_node inbound old) (recursion_from_All (IsSentBefore inbound) frames all))

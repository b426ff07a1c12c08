-- What node 0 does, as events at replica 0 of the reference machine.
use Rattle.std.specs.Prelude.{List}
use Rattle.std.specs.List.{Contains}
use Rattle.sb_frames.specs.declared.frame.Frame.{Frame}
use Rattle.sb_replica.specs.Replica.{ReplicaOf}
use Rattle.sb_sequencer.specs.Sequencer.{SequencerOf}
use Rattle.replica_laws.specs.FollowerEvents.{EventsLead}
use Rattle.replica_laws.specs.Node0Moves.{IsNode0Of, node0_node}
use Rattle.bank_server.specs.NodeTurns.{NodeTurn, TakesNodeTurns}
use Rattle.schedule_player.specs.Bank.{BankOf}
use Rattle.schedule_player.specs.FramesOfLog.{IsEntryOf}
use Rattle.schedule_player.specs.MachineView.{ops_of}

-- if each entry of the log was sent to replica 0, whatever else was, then what node 0 does in its
-- turns are events at that replica
abbrev pub Node0Events : Type 0 → Type 0
Node0Events S = (bank : BankOf) (sequencer : SequencerOf) (old new : ReplicaOf S) (turns : List NodeTurn)
    (inbound : List Frame)
    → IsNode0Of bank old → TakesNodeTurns (ops_of bank) old turns new
    → ((sent : Frame) → IsEntryOf bank sent → Contains inbound sent)
    → EventsLead bank sequencer 0 (node0_node inbound old) (node0_node inbound new)

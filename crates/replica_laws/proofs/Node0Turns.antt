-- The turns of node 0 are moves of the machine.
use Rattle.std.proofs.Common.{List, [], ◌∷◌, sym, subst}
use Rattle.sb_replica.specs.Replica.{ReplicaOf}
use Rattle.schedule_player.specs.Bank.{BankOf}
use Rattle.schedule_player.specs.MachineView.{ops_of}
use Rattle.replica_laws.specs.Node0Moves.{IsNode0Of, MovesAsNode0, Node0Moves}
use Rattle.bank_server.specs.NodeTurns.{NodeTurn, Offers, Exchanges, TakesNodeTurn, TakesNodeTurns}
use Rattle.replica_laws.proofs.CrewExchanges.{exchange_along}
use Rattle.replica_laws.proofs.EntriesOffered.{offers_along}
use Rattle.replica_laws.proofs.MovesInOrder.{moves_both, no_moves}

node_turn_along : {S : Type 0} (bank : BankOf) (old new : ReplicaOf S) (turn : NodeTurn) → IsNode0Of bank old → TakesNodeTurn (ops_of bank) old turn new
    → MovesAsNode0 bank old new
node_turn_along bank old new Offers is offers = offers_along bank old new is offers
node_turn_along bank old new (Exchanges step) is exchanges = exchange_along bank old new step is exchanges

node_turns_along : {S : Type 0} (bank : BankOf) (old new : ReplicaOf S) (turns : List NodeTurn) → IsNode0Of bank old
    → TakesNodeTurns (ops_of bank) old turns new → MovesAsNode0 bank old new
node_turns_along bank old new [] is same = subst (MovesAsNode0 bank old) (sym same) (no_moves bank old is)
node_turns_along bank old new (turn ∷ turns) is taken =
    let first = node_turn_along bank old taken.0 turn is taken.1 in
    moves_both bank old taken.0 new first (node_turns_along bank taken.0 new turns first.replica taken.2)

pub node0_moves : (S : Type 0) → Node0Moves S
node0_moves S bank old new turns is taken = node_turns_along bank old new turns is taken

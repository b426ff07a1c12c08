-- Moves of the machine, one after another.
use Rattle.std.proofs.Common.{◌≡◌, List, [], ◌∷◌, ◌++◌, refl, sym, ap, subst, ◌∙◌}
use Rattle.std.specs.List.{All}
use Rattle.std.proofs.lemmas.List.Elements.{All-append, All-nil}
use Rattle.sb_replica.specs.Replica.{ReplicaOf}
use Rattle.schedule_player.specs.Bank.{BankOf}
use Rattle.schedule_player.specs.FramesOfLog.{IsEntryOf}
use Rattle.schedule_player.specs.ReplicaMoves.{NodeOf}
use Rattle.replica_laws.specs.FollowerMoves.{FollowerMove, Hears, Takes, Finishes, follower_move, frames_heard, node_after}
use Rattle.replica_laws.specs.Node0Moves.{IsNode0Of, MovesAsNode0, node0_node}

pub node_after_both : (bank : BankOf) (node : NodeOf) (first second : List FollowerMove)
    → node_after bank node (first ++ second) ≡ node_after bank (node_after bank node first) second
node_after_both bank node [] second = refl
node_after_both bank node (move ∷ first) second = node_after_both bank (follower_move bank node move) first second

pub heard_both : (first second : List FollowerMove) → frames_heard (first ++ second) ≡ frames_heard first ++ frames_heard second
heard_both [] second = refl
heard_both (Hears frame ∷ first) second = ap (λ frames. frame ∷ frames) (heard_both first second)
heard_both (Takes index ∷ first) second = heard_both first second
heard_both (Finishes ∷ first) second = heard_both first second

-- ---- of node 0

-- nothing happens
pub no_moves : {S : Type 0} (bank : BankOf) (replica : ReplicaOf S) → IsNode0Of bank replica → MovesAsNode0 bank replica replica
no_moves bank replica is = record { replica = is; moves = []; heard = All-nil (IsEntryOf bank); moved = λ inbound. refl }

pub moves_both : {S : Type 0} (bank : BankOf) (old mid new : ReplicaOf S) → MovesAsNode0 bank old mid → MovesAsNode0 bank mid new
    → MovesAsNode0 bank old new
moves_both bank old mid new first second = record {
  replica = second.replica;
  moves = first.moves ++ second.moves;
  heard = subst (All (IsEntryOf bank)) (sym (heard_both first.moves second.moves))
      (All-append (IsEntryOf bank) (frames_heard first.moves) (frames_heard second.moves) first.heard second.heard);
  moved = λ inbound.
      node_after_both bank (node0_node inbound old) first.moves second.moves
      ∙ ap (λ node. node_after bank node second.moves) (first.moved inbound) ∙ second.moved inbound;
}

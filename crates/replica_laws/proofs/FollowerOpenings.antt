-- A follower at the opening.
use Rattle.std.proofs.Common.{◌≡◌, ◌≤◌, None, [], length, refl, sym, ap, subst}
use Rattle.cown_board.proofs.LogLaws.{no_some as none_some}
use Rattle.cown_board.specs.Board.{length_of}
use Rattle.cown_workers.specs.Draining.{HasNoneOut}
use Rattle.sb_rows.specs.Rows.{SameCustomers}
use Rattle.sb_calls.specs.Cowns.{contents_of}
use Rattle.sb_calls.specs.declared.call.TheConstants.{LOG_CALLS}
use Rattle.sb_checkpoint.specs.MemoryStore.{MemoryStoreOf}
use Rattle.sb_replica.specs.Replica.{ReplicaOf}
use Rattle.bank_server.specs.Followers.{IsAtOpening}
use Rattle.schedule_player.specs.Bank.{BankOf}
use Rattle.schedule_player.specs.MachineView.{stages_of, slot_length, ops_of}
use Rattle.schedule_player.specs.ReplicaMoves.{opened_node}
use Rattle.schedule_player.specs.ReplicaOfLog.{IsBoardOfLog}
use Rattle.schedule_player.specs.StoredOfLog.{IsStoredOfLog}
use Rattle.schedule_player.proofs.boards.BoardOfLog.{along_opened, opening_along}
use Rattle.schedule_player.proofs.entries.HeldEntries.{none_along, none_seen}
use Rattle.schedule_player.proofs.NodeMoves.{same_node}
use Rattle.replica_laws.specs.FollowerMoves.{FollowersOpen, IsFollowerOf, follower_node}

opens_along : (bank : BankOf) (replica : ReplicaOf MemoryStoreOf) → SameCustomers bank.names bank.opening → length bank.calls ≤ LOG_CALLS
    → IsAtOpening bank.names bank.opening replica → replica.store.slot ≡ None → IsFollowerOf bank replica
opens_along bank replica same few at slot =
    let opening = contents_of bank.opening in
    let ops = ops_of bank in
    let made = opening_along opening ops bank.opening refl in
    record {
      customers = same;
      few = few;
      names = at.names_are;
      opening = at.opening_is;
      board = subst (IsBoardOfLog opening ops) (sym at.board) (along_opened opening ops (record { columns = bank.opening; replies = [] }) made);
      held = none_along ops (length_of replica.board) replica.held at.held;
      stored = subst (IsStoredOfLog bank) (sym slot)
          (record { checkpoint = record { columns = bank.opening; replies = [] }; stored = refl; consistent = made });
      none_out = subst HasNoneOut (sym at.board) (λ k out. none_some out);
    }

pub followers_open : FollowersOpen
followers_open bank replica same few at slot = (
  opens_along bank replica same few at slot,
  λ inbound. same_node (follower_node inbound replica) (record (opened_node 1) { inbound = inbound }) (ap stages_of at.board) refl (ap slot_length slot)
      (ap (λ b. b.cut) at.board) (none_seen replica.held at.held) refl refl refl,
)

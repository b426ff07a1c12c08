-- A replica at the opening is node 0 of its bank.
use Rattle.std.proofs.Common.{◌≡◌, ◌≤◌, List, [], length, refl, sym, ap, subst}
use Rattle.cown_board.proofs.LogLaws.{no_some as none_some}
use Rattle.sb_calls.specs.Cowns.{contents_of}
use Rattle.sb_calls.specs.declared.call.TheConstants.{LOG_CALLS}
use Rattle.sb_frames.specs.declared.frame.Frame.{Frame}
use Rattle.sb_replica.specs.Replica.{ReplicaOf, replica_at_opening}
use Rattle.sb_replica.specs.Log.{none_held as empty_held}
use Rattle.sb_rows.specs.Rows.{SameCustomers}
use Rattle.schedule_player.specs.Bank.{BankOf}
use Rattle.schedule_player.specs.MachineView.{ops_of}
use Rattle.schedule_player.specs.ReplicaMoves.{opened_node, restart_move}
use Rattle.schedule_player.proofs.boards.BoardOfLog.{along_opened, opening_along}
use Rattle.schedule_player.proofs.entries.HeldEntries.{none_along, none_seen}
use Rattle.replica_laws.specs.Node0Moves.{IsNode0Of, Node0Opens, node0_node}

opened_along : {S : Type 0} (bank : BankOf) (store : S) → SameCustomers bank.names bank.opening → length bank.calls ≤ LOG_CALLS
    → IsNode0Of bank (replica_at_opening 0 bank.names bank.opening store)
opened_along bank store same few =
    let opening = contents_of bank.opening in
    let ops = ops_of bank in
    record {
      customers = same;
      few = few;
      board = along_opened opening ops (record { columns = bank.opening; replies = [] }) (opening_along opening ops bank.opening refl);
      held = none_along ops 0 empty_held refl;
      clear = λ k out. absurd (none_some out);
    }

-- the machine's replica at the opening, with one worker
opened_seen : {S : Type 0} (bank : BankOf) (store : S) (inbound : List Frame)
    → node0_node inbound (replica_at_opening 0 bank.names bank.opening store) ≡ record (opened_node 1) { inbound = inbound }
opened_seen bank store inbound =
    ap (λ held. record (opened_node 1) { inbound = inbound; held = held }) (none_seen empty_held refl)

pub node0_opens : (S : Type 0) → Node0Opens S
node0_opens S bank replica store same few opened = (
  subst (IsNode0Of bank) (sym opened) (opened_along bank store same few),
  λ inbound. subst (λ (r : ReplicaOf S). node0_node inbound r ≡ record (opened_node 1) { inbound = inbound }) (sym opened) (opened_seen bank store inbound),
  λ inbound old.
      subst (λ (r : ReplicaOf S). (restart_move (node0_node inbound old)).0 ≡ node0_node inbound r) (sym opened) (sym (opened_seen bank store inbound)),
)

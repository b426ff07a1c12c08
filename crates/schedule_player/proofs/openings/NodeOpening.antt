-- A replica at the opening.
use Rattle.std.proofs.Common.{◌≡◌, ℕ, zero, suc, ◌≤◌, Option, Some, None, [], ◌∷◌, length, map, replicate, refl, sym, ap, subst, ◌∙◌}
use Rattle.std.specs.Prelude.{option_map, slice_get}
use Rattle.cown_board.specs.Board.{length_of}
use Rattle.cown_board.specs.Job.{JobOf}
use Rattle.cown_board.specs.BoardCalls.{board_at_opening}
use Rattle.sb_rows.specs.Rows.{SameCustomers}
use Rattle.sb_calls.specs.Cowns.{contents_of}
use Rattle.sb_calls.specs.declared.call.TheConstants.{LOG_CALLS}
use Rattle.sb_calls.specs.declared.op.Op.{Op}
use Rattle.sb_checkpoint.specs.Reading.{stated_reply_count}
use Rattle.sb_replica.specs.Log.{none_held as empty_held}
use Rattle.schedule_player.specs.ReplicaOfLog.{IsBoardOfLog}
use Rattle.schedule_player.specs.Bank.{BankOf}
use Rattle.schedule_player.specs.inner.NodeInvariant.{number_in, machine_node, IsHandOfLog, IsStateOfLog, IsNodeAt}
use Rattle.schedule_player.specs.StoredOfLog.{IsStoredOfLog}
use Rattle.schedule_player.specs.FramesOfLog.{IsEntryOf, IsSentBy}
use Rattle.schedule_player.specs.OneBased.{Every}
use Rattle.schedule_player.specs.ReplicaMoves.{opened_node}
use Rattle.schedule_player.specs.MachineView.{stages_of, slot_length, ops_of}
use Rattle.schedule_player.specs.declared.node.Node.{Node}
use Rattle.schedule_player.proofs.boards.BoardOfLog.{along_opened, opening_along}
use Rattle.schedule_player.proofs.entries.HeldEntries.{none_along, none_seen}
use Rattle.schedule_player.proofs.Lists.{every_nil}
use Rattle.cown_board.proofs.LogLaws.{no_some as none_some}
use Rattle.cown_board.proofs.LogLaws.{injective as some_is}
use Rattle.schedule_player.proofs.NodeMoves.{same_node}

empty_seen : (workers : ℕ) → map (option_map number_in) (replicate workers None) ≡ replicate workers None
empty_seen zero = refl
empty_seen (suc n) = ap (λ t. None ∷ t) (empty_seen n)

pub opens_so : (node : Node) (workers : ℕ) → stages_of node.replica.board ≡ [] → node.replica.board.cut ≡ None
    → node.replica.held ≡ empty_held → node.replica.store.slot ≡ None → node.hands.items ≡ replicate workers None → node.inbound ≡ [] → node.outbound ≡ []
    → node.states ≡ [] → machine_node node ≡ opened_node workers
opens_so node workers stages cut held slot hands inbound outbound states =
    same_node (machine_node node) (opened_node workers) stages (ap (map (option_map number_in)) hands ∙ empty_seen workers)
    (ap slot_length slot) cut (none_seen node.replica.held held) inbound outbound (ap (map stated_reply_count) states)

empty_hand : (bank : BankOf) (workers k : ℕ) (hand : Option (JobOf Op)) → slice_get (replicate workers None) k ≡ Some hand → IsHandOfLog bank hand
empty_hand bank zero k hand here = absurd (none_some here)
empty_hand bank (suc n) zero hand here = subst (IsHandOfLog bank) (some_is here) tt
empty_hand bank (suc n) (suc k) hand here = empty_hand bank n k hand here

pub opens_along : (bank : BankOf) (r : ℕ) (node : Node) (workers : ℕ) → SameCustomers bank.names bank.opening → length bank.calls ≤ LOG_CALLS
    → node.replica.id ≡ r → node.replica.names ≡ bank.names → node.replica.opening ≡ bank.opening
    → node.replica.board ≡ board_at_opening bank.opening [] → node.replica.held ≡ empty_held → node.replica.store.slot ≡ None
    → node.hands.items ≡ replicate workers None → node.inbound ≡ [] → node.outbound ≡ [] → node.states ≡ []
    → IsNodeAt bank r node
opens_along bank r node workers same few id names opening board held slot hands inbound outbound states =
    let made = opening_along (contents_of bank.opening) (ops_of bank) bank.opening refl in
    record {
      customers = same;
      few = few;
      id = id;
      names = names;
      opening = opening;
      board = subst (IsBoardOfLog (contents_of bank.opening) (ops_of bank)) (sym board)
          (along_opened (contents_of bank.opening) (ops_of bank) (record { columns = bank.opening; replies = [] }) made);
      held = none_along (ops_of bank) (length_of node.replica.board) node.replica.held held;
      stored = subst (IsStoredOfLog bank) (sym slot)
          (record { checkpoint = record { columns = bank.opening; replies = [] }; stored = refl; consistent = made });
      hands = subst (Every (IsHandOfLog bank)) (sym hands) (λ k hand here. empty_hand bank workers k hand here);
      inbound = subst (Every (IsEntryOf bank)) (sym inbound) (every_nil (IsEntryOf bank));
      outbound = subst (Every (IsSentBy bank r)) (sym outbound) (every_nil (IsSentBy bank r));
      states = subst (Every (IsStateOfLog bank)) (sym states) (every_nil (IsStateOfLog bank));
    }

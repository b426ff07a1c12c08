-- An op that is offered is an entry that the machine hears.
use Rattle.std.proofs.Common.{◌≡◌, ℕ, suc, ◌+◌, ◌<◌, Option, Some, None, [], ◌∷◌, length, refl, sym, ap, subst, ◌∙◌, arith}
use Rattle.std.specs.Prelude.{option_map, if◌then◌else◌, nat_le, nat_lt, ◌==◌, ◌||◌, slice_get}
use Rattle.std.proofs.lemmas.List.Elements.{All-cons, All-nil}
use Rattle.std.proofs.lemmas.Option.{slice_get-map, slice_get_within}
use Rattle.cown_board.proofs.LogLaws.{no_some as none_some}
use Rattle.cown_board.proofs.LogLaws.{injective as some_is}
use Rattle.cown_board.specs.Board.{BoardOf, length_of}
use Rattle.cown_board.specs.declared.board.TheConstants.{OPEN_BEHAVIOURS}
use Rattle.sb_calls.specs.Op.{op_of}
use Rattle.sb_calls.specs.declared.call.Call.{Call}
use Rattle.sb_calls.specs.declared.call.TheConstants.{LOG_CALLS}
use Rattle.sb_calls.specs.declared.op.Op.{Op}
use Rattle.sb_frames.specs.declared.frame.Frame.{Frame}
use Rattle.sb_frames.specs.declared.frame.Frame.TheVariants as frame
use Rattle.sb_replica.specs.Replica.{ReplicaOf, log_of, with_log}
use Rattle.sb_replica.specs.Log.{LogOf}
use Rattle.sb_replica.specs.Offers.{after_offer, offer_answer}
use Rattle.sb_replica.specs.declared.offered.Offered.{Offered}
use Rattle.sb_replica.specs.declared.offered.Offered.TheVariants as offer
use Rattle.sb_replica.specs.declared.replica_log.TheConstants.{HELD_ENTRIES}
use Rattle.schedule_player.specs.Bank.{BankOf}
use Rattle.schedule_player.specs.FramesOfLog.{IsEntryOf}
use Rattle.schedule_player.specs.MachineView.{ops_of}
use Rattle.schedule_player.proofs.entries.EntryOffers.{IsLogAlong, entry_alike, offer_along, seeing}
use Rattle.replica_laws.specs.FollowerMoves.{Hears}
use Rattle.replica_laws.specs.Node0Moves.{IsNode0Of, MovesAsNode0, node0_node, with_none_out}
use Rattle.bank_server.specs.NodeTurns.{OffersNext}
use Rattle.replica_laws.proofs.BoardViews.{accepted_view, along_view, unfinished_view}
use Rattle.replica_laws.proofs.ClearBoards.{offered_clear}

-- ---- the log as the machine sees it

abbrev log_view : LogOf → LogOf
log_view log = record log { board = with_none_out log.board }

answer_view : (board : BoardOf Op) (n : ℕ) → offer_answer (with_none_out board) n ≡ offer_answer board n
answer_view board n =
    let size = length_of board in
    ap (λ (count : ℕ).
    if nat_le n size then offer.Repeat
    else if nat_lt (size + HELD_ENTRIES) n || nat_lt LOG_CALLS n then offer.Gap size
    else if nat_lt (suc size) n then offer.Held n
    else if count == OPEN_BEHAVIOURS then offer.Busy size else offer.Next) (unfinished_view board)

after_view : (log : LogOf) (op : Op) (answer : Offered) → after_offer (log_view log) op answer ≡ log_view (after_offer log op answer)
after_view log op offer.Next = ap (λ board. record (after_offer log op offer.Next) { board = board }) (sym (accepted_view log.board op))
after_view log op offer.Repeat = refl
after_view log op (offer.Gap size) = refl
after_view log op (offer.Held number) = refl
after_view log op (offer.Busy size) = refl

offered_view : (log : LogOf) (op : Op) (n : ℕ)
    → after_offer (log_view log) op (offer_answer (with_none_out log.board) n) ≡ log_view (after_offer log op (offer_answer log.board n))
offered_view log op n = ap (after_offer (log_view log) op) (answer_view log.board n) ∙ after_view log op (offer_answer log.board n)

-- ---- the call of an op

call_of_op : (bank : BankOf) (k : ℕ) (op : Op) → slice_get (ops_of bank) k ≡ Some op
    → (call : Call) × (slice_get bank.calls k ≡ Some call) × (op_of bank.names call ≡ op)
call_of_op bank k op next = by (slice_get bank.calls k) refl (sym (slice_get-map (op_of bank.names) bank.calls k) ∙ next)
  where
    by : (found : Option Call) → slice_get bank.calls k ≡ found → option_map (op_of bank.names) found ≡ Some op
        → (call : Call) × (slice_get bank.calls k ≡ Some call) × (op_of bank.names call ≡ op)
    by None is e = absurd (none_some e)
    by (Some call) is e = (call, is, some_is e)

-- ---- the offer

-- an entry of the log: its frame, with the number after so many
entry_frame : (bank : BankOf) (k : ℕ) (call : Call) → slice_get bank.calls k ≡ Some call → IsEntryOf bank (frame.Entry (suc k) call)
entry_frame bank k call here = record { number = suc k; call = call; frame_is = refl; in_log = here }

pub offers_along : {S : Type 0} (bank : BankOf) (old new : ReplicaOf S) → IsNode0Of bank old → OffersNext (ops_of bank) old new
    → MovesAsNode0 bank old new
offers_along {S = S} bank old new is offers =
    let log : LogOf = log_of old in
    let k : ℕ = length_of log.board in
    let found = call_of_op bank k offers.op offers.next in
    let call : Call = found.0 in
    let op : Op = op_of bank.names call in
    let answer : Offered = offer_answer log.board (suc k) in
    let later : LogOf = after_offer log op answer in
    let few = is.few in
    let inside : k < length bank.calls = slice_get_within bank.calls k call found.1 in
    let along : IsLogAlong bank later =
    offer_along bank log call (suc k) (record { board = is.board; held = is.held }) found.1 answer refl in
    let new_is : new ≡ with_log old later = offers.after ∙ ap (λ o. with_log old (after_offer log o answer)) (sym found.2) in
    let entry : Frame = frame.Entry (suc k) call in
    record {
      replica = subst (IsNode0Of bank) (sym new_is)
          (record {
            customers = is.customers;
            few = is.few;
            board = along.board;
            held = along.held;
            clear = offered_clear log op answer is.board.states is.clear;
          });
      moves = Hears entry ∷ [];
      heard = All-cons (IsEntryOf bank) entry [] (entry_frame bank k call found.1) (All-nil (IsEntryOf bank));
      moved = λ inbound.
          ap (λ moved. moved.0)
          (entry_alike (node0_node inbound old) (log_view log) op (suc k) (along_view bank log.board is.board).states (omega (arith, inside, few)))
          ∙ ap (seeing (node0_node inbound old)) (offered_view log op (suc k))
          ∙ ap (node0_node inbound) (sym new_is);
    }

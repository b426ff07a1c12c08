-- A replica stays one of its bank as the log goes on.
use Rattle.std.proofs.Common.{◌≡◌, ℕ, zero, suc, ◌<◌, ◌≤◌, Option, Some, None, List, [], ◌++◌, length, map, refl, sym, ap, subst, ◌∙◌, arith, append-nil}
use Rattle.std.specs.Prelude.{slice_get, option_map}
use Rattle.std.proofs.lemmas.List.{length-append, map-append, take-append-le}
use Rattle.std.proofs.lemmas.Option.{slice_get_within}
use Rattle.cown_board.proofs.PositionLaws.{slice_get-left}
use Rattle.cown_board.specs.Board.{length_of}
use Rattle.cown_board.specs.Job.{JobOf}
use Rattle.sb_rows.specs.Balances.{Balances}
use Rattle.sb_calls.specs.Cowns.{contents_of}
use Rattle.sb_calls.specs.Log.{rows_after}
use Rattle.sb_calls.specs.Op.{op_of}
use Rattle.sb_calls.specs.Procedures.{procedure}
use Rattle.sb_calls.specs.declared.call.Call.{Call}
use Rattle.sb_calls.specs.declared.call.TheConstants.{LOG_CALLS}
use Rattle.sb_calls.specs.declared.op.Op.{Op}
use Rattle.sb_calls.specs.declared.reply.Reply.{Reply}
use Rattle.sb_frames.specs.declared.frame.Frame.{Frame}
use Rattle.sb_frames.specs.declared.frame.Frame.TheVariants as frame
use Rattle.schedule_player.specs.ReplicaOfLog.{IsBoardOfLog, IsCheckpointOfLog, AreHeldOfLog}
use Rattle.schedule_player.specs.inner.JobOfLog.{IsJobOfLog}
use Rattle.schedule_player.specs.Bank.{BankOf, log_reply, log_rows, opening_rows}
use Rattle.schedule_player.specs.Books.{IsRowsAt, IsStateAt}
use Rattle.schedule_player.specs.FramesOfLog.{IsSentBy}
use Rattle.schedule_player.specs.inner.NodeInvariant.{IsHandOfLog, IsNodeAt}
use Rattle.schedule_player.specs.StoredOfLog.{IsStoredOfLog}
use Rattle.schedule_player.specs.OneBased.{nth_item}
use Rattle.schedule_player.specs.MachineView.{ops_of}
use Rattle.schedule_player.specs.declared.node.Node.{Node}
use Rattle.schedule_player.proofs.boards.BoardOfLog.{board_longer, job_longer, checkpoint_longer}
use Rattle.schedule_player.proofs.entries.HeldEntries.{held_longer}
use Rattle.cown_board.proofs.LogLaws.{no_some as none_some}

-- the bank with more calls behind its own
abbrev pub with_calls : BankOf → List Call → BankOf
with_calls bank more = record bank { calls = bank.calls ++ more }

ops_with : (bank : BankOf) (more : List Call) → ops_of (with_calls bank more) ≡ ops_of bank ++ map (op_of bank.names) more
ops_with bank more = map-append (op_of bank.names) bank.calls more

pub numbered_longer : (calls more : List Call) (n : ℕ) (call : Call) → nth_item calls n ≡ Some call → nth_item (calls ++ more) n ≡ Some call
numbered_longer calls more zero call here = absurd (none_some here)
numbered_longer calls more (suc k) call here = slice_get-left calls more k (slice_get_within calls k call here) ∙ here

-- the rows after its first calls, and the replies to them, are the same
pub rows_stay : (bank : BankOf) (more : List Call) (size : ℕ) → size ≤ length bank.calls → log_rows (with_calls bank more) size ≡ log_rows bank size
rows_stay bank more size within = ap (λ calls. rows_after calls (opening_rows bank)) (take-append-le size bank.calls more within)

pub replied_within : (bank : BankOf) (k : ℕ) (reply : Reply) → log_reply bank (suc k) ≡ Some reply → k < length bank.calls
replied_within bank k reply here = by (slice_get bank.calls k) refl
  where
    by : (call : Option Call) → slice_get bank.calls k ≡ call → k < length bank.calls
    by None past =
        absurd (none_some (sym (ap (option_map (λ call. (procedure call (log_rows bank k)).reply)) past) ∙ here))
    by (Some call) there = slice_get_within bank.calls k call there

pub reply_stays : (bank : BankOf) (more : List Call) (n : ℕ) (reply : Reply) → log_reply bank n ≡ Some reply
    → log_reply (with_calls bank more) n ≡ Some reply
reply_stays bank more zero reply here = absurd (none_some here)
reply_stays bank more (suc k) reply here =
    let within = replied_within bank k reply here in
    ap (λ rows. option_map (λ call. (procedure call rows).reply) (slice_get (bank.calls ++ more) k)) (rows_stay bank more k (omega (arith, within)))
    ∙ ap (option_map (λ call. (procedure call (log_rows bank k)).reply)) (slice_get-left bank.calls more k within)
    ∙ here

hand_stays : (bank : BankOf) (more : List Call) (hand : Option (JobOf Op)) → IsHandOfLog bank hand → IsHandOfLog (with_calls bank more) hand
hand_stays bank more None consistent = tt
hand_stays bank more (Some job) consistent =
    subst (λ ops. IsJobOfLog (contents_of bank.opening) ops job) (sym (ops_with bank more))
    (job_longer (contents_of bank.opening) (ops_of bank) (map (op_of bank.names) more) job consistent)

-- what is stored, or sent as a state
kept_stays : (bank : BankOf) (more : List Call) (slot : Option (List ℕ)) → IsStoredOfLog bank slot → IsStoredOfLog (with_calls bank more) slot
kept_stays bank more slot stored = record {
  checkpoint = stored.checkpoint;
  stored = stored.stored;
  consistent = subst (λ ops. IsCheckpointOfLog (contents_of bank.opening) ops stored.checkpoint) (sym (ops_with bank more))
      (checkpoint_longer (contents_of bank.opening) (ops_of bank) (map (op_of bank.names) more) stored.checkpoint stored.consistent);
}

told_stays : (bank : BankOf) (more : List Call) (r : ℕ) (told : Frame) → IsSentBy bank r told → IsSentBy (with_calls bank more) r told
told_stays bank more r (frame.Ack replica size) by =
    let longer = length-append bank.calls more in let few = by.1 in (by.0, omega (arith, longer, few))
told_stays bank more r (frame.Have replica size) by =
    let longer = length-append bank.calls more in let few = by.1 in (by.0, omega (arith, longer, few))
told_stays bank more r (frame.Answer number reply) by = reply_stays bank more number reply by
told_stays bank more r (frame.Ask client request asked) by = absurd by
told_stays bank more r (frame.Entry number entry) by = absurd by
told_stays bank more r (frame.Outcome client request outcome) by = absurd by
told_stays bank more r frame.Flush by = absurd by

pub node_longer : (bank : BankOf) (more : List Call) (r : ℕ) (node : Node) → length (bank.calls ++ more) ≤ LOG_CALLS → IsNodeAt bank r node
    → IsNodeAt (with_calls bank more) r node
node_longer bank more r node few is =
    let o = contents_of bank.opening in
    let ops = map (op_of bank.names) more in
    record {
      customers = is.customers;
      few = few;
      id = is.id;
      names = is.names;
      opening = is.opening;
      board = subst (λ all. IsBoardOfLog o all node.replica.board) (sym (ops_with bank more)) (board_longer o (ops_of bank) ops node.replica.board is.board);
      held = subst (λ all. AreHeldOfLog all (length_of node.replica.board) node.replica.held) (sym (ops_with bank more))
          (held_longer (ops_of bank) ops (length_of node.replica.board) node.replica.held is.held);
      stored = kept_stays bank more node.replica.store.slot is.stored;
      hands = λ k hand here. hand_stays bank more hand (is.hands k hand here);
      inbound = λ k sent here.
          let entry = is.inbound k sent here in
          record {
            number = entry.number;
            call = entry.call;
            frame_is = entry.frame_is;
            in_log = numbered_longer bank.calls more entry.number entry.call entry.in_log;
          };
      outbound = λ k told here. told_stays bank more r told (is.outbound k told here);
      states = λ k bytes here. kept_stays bank more (Some bytes) (is.states k bytes here);
    }

-- ---- what observers see, in a bank with more calls

pub rows_at_stay : (bank : BankOf) (more : List Call) (size : ℕ) (columns : Balances) → size ≤ length bank.calls → IsRowsAt bank size columns
    → IsRowsAt (with_calls bank more) size columns
rows_at_stay bank more size columns within is = record {
  customers = is.customers;
  rows = is.rows ∙ sym (rows_stay bank more size within);
}

pub state_stays : (bank : BankOf) (more : List Call) (size : ℕ) (bytes : List ℕ) → size ≤ length bank.calls → IsStateAt bank size bytes
    → IsStateAt (with_calls bank more) size bytes
state_stays bank more size bytes within is = record {
  checkpoint = is.checkpoint;
  spelled = is.spelled;
  size_is = is.size_is;
  rows = rows_at_stay bank more size is.checkpoint.columns within is.rows;
  replies = λ k reply here. reply_stays bank more (suc k) reply (is.replies k reply here);
}

-- a bank, and one whose calls go on behind its own
pub record IsBeginningOf (bank longer : BankOf) : Type 0 where
  pub more : List Call
  pub is : with_calls bank more ≡ longer

pub itself : (bank : BankOf) → IsBeginningOf bank bank
itself bank = record { more = []; is = λ j. record bank { calls = append-nil bank.calls j } }

pub reply_begun : (bank longer : BankOf) (n : ℕ) (reply : Reply) → IsBeginningOf bank longer → log_reply bank n ≡ Some reply
    → log_reply longer n ≡ Some reply
reply_begun bank longer n reply begins here = subst (λ b. log_reply b n ≡ Some reply) begins.is (reply_stays bank begins.more n reply here)

pub rows_begun : (bank longer : BankOf) (size : ℕ) (columns : Balances) → IsBeginningOf bank longer → size ≤ length bank.calls
    → IsRowsAt bank size columns → IsRowsAt longer size columns
rows_begun bank longer size columns begins within is =
    subst (λ b. IsRowsAt b size columns) begins.is (rows_at_stay bank begins.more size columns within is)

pub state_begun : (bank longer : BankOf) (size : ℕ) (bytes : List ℕ) → IsBeginningOf bank longer → size ≤ length bank.calls
    → IsStateAt bank size bytes → IsStateAt longer size bytes
state_begun bank longer size bytes begins within is =
    subst (λ b. IsStateAt b size bytes) begins.is (state_stays bank begins.more size bytes within is)

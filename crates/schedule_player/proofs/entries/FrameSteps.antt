-- A replica sends frames, and hears them.
use Rattle.std.proofs.Common.{◌≡◌, true, ℕ, zero, suc, ◌≤◌, Option, Some, None, Result, Ok, Err, List, [], ◌∷◌, ◌++◌, length, refl, sym, ap, subst, ◌∙◌, arith}
use Rattle.std.specs.Prelude.{option_map, if◌then◌else◌}
use Rattle.std.proofs.lemmas.Bool.{eq-eqb}
use Rattle.std.proofs.lemmas.List.{length-append}
use Rattle.std.proofs.lemmas.Option.{slice_get_within}
use Rattle.cown_board.specs.Board.{length_of, reply_in}
use Rattle.sb_calls.specs.Behaviour.{declared_cowns, effect_of}
use Rattle.sb_calls.specs.Cowns.{contents_of}
use Rattle.sb_calls.specs.SerialRun.{reply_by_log}
use Rattle.sb_calls.specs.Op.{op_of}
use Rattle.sb_calls.specs.declared.call.Call.{Call}
use Rattle.sb_calls.specs.declared.reply.Reply.{Reply}
use Rattle.sb_checkpoint.specs.MemoryStore.{MemoryStoreOf}
use Rattle.sb_frames.specs.Grammar.{Spells}
use Rattle.sb_frames.specs.declared.fault.FrameFault.{FrameFault}
use Rattle.sb_frames.specs.declared.fault.FrameFault.TheVariants.{BadLength}
use Rattle.sb_frames.specs.declared.frame.Frame.{Frame}
use Rattle.sb_frames.specs.declared.frame.Frame.TheVariants as frame
use Rattle.sb_replica.specs.Frames.{frame_if_whole, whole_frame, entry_answer, frame_answer, next_entry_answer, after_frame, ReceivesBytes, IsReplicaFaultOf}
use Rattle.sb_replica.specs.Replica.{ReplicaOf, log_of, with_log}
use Rattle.sb_replica.specs.declared.fault.ReplicaFault.{ReplicaFault}
use Rattle.sb_replica.specs.declared.fault.ReplicaFault.TheVariants.{BadFrame, OutOfMemory}
use Rattle.sb_replica.specs.declared.heard.Heard.{Heard}
use Rattle.sb_replica.specs.Log.{LogOf}
use Rattle.sb_replica.specs.Offers.{offer_answer, after_offer, after_advance}
use Rattle.schedule_player.specs.Bank.{BankOf, log_reply}
use Rattle.schedule_player.specs.inner.NodeInvariant.{machine_node, IsNodeAt, MovesTo}
use Rattle.schedule_player.specs.FramesOfLog.{IsEntryOf, IsSentBy}
use Rattle.schedule_player.specs.OneBased.{nth_item, Every}
use Rattle.schedule_player.specs.ReplicaMoves.{NodeOf, send_from, ack_move, answer_move, send_reply, reply_by_stage, reply_in_node, send_move, resend_move, frame_move, deliver_move, next_move}
use Rattle.schedule_player.specs.inner.HeardNotes.{note_of_heard}
use Rattle.schedule_player.specs.MachineView.{stages_of, ops_of}
use Rattle.schedule_player.specs.Stage.{Stage, Waits, IsOut, IsDone}
use Rattle.schedule_player.specs.World.{may_take_memory}
use Rattle.schedule_player.specs.declared.node.Node.{Node}
use Rattle.schedule_text.specs.declared.note.Note.{Note}
use Rattle.schedule_text.specs.declared.note.Note.TheVariants as note
use Rattle.schedule_player.proofs.hands.FinishSteps.{reply_by_names}
use Rattle.schedule_player.proofs.Lists.{every_nil, every_cons, every_append, every_push, every_numbered}
use Rattle.cown_board.proofs.LogLaws.{no_some as none_some}
use Rattle.cown_board.proofs.LogLaws.{injective as some_is}
use Rattle.schedule_player.proofs.NodeMoves.{node_stored}
use Rattle.schedule_player.proofs.entries.EntryOffers.{IsLogAlong, offer_along, advance_along, seeing, entry_alike, note_if, advance_alike}
use Rattle.schedule_player.proofs.boards.BoardReplies.{reply_if_done, reply_as_seen, within_log}
use Rattle.schedule_player.proofs.entries.SentFrames.{decoded_whole}
use Rattle.schedule_player.proofs.boards.Stages.{length-map, length_stages}
use Rattle.schedule_player.proofs.events.MemoryRefusals.{answers_so}

-- ---- sending

pub tells_frame : (bank : BankOf) (r : ℕ) (old : Node) (outbound : List Frame) (told : Frame) (place : ℕ) (moved : NodeOf × Note)
    → IsNodeAt bank r old → outbound ≡ old.outbound ++ told ∷ [] → place ≡ length outbound → IsSentBy bank r told
    → moved ≡ send_from (machine_node old) told → MovesTo bank r (record old { outbound = outbound }) (note.Sent place) moved
tells_frame bank r old outbound told place moved is e p by m =
    let size : place ≡ suc (length old.outbound) =
    let l = length-append old.outbound (told ∷ []) in let q = p ∙ ap length e ∙ l in omega (arith, q) in
    record {
      consistent = record {
        customers = is.customers;
        few = is.few;
        id = is.id;
        names = is.names;
        opening = is.opening;
        board = is.board;
        held = is.held;
        stored = is.stored;
        hands = is.hands;
        inbound = is.inbound;
        outbound = subst (Every (IsSentBy bank r)) (sym e) (every_push (IsSentBy bank r) old.outbound told is.outbound by);
        states = is.states;
      };
      move_is =
          m ∙ ap (λ frames. (record (machine_node old) { outbound = frames }, note.Sent (suc (length old.outbound)))) (sym e)
          ∙ ap (λ n. (record (machine_node old) { outbound = outbound }, note.Sent n)) (sym size);
    }

pub acknowledges : (bank : BankOf) (r : ℕ) (old : Node) (outbound : List Frame) (told : Frame) (place : ℕ) → IsNodeAt bank r old
    → told ≡ frame.Ack old.replica.id (length_of old.replica.board) → outbound ≡ old.outbound ++ told ∷ [] → place ≡ length outbound
    → MovesTo bank r (record old { outbound = outbound }) (note.Sent place) (ack_move (machine_node old) r)
acknowledges bank r old outbound told place is t e p =
    let size = within_log (contents_of bank.opening) (ops_of bank) old.replica.board is.board in
    let mapped = length-map (op_of bank.names) bank.calls in
    tells_frame bank r old outbound told place (ack_move (machine_node old) r) is e p
    (subst (IsSentBy bank r) (sym t) (is.id, omega (arith, size, mapped)))
    (ap (λ n. send_from (machine_node old) (frame.Ack r n)) (length_stages old.replica.board is.board.states)
    ∙ ap (λ n. send_from (machine_node old) (frame.Ack n (length_of old.replica.board))) (sym is.id) ∙ ap (send_from (machine_node old)) (sym t))

held_alike : (bank : BankOf) (n : ℕ) (reply : Option Reply) (stage : Option Stage) → reply ≡ log_reply bank n
    → reply_if_done reply stage ≡ reply_by_stage bank n stage
held_alike bank n reply (Some IsDone) e = e
held_alike bank n reply (Some IsOut) e = refl
held_alike bank n reply (Some Waits) e = refl
held_alike bank n reply None e = refl

-- the replies that the board holds are those that the machine sees
pub reply_seen : (bank : BankOf) (r : ℕ) (node : Node) (n : ℕ) → IsNodeAt bank r node
    → reply_in node.replica.board n ≡ reply_in_node bank (machine_node node) n
reply_seen bank r node n is =
    reply_as_seen (contents_of bank.opening) (ops_of bank) node.replica.board n is.board
    ∙ held_alike bank n (reply_by_log declared_cowns effect_of (contents_of bank.opening) (ops_of bank) n)
    (nth_item (stages_of node.replica.board) n) (reply_by_names bank n is.customers)

pub held_by_log : (bank : BankOf) (n : ℕ) (stage : Option Stage) (reply : Reply) → reply_by_stage bank n stage ≡ Some reply → log_reply bank n ≡ Some reply
held_by_log bank n (Some IsDone) reply e = e
held_by_log bank n (Some IsOut) reply e = absurd (none_some e)
held_by_log bank n (Some Waits) reply e = absurd (none_some e)
held_by_log bank n None reply e = absurd (none_some e)

no_map : {A B : Type 0} (f : A → B) (x : Option A) → None ≡ option_map f x → x ≡ None
no_map f None e = refl
no_map f (Some x) e = absurd (none_some e)

pub answers_nothing : (bank : BankOf) (r : ℕ) (old : Node) (n : ℕ) → IsNodeAt bank r old
    → None ≡ option_map (frame.Answer n) (reply_in old.replica.board n)
    → MovesTo bank r old note.Nothing (answer_move bank (machine_node old) n)
answers_nothing bank r old n is none =
    record {
      consistent = is;
      move_is = ap (send_reply (machine_node old) n) (sym (reply_seen bank r old n is) ∙ no_map (frame.Answer n)
          (reply_in old.replica.board n) none);
    }

pub answers_reply : (bank : BankOf) (r : ℕ) (old : Node) (outbound : List Frame) (told : Frame) (n place : ℕ) → IsNodeAt bank r old
    → Some told ≡ option_map (frame.Answer n) (reply_in old.replica.board n) → outbound ≡ old.outbound ++ told ∷ []
    → place ≡ length outbound
    → MovesTo bank r (record old { outbound = outbound }) (note.Sent place) (answer_move bank (machine_node old) n)
answers_reply bank r old outbound told n place is t e p = by (reply_in_node bank (machine_node old) n) refl
    (t ∙ ap (option_map (frame.Answer n)) (reply_seen bank r old n is))
  where
    by : (reply : Option Reply) → reply_in_node bank (machine_node old) n ≡ reply → Some told ≡ option_map (frame.Answer n) reply
        → MovesTo bank r (record old { outbound = outbound }) (note.Sent place) (answer_move bank (machine_node old) n)
    by None held none = absurd (none_some (sym none))
    by (Some reply) held some =
        tells_frame bank r old outbound told place (answer_move bank (machine_node old) n) is e p
        (subst (IsSentBy bank r) (sym (some_is some)) (held_by_log bank n (nth_item (stages_of old.replica.board) n) reply held))
        (ap (send_reply (machine_node old) n) held ∙ ap (send_from (machine_node old)) (sym (some_is some)))

-- memory may be refused for a reply that is held
pub answers_wanting : (bank : BankOf) (r : ℕ) (old : Node) (n : ℕ) (told : Frame) → IsNodeAt bank r old
    → Some told ≡ option_map (frame.Answer n) (reply_in old.replica.board n) → may_take_memory (answer_move bank (machine_node old) n).1 ≡ true
answers_wanting bank r old n told is t =
    answers_so bank (machine_node old) n (λ none. none_some (sym (t ∙ ap (option_map (frame.Answer n)) (reply_seen bank r old n is ∙ none))))

-- ---- entries are sent to it

sends : (bank : BankOf) (r : ℕ) (old : Node) (inbound more : List Frame) (n : Note) (moved : NodeOf × Note) → IsNodeAt bank r old
    → inbound ≡ old.inbound ++ more → Every (IsEntryOf bank) more → moved ≡ (record (machine_node old) { inbound = old.inbound ++ more }, n)
    → MovesTo bank r (record old { inbound = inbound }) n moved
sends bank r old inbound more n moved is e entries m = record {
  consistent = record {
    customers = is.customers;
    few = is.few;
    id = is.id;
    names = is.names;
    opening = is.opening;
    board = is.board;
    held = is.held;
    stored = is.stored;
    hands = is.hands;
    inbound = subst (Every (IsEntryOf bank)) (sym e) (every_append (IsEntryOf bank) old.inbound more is.inbound entries);
    outbound = is.outbound;
    states = is.states;
  };
  move_is = m ∙ ap (λ frames. (record (machine_node old) { inbound = frames }, n)) (sym e);
}

pub sends_one : (bank : BankOf) (r : ℕ) (old : Node) (inbound : List Frame) (found : Option Frame) (entry : Frame) (place : ℕ) → IsNodeAt bank r old
    → found ≡ Some entry → IsEntryOf bank entry → inbound ≡ old.inbound ++ entry ∷ [] → place ≡ length inbound
    → MovesTo bank r (record old { inbound = inbound }) (note.Sent place) (send_move (machine_node old) found)
sends_one bank r old inbound found entry place is f entry_is e p =
    let size : suc (length old.inbound) ≡ place =
    let l = length-append old.inbound (entry ∷ []) in let q = p ∙ ap length e ∙ l in omega (arith, q) in
    sends bank r old inbound (entry ∷ []) (note.Sent place) (send_move (machine_node old) found) is e
    (every_cons (IsEntryOf bank) entry [] entry_is (every_nil (IsEntryOf bank)))
    (ap (send_move (machine_node old)) f ∙ ap (λ n. (record (machine_node old) { inbound = old.inbound ++ entry ∷ [] }, note.Sent n)) size)

pub sends_all : (bank : BankOf) (r : ℕ) (old : Node) (inbound entries : List Frame) (count : ℕ) → IsNodeAt bank r old → Every (IsEntryOf bank) entries
    → inbound ≡ old.inbound ++ entries → count ≡ length entries
    → MovesTo bank r (record old { inbound = inbound }) (note.Resent count) (resend_move (machine_node old) entries)
sends_all bank r old inbound entries count is all e size =
    sends bank r old inbound entries (note.Resent count) (resend_move (machine_node old) entries) is e all
    (ap (λ n. (record (machine_node old) { inbound = old.inbound ++ entries }, note.Resent n)) (sym size))

-- ---- hearing

-- bytes that spell a frame are exactly that frame
pub whole_spelled : (incoming : Frame) (bytes : List ℕ) → Spells incoming bytes → whole_frame bytes ≡ Ok incoming
whole_spelled incoming bytes spelled =
    ap (frame_if_whole (length bytes)) (decoded_whole incoming bytes spelled)
    ∙ ap (λ b. if b then (Ok incoming) else (Err BadLength)) (eq-eqb (length bytes) (length bytes) refl)

ok_is : {x y : Frame} → ◌≡◌ {A = Result Frame FrameFault} (Ok x) (Ok y) → x ≡ y
ok_is h = cc

pub number_within : (calls : List Call) (n : ℕ) (call : Call) → nth_item calls n ≡ Some call → n ≤ length calls
number_within calls zero call here = absurd (none_some here)
number_within calls (suc k) call here = let lt = slice_get_within calls k call here in omega (arith, lt)

-- the replica's log, compared with the whole one
log_along : (bank : BankOf) (r : ℕ) (node : Node) → IsNodeAt bank r node → IsLogAlong bank (log_of node.replica)
log_along bank r node is = record { board = is.board; held = is.held }

-- only the replica's log changes
arrives_so : (bank : BankOf) (r : ℕ) (old : Node) (new : ReplicaOf MemoryStoreOf) (log : LogOf) (n : Note) (moved : NodeOf × Note)
    → IsNodeAt bank r old → new ≡ with_log old.replica log → IsLogAlong bank log
    → moved ≡ (seeing (machine_node old) log, n) → MovesTo bank r (record old { replica = new }) n moved
arrives_so bank r old new log n moved is new_is consistent e = record {
  consistent = subst (λ rep. IsNodeAt bank r (record old { replica = rep })) (sym new_is)
      (node_stored bank r old (with_log old.replica log) is (record { id = refl; names = refl; opening = refl }) consistent.board consistent.held is.stored);
  move_is = e ∙ ap (λ rep. (machine_node (record old { replica = rep }), n)) (sym new_is);
}

pub delivers : (bank : BankOf) (r : ℕ) (old : Node) (new : ReplicaOf MemoryStoreOf) (place : ℕ) (bytes : List ℕ) (incoming : Frame) (answer : Heard)
    → IsNodeAt bank r old → nth_item old.inbound place ≡ Some incoming → Spells incoming bytes → ReceivesBytes old.replica bytes answer new
    → MovesTo bank r (record old { replica = new }) (note_of_heard answer) (deliver_move (machine_node old) place)
delivers bank r old new place bytes incoming answer is here spelled hears =
    by (numbered_every place here) (ok_is (sym (whole_spelled incoming bytes spelled) ∙ hears.whole))
  where
    numbered_every : (place : ℕ) → nth_item old.inbound place ≡ Some incoming → IsEntryOf bank incoming
    numbered_every zero e = absurd (none_some e)
    numbered_every (suc k) e = is.inbound k incoming e

    by : IsEntryOf bank incoming → incoming ≡ hears.frame
        → MovesTo bank r (record old { replica = new }) (note_of_heard answer) (deliver_move (machine_node old) place)
    by entry same =
        let log = log_of old.replica in
        let n = entry.number in
        let op = op_of bank.names entry.call in
        let frame_is : hears.frame ≡ frame.Entry n entry.call = sym same ∙ entry.frame_is in
        let new_is : new ≡ with_log old.replica (after_offer log op (offer_answer log.board n)) =
        hears.after ∙ ap (λ f. with_log old.replica (after_frame old.replica.names log f)) frame_is
        ∙ ap (λ names. with_log old.replica (after_offer log (op_of names entry.call) (offer_answer log.board n))) is.names in
        let answer_is : answer ≡ entry_answer n (offer_answer log.board n) = hears.answer_is ∙ ap (frame_answer log.board) frame_is in
        let few = is.few in
        let inside = number_within bank.calls n entry.call entry.in_log in
        arrives_so bank r old new (after_offer log op (offer_answer log.board n)) (note_of_heard answer) (deliver_move (machine_node old) place) is new_is
        (offer_along bank log entry.call n (log_along bank r old is) entry.in_log (offer_answer log.board n) refl)
        (ap (frame_move (machine_node old)) (here ∙ ap (λ f. Some f) entry.frame_is)
        ∙ entry_alike (machine_node old) log op n is.board.states (omega (arith, inside, few))
        ∙ ap (λ a. (seeing (machine_node old) (after_offer log op (offer_answer log.board n)), note_of_heard a)) (sym answer_is))

ok_err : {x : Frame} {f : FrameFault} → ◌≡◌ {A = Result Frame FrameFault} (Ok x) (Err f) → ⊥
ok_err h = cc

-- memory may be refused only for an entry that is accepted
pub wants_delivered : (bank : BankOf) (r : ℕ) (old : Node) (place : ℕ) (bytes : List ℕ) (incoming : Frame) (why : ReplicaFault)
    → IsNodeAt bank r old → nth_item old.inbound place ≡ Some incoming → Spells incoming bytes → IsReplicaFaultOf old.replica bytes why
    → may_take_memory (deliver_move (machine_node old) place).1 ≡ true
wants_delivered bank r old place bytes incoming (BadFrame bad) is here spelled refused =
    absurd (ok_err (sym (whole_spelled incoming bytes spelled) ∙ refused))
wants_delivered bank r old place bytes incoming OutOfMemory is here spelled refused =
    let entry = every_numbered (IsEntryOf bank) old.inbound place incoming is.inbound here in
    let same : incoming ≡ refused.0 = ok_is (sym (whole_spelled incoming bytes spelled) ∙ refused.2) in
    let n = entry.number in
    let log = log_of old.replica in
    let few = is.few in
    let inside = number_within bank.calls n entry.call entry.in_log in
    ap (λ f. may_take_memory (frame_move (machine_node old) f).1) (here ∙ ap (λ f. Some f) entry.frame_is)
    ∙ ap (λ moved. may_take_memory moved.1)
    (entry_alike (machine_node old) log (op_of bank.names entry.call) n is.board.states (omega (arith, inside, few)))
    ∙ ap (λ answer. may_take_memory (note_of_heard answer)) (ap (frame_answer old.replica.board) (sym entry.frame_is ∙ same) ∙ refused.3)

-- ---- taking what is held

pub advances : (bank : BankOf) (r : ℕ) (old : Node) (new : ReplicaOf MemoryStoreOf) (answer : Option Heard) → IsNodeAt bank r old
    → answer ≡ next_entry_answer (log_of old.replica)
    → new ≡ with_log old.replica (after_advance (log_of old.replica))
    → MovesTo bank r (record old { replica = new }) (note_if answer) (next_move (machine_node old))
advances bank r old new answer is answer_is new_is =
    let log = log_of old.replica in
    arrives_so bank r old new (after_advance log) (note_if answer) (next_move (machine_node old)) is new_is
    (advance_along bank log (log_along bank r old is))
    (advance_alike (machine_node old) log is.board.states
    ∙ ap (λ a. (seeing (machine_node old) (after_advance log), note_if a)) (sym answer_is))

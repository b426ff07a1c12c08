-- What a replica's log does with an entry, compared with the whole log, and as the machine sees it.
use Rattle.std.proofs.Common.{◌≡◌, ℕ, suc, ◌+◌, ◌-◌, ◌<◌, ◌≤◌, Bool, true, false, Option, Some, None, [], ◌∷◌, ◌++◌, length, map, drop, refl, sym, ap, subst, ◌∙◌, arith}
use Rattle.std.specs.Prelude.{option_map, option_and_then, is_some, if◌then◌else◌, nat_le, nat_lt, ◌==◌, ◌||◌, slice_get, slice_set}
use Rattle.std.proofs.lemmas.Bool.{le-ltb, ltb-true}
use Rattle.std.proofs.lemmas.List.{length-append}
use Rattle.std.proofs.lemmas.Option.{slice_get-map}
use Rattle.cown_board.specs.Board.{BoardOf, length_of, unfinished_of}
use Rattle.sb_calls.specs.Cowns.{contents_of}
use Rattle.sb_calls.specs.Op.{op_of}
use Rattle.sb_calls.specs.declared.call.Call.{Call}
use Rattle.sb_calls.specs.declared.call.TheConstants.{LOG_CALLS}
use Rattle.sb_calls.specs.declared.op.Op.{Op}
use Rattle.sb_replica.proofs.AcceptedEntries.{next_number}
use Rattle.sb_replica.specs.Frames.{entry_answer, next_entry_answer}
use Rattle.sb_replica.specs.declared.heard.Heard.{Heard}
use Rattle.sb_replica.specs.declared.heard.Heard.TheVariants as heard
use Rattle.sb_replica.specs.Log.{LogOf}
use Rattle.sb_replica.specs.Offers.{board_with_entry, log_with_entry, next_offer_answer, offer_answer, after_offer, after_held_op, after_advance}
use Rattle.sb_replica.specs.declared.offered.Offered.{Offered}
use Rattle.sb_replica.specs.declared.offered.Offered.TheVariants as offer
use Rattle.schedule_player.specs.ReplicaOfLog.{IsBoardOfLog, AreHeldOfLog}
use Rattle.schedule_player.specs.Bank.{BankOf}
use Rattle.schedule_player.specs.OneBased.{nth_item}
use Rattle.schedule_player.specs.ReplicaMoves.{NodeOf, length_in, undone_in, with_accepted, entry_move, held_move, next_move}
use Rattle.schedule_player.specs.inner.HeardNotes.{note_of_heard}
use Rattle.schedule_player.specs.MachineView.{stages_of, ops_of}
use Rattle.schedule_text.specs.declared.note.Note.{Note}
use Rattle.schedule_text.specs.declared.note.Note.TheVariants as note
use Rattle.schedule_player.proofs.boards.BoardOfLog.{along_accepted}
use Rattle.schedule_player.proofs.entries.HeldEntries.{one_along, moved_along, moved_seen}
use Rattle.cown_board.proofs.LogLaws.{no_some as none_some}
use Rattle.cown_board.proofs.LogLaws.{injective as some_is}
use Rattle.schedule_player.proofs.boards.Stages.{set-map, length_stages, undone_in_stages, stages_accepted}

-- ---- compared with the whole log

pub record IsLogAlong (bank : BankOf) (log : LogOf) : Type 0 where
  pub board : IsBoardOfLog (contents_of bank.opening) (ops_of bank) log.board
  pub held : AreHeldOfLog (ops_of bank) (length_of log.board) log.held

length_accepted : (board : BoardOf Op) (op : Op) → length_of (board_with_entry board op) ≡ length_of board + 1
length_accepted board op = let more = length-append board.log (op ∷ []) in omega (arith, more)

-- the next entry is accepted
taken_along : (bank : BankOf) (log : LogOf) (op : Op) → IsLogAlong bank log → slice_get (ops_of bank) (length_of log.board) ≡ Some op
    → IsLogAlong bank (log_with_entry log op)
taken_along bank log op is next = record {
  board = along_accepted (contents_of bank.opening) (ops_of bank) log.board op is.board next;
  held = subst (λ n. AreHeldOfLog (ops_of bank) n (drop 1 log.held ++ None ∷ [])) (sym (length_accepted log.board op))
      (moved_along (ops_of bank) (length_of log.board) log.held is.held);
}

-- if the log has a call, the op is that call's
op_at : (bank : BankOf) (call : Call) (n place : ℕ) → nth_item bank.calls n ≡ Some call → n ≡ suc place
    → slice_get (ops_of bank) place ≡ Some (op_of bank.names call)
op_at bank call n place here is =
    slice_get-map (op_of bank.names) bank.calls place
    ∙ ap (option_map (op_of bank.names)) (ap (nth_item bank.calls) (sym is) ∙ here)

-- an entry that is held came too early, and is held under its own number
held_tests : (n size number : ℕ) (there past early full : Bool)
    → (if there then offer.Repeat else if past then offer.Gap size else if early then offer.Held n else if full then offer.Busy size else offer.Next)
    ≡ offer.Held number → (early ≡ true) × (n ≡ number)
held_tests n size number true past early full e = absurd cc
held_tests n size number false true early full e = absurd cc
held_tests n size number false false true full e = (refl, cc)
held_tests n size number false false false true e = absurd cc
held_tests n size number false false false false e = absurd cc

held_number : (board : BoardOf Op) (n number : ℕ) → offer_answer board n ≡ offer.Held number → (suc (length_of board) < n) × (n ≡ number)
held_number board n number e =
    let size = length_of board in
    let tests = held_tests n size number (nat_le n size) (nat_lt (size + 64) n || nat_lt LOG_CALLS n) (nat_lt (suc size) n) (unfinished_of board == 1024) e in
    (ltb-true (suc size) n tests.0, tests.1)

pub offer_along : (bank : BankOf) (log : LogOf) (call : Call) (n : ℕ) → IsLogAlong bank log → nth_item bank.calls n ≡ Some call
    → (answer : Offered) → offer_answer log.board n ≡ answer → IsLogAlong bank (after_offer log (op_of bank.names call) answer)
offer_along bank log call n is here offer.Repeat e = is
offer_along bank log call n is here (offer.Gap size) e = is
offer_along bank log call n is here (offer.Busy size) e = is
offer_along bank log call n is here (offer.Held number) e =
    let size = length_of log.board in
    let tests = held_number log.board n number e in
    let early = tests.0 in
    let same = tests.1 in
    record {
      board = is.board;
      held = one_along (ops_of bank) size log.held (number - size - 1) (op_of bank.names call) is.held
          (op_at bank call n (size + (number - size - 1)) here (omega (arith, early, same)));
    }
offer_along bank log call n is here offer.Next e =
    taken_along bank log (op_of bank.names call) is (op_at bank call n (length_of log.board) here (next_number log.board n e))

-- what is held for the next number is the log's
next_along : (bank : BankOf) (log : LogOf) (op : Op) (full : Bool) → IsLogAlong bank log → slice_get (ops_of bank) (length_of log.board) ≡ Some op
    → IsLogAlong bank (after_offer log op (if full then offer.Busy (length_of log.board) else offer.Next))
next_along bank log op true is next = is
next_along bank log op false is next = taken_along bank log op is next

pub advance_along : (bank : BankOf) (log : LogOf) → IsLogAlong bank log → IsLogAlong bank (after_advance log)
advance_along bank log is = by (slice_get log.held 0) refl
  where
    by : (first : Option (Option Op)) → slice_get log.held 0 ≡ first → IsLogAlong bank (after_held_op log (option_and_then (λ held. held) first))
    by None here = is
    by (Some None) here = is
    by (Some (Some op)) here =
        let e : length_of log.board + 0 ≡ length_of log.board = omega arith in
        next_along bank log op (unfinished_of log.board == 1024) is (ap (slice_get (ops_of bank)) (sym e) ∙ is.held 0 op here)

-- ---- as the machine sees it

-- a node whose replica has this log
abbrev pub seeing : NodeOf → LogOf → NodeOf
seeing seen log = record seen { stages = stages_of log.board; cut = log.board.cut; held = map is_some log.held }

accepts_so : (seen : NodeOf) (log : LogOf) (op : Op) → with_accepted (seeing seen log) ≡ seeing seen (log_with_entry log op)
accepts_so seen log op =
    ap (λ s. record (seeing seen log) { stages = s; held = drop 1 (map is_some log.held) ++ false ∷ [] }) (sym (stages_accepted log.board op))
    ∙ ap (λ h. record (seeing seen log) { stages = stages_of (board_with_entry log.board op); held = h }) (sym (moved_seen log.held))

holds_so : (seen : NodeOf) (log : LogOf) (op : Op) (place : ℕ)
    → record (seeing seen log) { held = slice_set (map is_some log.held) place true }
    ≡ seeing seen (record log { held = slice_set log.held place (Some op) })
holds_so seen log op place = ap (λ h. record (seeing seen log) { held = h }) (sym (set-map is_some log.held place (Some op)))

-- what the machine does with the next entry, and with any, by its length and its number of undone
-- entries
abbrev next_at : NodeOf → ℕ → ℕ → Bool → NodeOf × Note
next_at node size n full = if full then (node, note.Busy size) else (with_accepted node, note.Accepted n)

abbrev entry_at : NodeOf → ℕ → ℕ → Bool → Bool → Bool → Bool → NodeOf × Note
entry_at node size n there past early full =
    if there then (node, note.Repeat n) else if past then (node, note.Gap size)
    else if early then (record node { held = slice_set node.held (n - size - 1) true }, note.Held n) else next_at node size n full

abbrev next_answer : ℕ → Bool → Offered
next_answer size full = if full then offer.Busy size else offer.Next

abbrev answer_at : ℕ → ℕ → Bool → Bool → Bool → Bool → Offered
answer_at size n there past early full =
    if there then offer.Repeat else if past then offer.Gap size else if early then offer.Held n else next_answer size full

-- the log after an answer, with the note on it
abbrev answered_so : NodeOf → LogOf → Op → ℕ → Offered → NodeOf × Note
answered_so seen log op n answer = (seeing seen (after_offer log op answer), note_of_heard (entry_answer n answer))

next_so : (seen : NodeOf) (log : LogOf) (op : Op) (n : ℕ) (full : Bool)
    → next_at (seeing seen log) (length_of log.board) n full ≡ answered_so seen log op n (next_answer (length_of log.board) full)
next_so seen log op n true = refl
next_so seen log op n false = ap (λ node. (node, note.Accepted n)) (accepts_so seen log op)

comes_so : (seen : NodeOf) (log : LogOf) (op : Op) (n : ℕ) (there past early full : Bool)
    → entry_at (seeing seen log) (length_of log.board) n there past early full
    ≡ answered_so seen log op n (answer_at (length_of log.board) n there past early full)
comes_so seen log op n true past early full = refl
comes_so seen log op n false true early full = refl
comes_so seen log op n false false true full = ap (λ node. (node, note.Held n)) (holds_so seen log op (n - length_of log.board - 1))
comes_so seen log op n false false false full = next_so seen log op n full

-- no number of the log is beyond what a replica's log takes
within_limit : (a : Bool) (n : ℕ) → n ≤ LOG_CALLS → (a || nat_lt LOG_CALLS n) ≡ a
within_limit true n le = refl
within_limit false n le = le-ltb LOG_CALLS n le

pub entry_alike : (seen : NodeOf) (log : LogOf) (op : Op) (n : ℕ) → length log.board.log ≡ length log.board.states → n ≤ LOG_CALLS
    → entry_move (seeing seen log) n ≡ answered_so seen log op n (offer_answer log.board n)
entry_alike seen log op n beside within =
    let node = seeing seen log in
    let size = length_of log.board in
    let past = nat_lt (size + 64) n in
    let full = unfinished_of log.board == 1024 in
    ap (λ m. entry_at node m n (nat_le n m) (nat_lt (m + 64) n) (nat_lt (suc m) n) (undone_in node == 1024)) (length_stages log.board beside)
    ∙ ap (λ u. entry_at node size n (nat_le n size) past (nat_lt (suc size) n) (u == 1024)) (undone_in_stages log.board)
    ∙ comes_so seen log op n (nat_le n size) past (nat_lt (suc size) n) full
    ∙ ap (λ p. answered_so seen log op n (answer_at size n (nat_le n size) p (nat_lt (suc size) n) full)) (sym (within_limit past n within))

-- the answer of a replica that takes what it holds, as a note
abbrev pub note_if : Option Heard → Note
note_if (Some heard) = note_of_heard heard
note_if None = note.Nothing

pub advance_alike : (seen : NodeOf) (log : LogOf) → length log.board.log ≡ length log.board.states
    → next_move (seeing seen log)
    ≡ (seeing seen (after_advance log), note_if (next_entry_answer log))
advance_alike seen log beside =
    ap (held_move (seeing seen log)) (slice_get-map is_some log.held 0) ∙ by (slice_get log.held 0)
  where
    by : (first : Option (Option Op)) → held_move (seeing seen log) (option_map is_some first)
        ≡ (
          seeing seen (after_held_op log (option_and_then (λ held. held) first)),
          note_if (option_map (entry_answer (suc (length_of log.board)))
              (option_map (λ op. next_offer_answer log.board) (option_and_then (λ held. held) first))),
        )
    by None = refl
    by (Some None) = refl
    by (Some (Some op)) =
        let node = seeing seen log in
        let size = length_of log.board in
        ap (λ m. next_at node m (suc m) (undone_in node == 1024)) (length_stages log.board beside)
        ∙ ap (λ u. next_at node size (suc size) (u == 1024)) (undone_in_stages log.board)
        ∙ next_so seen log op (suc size) (unfinished_of log.board == 1024)

-- the machine accepts what is answered as accepted
accepts_next : (node : NodeOf) (size other n number : ℕ) (full : Bool) → entry_answer number (next_answer size full) ≡ heard.Accepted number
    → (next_at node other n full).1 ≡ note.Accepted n
accepts_next node size other n number true e = absurd cc
accepts_next node size other n number false e = refl

pub takes_next : (seen : NodeOf) (log : LogOf) → next_entry_answer log ≡ Some (heard.Accepted (suc (length_of log.board)))
    → (n : ℕ) × ((next_move (seeing seen log)).1 ≡ note.Accepted n)
takes_next seen log next = (
  suc (length_in node),
  ap (λ first. (held_move node first).1) (slice_get-map is_some log.held 0) ∙ by (slice_get log.held 0) next,
)
  where
    node : NodeOf
    node = seeing seen log

    size : ℕ
    size = length_of log.board

    by : (first : Option (Option Op))
        → option_map (entry_answer (suc size)) (option_map (λ op. next_offer_answer log.board) (option_and_then (λ held. held) first))
        ≡ Some (heard.Accepted (suc size))
        → (held_move node (option_map is_some first)).1 ≡ note.Accepted (suc (length_in node))
    by None e = absurd (none_some e)
    by (Some None) e = absurd (none_some e)
    by (Some (Some op)) e =
        ap (λ u. (next_at node (length_in node) (suc (length_in node)) (u == 1024)).1) (undone_in_stages log.board)
        ∙ accepts_next node size (length_in node) (suc (length_in node)) (suc size) (unfinished_of log.board == 1024) (some_is e)

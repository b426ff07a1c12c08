-- A world whose sequencer syncs its log, or starts again with a part of it.
use Rattle.std.proofs.Common.{◌≡◌, ℕ, zero, suc, ◌+◌, ◌-◌, max, Option, Some, None, List, [], ◌∷◌, ◌++◌, length, map, take, replicate, refl, sym, ap, subst, ◌∙◌, arith}
use Rattle.std.specs.Prelude.{slice_get, IfSome}
use Rattle.std.specs.Option.{option_and_then, option_flatten}
use Rattle.std.proofs.Math.Seq.{take-append-add}
use Rattle.std.proofs.lemmas.List.{length-replicate, map-append}
use Rattle.sb_rows.specs.Balances.{Balances}
use Rattle.sb_calls.specs.declared.ask.Key.{Key}
use Rattle.sb_calls.specs.declared.call.Call.{Call}
use Rattle.sb_calls.specs.declared.reply.Reply.{Reply}
use Rattle.sb_sequencer.specs.Notes.{answer_of}
use Rattle.sb_sequencer.specs.Numbering.{index_of_key, same_key}
use Rattle.sb_sequencer.specs.Sequencer.{SequencerOf, IsSequencer}
use Rattle.schedule_sequencer.proofs.Answers.{answer-append}
use Rattle.schedule_sequencer.specs.DurableSequencer.{DurableSequencerOf, whole_log, after_sync, log_after_crash, after_crash}
use Rattle.schedule_player.specs.Bank.{log_reply}
use Rattle.schedule_player.specs.inner.NodeInvariant.{IsNodeAt}
use Rattle.schedule_player.specs.World.{WorldOf, bank_of, bank_with, world_log}
use Rattle.schedule_player.specs.inner.WorldInvariant.{IsWorld}
use Rattle.schedule_player.specs.declared.node.Node.{Node}
use Rattle.cown_board.proofs.LogLaws.{no_some as none_some}
use Rattle.cown_board.proofs.LogLaws.{injective as some_is}
use Rattle.schedule_player.proofs.logs.LongerLogs.{with_calls, node_longer, reply_stays}
use Rattle.schedule_player.proofs.boards.Stages.{length-map}
use Rattle.schedule_player.proofs.events.WorldStep.{world_of}

abbrev pub call_in : Key × Call → Call
call_in ask = ask.1

-- the bank of a log with more asks has more calls
pub longer_bank : (names : List (List ℕ)) (opening : Balances) (log more : List (Key × Call))
    → bank_with names opening (log ++ more) ≡ with_calls (bank_with names opening log) (map call_in more)
longer_bank names opening log more =
    ap (λ calls. record { names = names; opening = opening; calls = calls }) (map-append call_in log more)

-- what a crash leaves is what was synced, and some more
pub left_over : (s : DurableSequencerOf) (kept : ℕ)
    → log_after_crash s kept ≡ s.synced.log ++ take (max (length s.synced.log) kept - length s.synced.log) s.unsynced
left_over s kept =
    let most : max (length s.synced.log) kept ≡ length s.synced.log + (max (length s.synced.log) kept - length s.synced.log) = omega arith in
    ap (λ n. take n (whole_log s)) most
    ∙ take-append-add s.synced.log s.unsynced (max (length s.synced.log) kept - length s.synced.log)

-- places without an answer have none
none_in : (n k : ℕ) (reply : Reply) → slice_get (replicate n None) k ≡ Some (Some reply) → ⊥
none_in zero k reply here = none_some here
none_in (suc n) zero reply here = none_some (some_is here)
none_in (suc n) (suc k) reply here = none_in n k reply here

none_behind : (answers : List (Option Reply)) (n k : ℕ) (reply : Reply) → slice_get (answers ++ replicate n None) k ≡ Some (Some reply)
    → slice_get answers k ≡ Some (Some reply)
none_behind [] n k reply here = absurd (none_in n k reply here)
none_behind (answer ∷ answers) n zero reply here = here
none_behind (answer ∷ answers) n (suc k) reply here = none_behind answers n k reply here

-- a sequencer whose log is longer, and to which no more answers were told
world_longer : (names : List (List ℕ)) (opening : Balances) (old new : SequencerOf) (nodes : List Node) (more : List (Key × Call))
    → IsWorld names opening old nodes → IsSequencer new → new.log ≡ old.log ++ more → length new.recorded ≡ length old.recorded
    → ((k : ℕ) (reply : Reply) → slice_get new.answers k ≡ Some (Some reply) → slice_get old.answers k ≡ Some (Some reply))
    → IsWorld names opening new nodes
world_longer names opening old new nodes more is valid log recorded answers =
    let bank = bank_with names opening old.log in
    let longer : with_calls bank (map call_in more) ≡ bank_with names opening new.log =
    sym (longer_bank names opening old.log more) ∙ ap (bank_with names opening) (sym log) in
    let few : length (bank.calls ++ map call_in more) ≡ length new.log = ap (λ b. length b.calls) longer ∙ length-map call_in new.log in
    record {
      customers = is.customers;
      valid = valid;
      known = recorded ∙ is.known;
      few = is.few;
      each = λ r node here.
          subst (λ b. IsNodeAt b r node) longer
          (node_longer bank (map call_in more) r node (omega (arith, few, valid.log.limit)) (is.each r node here));
      out_in_hands = is.out_in_hands;
      answers = λ k reply here.
          subst (λ b. log_reply b (suc k) ≡ Some reply) longer
          (reply_stays bank (map call_in more) (suc k) reply (is.answers k reply (answers k reply here)));
    }

pub world_synced : (names : List (List ℕ)) (opening : Balances) (s : DurableSequencerOf) (nodes : List Node) → IsWorld names opening s.synced nodes
    → IsSequencer (after_sync s).synced → IsWorld names opening (after_sync s).synced nodes
world_synced names opening s nodes is valid =
    world_longer names opening s.synced (after_sync s).synced nodes s.unsynced is valid refl refl
    (none_behind s.synced.answers (length s.unsynced))

pub world_crashed : (names : List (List ℕ)) (opening : Balances) (s : DurableSequencerOf) (nodes : List Node) (kept : ℕ)
    → IsWorld names opening s.synced nodes → IsSequencer (after_crash s kept).synced → IsWorld names opening (after_crash s kept).synced nodes
world_crashed names opening s nodes kept is valid =
    world_longer names opening s.synced (after_crash s kept).synced nodes (take (max (length s.synced.log) kept - length s.synced.log) s.unsynced) is valid
    (left_over s kept) (length-replicate {A = ℕ} (length s.synced.recorded) 0)
    (λ k reply here. absurd (none_in (length (log_after_crash s kept)) k reply here))

-- ---- answers

flattened : (found : Option (Option Reply)) (reply : Reply) → option_flatten found ≡ Some reply → found ≡ Some (Some reply)
flattened None reply e = absurd (none_some e)
flattened (Some answer) reply e = ap (λ x. Some x) e

-- an answer that is found is kept at the index that its key has in the whole log
answered : (s : DurableSequencerOf) (key : Key) (reply : Reply) (index : ℕ) → length s.synced.answers ≡ length s.synced.log
    → answer_of s.synced key ≡ Some reply → index_of_key (whole_log s) key ≡ Some index → slice_get s.synced.answers index ≡ Some (Some reply)
answered s key reply index same here at =
    let n = length s.unsynced in
    let longer : List (Option Reply) = s.synced.answers ++ replicate n None in
    let found = answer-append (λ ask. same_key key ask.0) s.synced.log s.unsynced s.synced.answers n same refl in
    none_behind s.synced.answers n index reply
    (flattened (slice_get longer index) reply
    (sym (ap (option_and_then (λ i. option_flatten (slice_get longer i))) at) ∙ found ∙ here))

pub answered_by_log : (names : List (List ℕ)) (opening : Balances) (s : DurableSequencerOf) (nodes : List Node) (now : WorldOf) (key : Key)
    (answer : Option Reply) → world_of names opening s nodes ≡ now → IsWorld names opening s.synced nodes → answer ≡ answer_of s.synced key
    → IfSome answer (λ reply. (index : ℕ) → index_of_key (world_log now) key ≡ Some index → log_reply (bank_of now) (index + 1) ≡ Some reply)
answered_by_log names opening s nodes now key None view is e = tt
answered_by_log names opening s nodes now key (Some reply) view is e = λ index at.
    let next : index + 1 ≡ suc index = omega arith in
    ap (log_reply (bank_of now)) next
    ∙ subst (λ w. log_reply (bank_of w) (suc index) ≡ Some reply) view
    (is.answers index reply (answered s key reply index is.valid.answers (sym e) (ap (λ w. index_of_key (world_log w) key) view ∙ at)))

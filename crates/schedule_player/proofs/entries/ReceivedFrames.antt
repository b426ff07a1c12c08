-- The sequencer hears what a replica sent.
use Rattle.std.proofs.Common.{◌≡◌, inl, inr, ℕ, zero, suc, ◌-◌, ◌<◌, ◌≤◌, true, Some, None, List, length, map, sym, ap, subst, ◌∙◌, arith}
use Rattle.std.specs.Prelude.{slice_get, slice_set, option_map, nat_lt, nat_le, ◌&&◌, if◌then◌else◌}
use Rattle.std.proofs.lemmas.Bool.{cases_eq, lt-ltb, le-leb}
use Rattle.std.proofs.lemmas.List.{length-set}
use Rattle.std.proofs.lemmas.List.Elements.{All-set}
use Rattle.std.proofs.lemmas.Option.{slice_get-map, slice_get-get_or, slice_get_within}
use Rattle.cown_board.proofs.StateChanges.{slice_get-set_same, slice_get-set_other}
use Rattle.sb_rows.specs.Balances.{Balances}
use Rattle.sb_calls.specs.declared.ask.Key.{Key}
use Rattle.sb_calls.specs.declared.call.Call.{Call}
use Rattle.sb_calls.specs.declared.reply.Reply.{Reply}
use Rattle.sb_frames.specs.declared.frame.Frame.{Frame}
use Rattle.sb_frames.specs.declared.frame.Frame.TheVariants as frame
use Rattle.sb_sequencer.specs.Notes.{note_of_ack, after_ack_note, note_of_have, after_have_note, IsAnswerNote, after_answer}
use Rattle.sb_sequencer.specs.Sequencer.{SequencerOf}
use Rattle.sb_sequencer.specs.declared.note.AckNote.TheVariants as acks
use Rattle.sb_sequencer.specs.declared.note.AnswerNote.{AnswerNote}
use Rattle.sb_sequencer.specs.declared.note.AnswerNote.TheVariants as answers
use Rattle.sb_sequencer.specs.declared.note.HaveNote.TheVariants as haves
use Rattle.schedule_player.specs.Bank.{BankOf, log_reply}
use Rattle.schedule_player.specs.inner.ReceivesFrame.{ack_note, have_note, answer_note, ReceivesFrame}
use Rattle.schedule_player.specs.inner.NodeInvariant.{machine_node}
use Rattle.schedule_player.specs.FramesOfLog.{IsSentBy}
use Rattle.schedule_player.specs.OneBased.{nth_item}
use Rattle.schedule_player.specs.World.{WorldOf, bank_with, reply_move, report_move, from_move}
use Rattle.schedule_player.specs.inner.WorldInvariant.{IsWorld}
use Rattle.schedule_player.specs.declared.node.Node.{Node}
use Rattle.schedule_text.specs.declared.note.Note.{Note}
use Rattle.schedule_text.specs.declared.note.Note.TheVariants as note
use Rattle.cown_board.proofs.LogLaws.{no_some as none_some}
use Rattle.cown_board.proofs.LogLaws.{injective as some_is}
use Rattle.schedule_player.proofs.events.WorldStep.{world_of}
use Rattle.schedule_player.proofs.logs.LongerLogs.{replied_within}
use Rattle.schedule_player.proofs.boards.Stages.{length-map}

-- a sequencer with this part of its log synced, in its world
abbrev world_at : List (List ℕ) → Balances → List (Key × Call) → List Node → SequencerOf → WorldOf
world_at names opening unsynced nodes s = world_of names opening (record { synced = s; unsynced = unsynced }) nodes

-- it is still a world, so the machine moves to it
pub record Hears (names : List (List ℕ)) (opening : Balances) (s : SequencerOf) (unsynced : List (Key × Call)) (nodes : List Node) (r : ℕ) (sent : Frame)
    (noted : Note) (new : SequencerOf) : Type 0 where
  pub is : IsWorld names opening new nodes
  pub moved : report_move (world_at names opening unsynced nodes s) r (Some sent) ≡ (world_at names opening unsynced nodes new, noted)

module _ (names : List (List ℕ)) (opening : Balances) (s : SequencerOf) (unsynced : List (Key × Call)) (nodes : List Node)
    (is : IsWorld names opening s nodes) where
  abbrev bank : BankOf
  bank = bank_with names opening s.log

  -- ---- a length

  acks_so : (r size : ℕ) → r < length nodes → size ≤ length s.log → note_of_ack s r size ≡ acks.Recorded
  acks_so r size known within =
      let l : nat_lt r (length s.recorded) ≡ true = lt-ltb r (length s.recorded) (omega (arith, known, is.known)) in
      let w : nat_le size (length s.log) ≡ true = le-leb size (length s.log) within in
      λ j. if l j && w j then acks.Recorded else acks.Odd

  hears_length : (r size : ℕ) (noted : Note) (new : SequencerOf) → r < length nodes → size ≤ length s.log
      → ReceivesFrame s (frame.Ack r size) noted new → Hears names opening s unsynced nodes r (frame.Ack r size) noted new
  hears_length r size noted new known within hears =
      let recorded = slice_set s.recorded r size in
      let so = acks_so r size known within in
      let new_is : new ≡ record s { recorded = recorded } = hears.1 ∙ ap (after_ack_note s r size) so in
      let noted_is : noted ≡ note.Recorded size = hears.0 ∙ ap (ack_note size) so in
      record {
        is = subst (λ x. IsWorld names opening x nodes) (sym new_is)
            (record {
              customers = is.customers;
              valid = record {
                log = is.valid.log;
                answers = is.valid.answers;
                recorded = All-set (λ n. n ≤ length s.log) s.recorded r size within is.valid.recorded;
                same_length = is.valid.same_length ∙ sym (length-set s.recorded r size);
                checkpoints = is.valid.checkpoints;
              };
              known = length-set s.recorded r size ∙ is.known;
              few = is.few;
              each = is.each;
              out_in_hands = is.out_in_hands;
              answers = is.answers;
            });
        moved = λ j. (world_at names opening unsynced nodes (sym new_is j), sym noted_is j);
      }

  -- ---- the length of a checkpoint

  haves_so : (r size : ℕ) → r < length nodes → size ≤ length s.log → note_of_have s r size ≡ haves.Recorded
  haves_so r size known within =
      let l : nat_lt r (length s.recorded) ≡ true = lt-ltb r (length s.recorded) (omega (arith, known, is.known)) in
      let w : nat_le size (length s.log) ≡ true = le-leb size (length s.log) within in
      λ j. if l j && w j then haves.Recorded else haves.Odd

  hears_checkpoint : (r size : ℕ) (noted : Note) (new : SequencerOf) → r < length nodes → size ≤ length s.log
      → ReceivesFrame s (frame.Have r size) noted new → Hears names opening s unsynced nodes r (frame.Have r size) noted new
  hears_checkpoint r size noted new known within hears =
      let so = haves_so r size known within in
      let new_is : new ≡ record s { checkpoints = slice_set s.checkpoints r size } = hears.1 ∙ ap (after_have_note s r size) so in
      let noted_is : noted ≡ note.Has size = hears.0 ∙ ap (have_note size) so in
      record {
        is = subst (λ x. IsWorld names opening x nodes) (sym new_is)
            (record {
              customers = is.customers;
              valid = record {
                log = is.valid.log;
                answers = is.valid.answers;
                recorded = is.valid.recorded;
                same_length = length-set s.checkpoints r size ∙ is.valid.same_length;
                checkpoints = All-set (λ n. n ≤ length s.log) s.checkpoints r size within is.valid.checkpoints;
              };
              known = is.known;
              few = is.few;
              each = is.each;
              out_in_hands = is.out_in_hands;
              answers = is.answers;
            });
        moved = λ j. (world_at names opening unsynced nodes (sym new_is j), sym noted_is j);
      }

  -- ---- a reply

  answered_within : (k : ℕ) (reply : Reply) → log_reply bank (suc k) ≡ Some reply → k < length s.answers
  answered_within k reply here =
      let lt = replied_within bank k reply here in
      let m = length-map (λ entry. entry.1) s.log in
      omega (arith, lt, m, is.valid.answers)

  kept_first : (k place : ℕ) (reply : Reply) → place ≡ k → log_reply bank (suc k) ≡ Some reply
      → IsWorld names opening (record s { answers = slice_set s.answers place (Some reply) }) nodes
  kept_first k place reply at here = record {
    customers = is.customers;
    valid = record {
      log = is.valid.log;
      answers = length-set s.answers place (Some reply) ∙ is.valid.answers;
      recorded = is.valid.recorded;
      same_length = is.valid.same_length;
      checkpoints = is.valid.checkpoints;
    };
    known = is.known;
    few = is.few;
    each = is.each;
    out_in_hands = is.out_in_hands;
    answers = λ j other there. elim (cases_eq place j) [
      | inl same ↦
          let within : place < length s.answers = let lt = answered_within k reply here in omega (arith, lt, at) in
          let is_reply : reply ≡ other =
          some_is (some_is (sym (slice_get-set_same s.answers place (Some reply) within)
          ∙ ap (slice_get (slice_set s.answers place (Some reply))) same ∙ there)) in
          ap (λ n. log_reply bank (suc n)) (sym same ∙ at) ∙ here ∙ ap (λ x. Some x) is_reply
      | inr differs ↦
          is.answers j other (sym (slice_get-set_other s.answers place j (Some reply) (λ e. differs (sym e))) ∙ there)
    ];
  }

  hears_numbered : (r k : ℕ) (reply : Reply) (noted : Note) (new : SequencerOf) → log_reply bank (suc k) ≡ Some reply → (answer : AnswerNote)
      → IsAnswerNote s (suc k) reply answer → noted ≡ answer_note (suc k) answer → new ≡ after_answer s (suc k) reply answer
      → Hears names opening s unsynced nodes r (frame.Answer (suc k) reply) noted new
  hears_numbered r k reply noted new here answers.Kept stored n e = record {
    is = subst (λ x. IsWorld names opening x nodes) (sym e) (let at : suc k - 1 ≡ k = omega arith in kept_first k (suc k - 1) reply at here);
    moved =
        ap (reply_move (world_at names opening unsynced nodes s) (suc k) reply) stored
        ∙ (λ j. (world_at names opening unsynced nodes (sym e j), sym n j));
  }
  hears_numbered r k reply noted new here answers.Repeat stored n e = record {
    is = subst (λ x. IsWorld names opening x nodes) (sym e) is;
    moved =
        ap (reply_move (world_at names opening unsynced nodes s) (suc k) reply) stored
        ∙ (λ j. (world_at names opening unsynced nodes (sym e j), sym n j));
  }
  hears_numbered r k reply noted new here answers.Odd stored n e =
      absurd (stored.2 (some_is (sym (is.answers k stored.0 stored.1) ∙ here)))
  hears_numbered r k reply noted new here answers.Unknown stored n e =
      absurd (none_some (sym stored ∙ slice_get-get_or s.answers k None (answered_within k reply here)))

  hears_reply : (r number : ℕ) (reply : Reply) (noted : Note) (new : SequencerOf) → log_reply bank number ≡ Some reply
      → ReceivesFrame s (frame.Answer number reply) noted new → Hears names opening s unsynced nodes r (frame.Answer number reply) noted new
  hears_reply r zero reply noted new here hears = absurd (none_some here)
  hears_reply r (suc k) reply noted new here hears = hears_numbered r k reply noted new here hears.0 hears.1 hears.2 hears.3

  -- ---- whatever a replica sent

  hears_by : (r : ℕ) (sent : Frame) (noted : Note) (new : SequencerOf) → r < length nodes → IsSentBy bank r sent → ReceivesFrame s sent noted new
      → Hears names opening s unsynced nodes r sent noted new
  hears_by r (frame.Ack replica size) noted new known by hears =
      let m = length-map (λ entry. entry.1) s.log in
      let same = by.0 in
      let within : size ≤ length s.log = let few = by.1 in omega (arith, few, m) in
      let heard = hears_length replica size noted new (omega (arith, known, same)) within hears in
      record {
        is = heard.is;
        moved =
            ap (λ q. (
              world_at names opening unsynced nodes (record s { recorded = slice_set s.recorded q size }),
              note.Recorded size,
            )) (sym same)
            ∙ heard.moved;
      }
  hears_by r (frame.Have replica size) noted new known by hears =
      let m = length-map (λ entry. entry.1) s.log in
      let same = by.0 in
      let within : size ≤ length s.log = let few = by.1 in omega (arith, few, m) in
      let heard = hears_checkpoint replica size noted new (omega (arith, known, same)) within hears in
      record {
        is = heard.is;
        moved =
            ap (λ q. (
              world_at names opening unsynced nodes (record s { checkpoints = slice_set s.checkpoints q size }),
              note.Has size,
            )) (sym same)
            ∙ heard.moved;
      }
  hears_by r (frame.Answer number reply) noted new known by hears = hears_reply r number reply noted new by hears
  hears_by r (frame.Ask client request call) noted new known by hears = absurd by
  hears_by r (frame.Entry number call) noted new known by hears = absurd by
  hears_by r (frame.Outcome client request outcome) noted new known by hears = absurd by
  hears_by r frame.Flush noted new known by hears = absurd by

  sees_frame : (r place : ℕ) (node : Node) (sent : Frame) → slice_get nodes r ≡ Some node → nth_item node.outbound place ≡ Some sent
      → from_move (world_at names opening unsynced nodes s) r place (slice_get (map machine_node nodes) r)
      ≡ report_move (world_at names opening unsynced nodes s) r (Some sent)
  sees_frame r place node sent here there =
      ap (from_move (world_at names opening unsynced nodes s) r place) (slice_get-map machine_node nodes r ∙ ap (option_map machine_node) here)
      ∙ ap (report_move (world_at names opening unsynced nodes s) r) there

  told_by_node : (r place : ℕ) (node : Node) (sent : Frame) → slice_get nodes r ≡ Some node → nth_item node.outbound place ≡ Some sent
      → IsSentBy bank r sent
  told_by_node r zero node sent here there = absurd (none_some there)
  told_by_node r (suc k) node sent here there = (is.each r node here).outbound k sent there

  pub hears_told : (r place : ℕ) (node : Node) (sent : Frame) (noted : Note) (new : SequencerOf) → slice_get nodes r ≡ Some node
      → nth_item node.outbound place ≡ Some sent → ReceivesFrame s sent noted new
      → IsWorld names opening new nodes
      × (from_move (world_at names opening unsynced nodes s) r place (slice_get (map machine_node nodes) r)
      ≡ (world_at names opening unsynced nodes new, noted))
  hears_told r place node sent noted new here there hears =
      let heard = hears_by r sent noted new (slice_get_within nodes r node here) (told_by_node r place node sent here there) hears in
      (heard.is, sees_frame r place node sent here there ∙ heard.moved)

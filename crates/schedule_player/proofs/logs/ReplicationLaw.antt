-- What holds of a world by its events.
use Rattle.std.proofs.Common.{◌≡◌, ◌⊎◌, inl, inr, ℕ, zero, suc, ◌<◌, ◌≤◌, get_or, Option, Some, None, length, sym, ap, ◌∙◌, arith, refl}
use Rattle.std.specs.Prelude.{slice_get, option_and_then, option_map}
use Rattle.std.proofs.lemmas.Option.{slice_get_cases, slice_get_within}
use Rattle.sb_calls.specs.Log.{rows_after_calls}
use Rattle.sb_calls.specs.Procedures.{procedure}
use Rattle.sb_calls.specs.declared.call.Call.{Call}
use Rattle.sb_calls.specs.declared.reply.Reply.{Reply}
use Rattle.schedule_player.specs.Bank.{BankOf, opening_rows, log_reply}
use Rattle.schedule_player.specs.Headline.{ReplicasAgree}
use Rattle.schedule_player.specs.OneBased.{nth_item}
use Rattle.schedule_player.specs.Observers.{length_at, reply_at_replica}
use Rattle.schedule_player.specs.EventLists.{IsWorldAfter, bank_after, log_after_events}
use Rattle.schedule_player.specs.ReplicaMoves.{NodeOf, length_in, reply_by_stage, reply_in_node}
use Rattle.schedule_player.specs.Stage.{IsDone}
use Rattle.schedule_player.specs.World.{WorldOf, bank_of}
use Rattle.schedule_text.specs.ScheduleText.{ScheduleOf}
use Rattle.cown_board.proofs.LogLaws.{no_some as none_some}
use Rattle.cown_board.proofs.LogLaws.{injective as some_is}
use Rattle.schedule_player.proofs.observers.Observers.{held_is_logged}
use Rattle.schedule_player.proofs.events.EventLists.{played_bank, played_log}
use Rattle.schedule_player.proofs.logs.LongerLogs.{reply_begun}
use Rattle.schedule_player.proofs.boards.Stages.{length-map}
use Rattle.schedule_player.proofs.logs.LengthWithinLog.{played_within}

-- a log gives each of its numbers a reply
replied_in : (bank : BankOf) (k : ℕ) → k < length bank.calls → (reply : Reply) × (log_reply bank (suc k) ≡ Some reply)
replied_in bank k lt = by (slice_get_cases bank.calls k).1
  where
    by : (((call : Call) × (k < length bank.calls) × (slice_get bank.calls k ≡ Some call) × (get_or bank.calls k call ≡ call))
        ⊎ ((length bank.calls ≤ k) × (slice_get bank.calls k ≡ None)))
        → (reply : Reply) × (log_reply bank (suc k) ≡ Some reply)
    by (inl found) = (
      (procedure found.0 (rows_after_calls (opening_rows bank) bank.calls k)).reply,
      ap (option_map (λ call. (procedure call (rows_after_calls (opening_rows bank) bank.calls k)).reply)) found.2,
    )
    by (inr past) = absurd (omega (arith, lt, past.0))

module _ (schedule : ScheduleOf) (world : WorldOf) (played : IsWorldAfter schedule world) where
  synced_length : length world.sequencer.synced.log ≡ (log_after_events schedule.events).synced
  synced_length = ap (λ l. l.synced) (played_log schedule world played)

  within_length : (r size : ℕ) → length_at world r ≡ Some size → size ≤ (log_after_events schedule.events).synced
  within_length r size here = by (slice_get world.nodes r) refl here
    where
      by : (found : Option NodeOf) → slice_get world.nodes r ≡ found → option_map length_in found ≡ Some size → size ≤ (log_after_events schedule.events).synced
      by None none e = absurd (none_some e)
      by (Some node) at e =
          let log = synced_length in
          let within = played_within schedule world played r node at in
          let same = some_is e in
          omega (arith, log, within, same)

  done_number : (node : NodeOf) (number : ℕ) → length_in node ≤ length world.sequencer.synced.log → nth_item node.stages number ≡ Some IsDone
      → (reply : Reply) × (log_reply (bank_of world) number ≡ Some reply)
  done_number node zero within done = absurd (none_some done)
  done_number node (suc k) within done =
      let lt = slice_get_within node.stages k IsDone done in
      let calls = length-map (λ ask. ask.1) world.sequencer.synced.log in
      replied_in (bank_of world) k (omega (arith, lt, within, calls))

  replied_done : (r number : ℕ) (node : NodeOf) → slice_get world.nodes r ≡ Some node → nth_item node.stages number ≡ Some IsDone
      → (reply : Reply) × (reply_at_replica world r number ≡ Some reply)
  replied_done r number node here done =
      let within = played_within schedule world played r node here in
      let held = done_number node number within done in
      (held.0, ap (option_and_then (λ one. reply_in_node (bank_of world) one number)) here ∙ ap (reply_by_stage (bank_of world) number) done ∙ held.1)

  pub replicates : ReplicasAgree schedule world
  replicates = record {
    log = ap (λ l. l.log) (played_log schedule world played);
    synced = synced_length;
    agree = λ a b number one other at_a at_b.
        some_is (sym (held_is_logged world a number one at_a) ∙ held_is_logged world b number other at_b);
    by_log = λ r number reply at.
        reply_begun (bank_of world) (bank_after schedule) number reply (played_bank schedule world played)
        (held_is_logged world r number reply at);
    replied = replied_done;
    within = within_length;
  }

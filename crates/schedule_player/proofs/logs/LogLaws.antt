-- The sequencer's log as time goes on.
use Rattle.std.proofs.Common.{◌≡◌, ℕ, suc, ◌-◌, max, Bool, true, false, Option, Some, None, List, [], ◌∷◌, ◌++◌, length, take, refl, sym, ap, subst, ◌∙◌, arith, append-nil, append_assoc}
use Rattle.std.specs.Prelude.{slice_get, ◌==◌, fold, IsTrue}
use Rattle.std.specs.List.{All, filter_map}
use Rattle.std.proofs.lemmas.Bool.{true≢false}
use Rattle.sb_calls.specs.declared.ask.Key.{Key}
use Rattle.sb_calls.specs.declared.call.Call.{Call}
use Rattle.sb_calls.specs.declared.reply.Reply.{Reply}
use Rattle.sb_frames.specs.declared.frame.Frame.{Frame}
use Rattle.sb_frames.specs.declared.frame.Frame.TheVariants as frame
use Rattle.sb_sequencer.proofs.LogSteps.{log_after-empty}
use Rattle.sb_sequencer.specs.Log.{log_with, log_after}
use Rattle.sb_sequencer.specs.Notes.{answer_slot}
use Rattle.sb_log.specs.Reading.{Begins}
use Rattle.schedule_player.specs.EventLists.{all_synced, log_after_event}
use Rattle.schedule_player.specs.LogLaws.{FirstAsks, SyncedLogsStay, ask_in, leaves_all_synced}
use Rattle.schedule_player.specs.OneBased.{nth_item}
use Rattle.schedule_player.specs.ReplicaMoves.{NodeOf, receive_move, node_move}
use Rattle.schedule_player.specs.World.{WorldOf, AppendsAsk, bank_of, synced_world, crashed_world, move_if, move_at, replica_move, reply_move, report_move, from_move, give_move}
use Rattle.schedule_text.specs.declared.event.Event.{Event}
use Rattle.schedule_text.specs.declared.event.Event.TheVariants as event
use Rattle.schedule_text.specs.declared.event.NodeEvent.{NodeEvent}
use Rattle.schedule_text.specs.declared.event.SystemEvent.TheVariants as system
use Rattle.schedule_text.specs.declared.note.Note.{Note}
use Rattle.schedule_text.specs.declared.note.Note.TheVariants as note
use Rattle.schedule_player.proofs.events.EventInduction.{all_keep}
use Rattle.schedule_player.proofs.events.MemoryRefusals.{give_by}
use Rattle.schedule_player.proofs.logs.WorldLogs.{left_over}

-- ---- what is synced stays

module _ (first : List (Key × Call)) where
  -- the synced log begins with this one
  abbrev IsBehind : WorldOf → Type 0
  IsBehind world = Begins first world.sequencer.synced.log

  behind_if : (world : WorldOf) (r : ℕ) (move : NodeOf → NodeOf × Note) (found : Option NodeOf) → IsBehind world
      → IsBehind (move_if world r move found).0
  behind_if world r move (Some node) is = is
  behind_if world r move None is = is

  behind_at : (world : WorldOf) (r : ℕ) (move : NodeOf → NodeOf × Note) → IsBehind world → IsBehind (move_at world r move).0
  behind_at world r move is = behind_if world r move (slice_get world.nodes r) is

  behind_node : (world : WorldOf) (r : ℕ) (happens : NodeEvent) → IsBehind world → IsBehind (replica_move world r happens).0
  behind_node world r happens is = behind_at world r (λ node. node_move (bank_of world) world.sequencer.synced r node happens) is

  behind_kept : (world : WorldOf) (n : ℕ) (reply : Reply) (stored : Option (Option Reply)) → IsBehind world
      → IsBehind (reply_move world n reply stored).0
  behind_kept world n reply (Some None) is = is
  behind_kept world n reply (Some (Some one)) is = is
  behind_kept world n reply None is = is

  behind_told : (world : WorldOf) (r : ℕ) (sent : Option Frame) → IsBehind world → IsBehind (report_move world r sent).0
  behind_told world r (Some (frame.Ack replica size)) is = is
  behind_told world r (Some (frame.Have replica size)) is = is
  behind_told world r (Some (frame.Answer n reply)) is = behind_kept world n reply (answer_slot world.sequencer.synced n) is
  behind_told world r other is = is

  behind_heard : (world : WorldOf) (r place : ℕ) (found : Option NodeOf) → IsBehind world → IsBehind (from_move world r place found).0
  behind_heard world r place (Some node) is = behind_told world r (nth_item node.outbound place) is
  behind_heard world r place None is = is

  behind_from : (world : WorldOf) (r place : ℕ) → IsBehind world → IsBehind (from_move world r place (slice_get world.nodes r)).0
  behind_from world r place is = behind_heard world r place (slice_get world.nodes r) is

  behind_given_by : (world : WorldOf) (r size : ℕ) (nothing : Bool) → IsBehind world → IsBehind (give_by world r size nothing).0
  behind_given_by world r size true is = is
  behind_given_by world r size false is = behind_at world r (λ node. receive_move node size) is

  behind_given : (world : WorldOf) (a r : ℕ) → IsBehind world → IsBehind (give_move world r (slice_get world.nodes a)).0
  behind_given world a r is = by (slice_get world.nodes a)
    where
      by : (found : Option NodeOf) → IsBehind (give_move world r found).0
      by (Some donor) = behind_given_by world r donor.stored (donor.stored == 0) is
      by None = is

  behind_appended : (old : WorldOf) (ask : Key × Call) (n : Note) (new : WorldOf) → AppendsAsk old ask n new → IsBehind old → IsBehind new
  behind_appended old ask (note.New n) new appends is = subst IsBehind (sym appends.1) is
  behind_appended old ask (note.Repeat n) new appends is = subst IsBehind (sym appends.1) is
  behind_appended old ask (note.Mismatch n) new appends is = subst IsBehind (sym appends.1) is
  behind_appended old ask note.LogFull new appends is = subst IsBehind (sym appends.1) is
  behind_appended old ask other new appends is = absurd appends

  -- a log that goes on
  further : (log more : List (Key × Call)) → Begins first log → Begins first (log ++ more)
  further log more is = (is.0 ++ more, ap (λ l. l ++ more) is.1 ∙ append_assoc first is.0 more)

  behind_synced : (world : WorldOf) → IsBehind world → IsBehind (synced_world world)
  behind_synced world is = further world.sequencer.synced.log world.sequencer.unsynced is

  behind_crashed : (world : WorldOf) (kept : ℕ) → IsBehind world → IsBehind (crashed_world world kept)
  behind_crashed world kept is =
      let s = world.sequencer in
      subst (Begins first) (sym (left_over s kept))
      (further s.synced.log (take (max (length s.synced.log) kept - length s.synced.log) s.unsynced) is)

pub synced_stay : SyncedLogsStay
synced_stay old new events notes plays =
    let first = old.sequencer.synced.log in
    let behind =
    all_keep (IsBehind first) (behind_node first) (behind_from first) (behind_given first) (behind_appended first) (behind_synced first)
    (behind_crashed first) old events notes new plays ([], sym (append-nil first)) in
    (behind, further first new.sequencer.synced.log new.sequencer.unsynced behind)

-- ---- without appends and crashes

no_append : false ≡ true → ⊥
no_append e = true≢false (sym e)

rest_of : (happens : Event) (events : List Event) → All (λ one. IsTrue (leaves_all_synced one)) (happens ∷ events)
    → IsTrue (leaves_all_synced happens) × All (λ one. IsTrue (leaves_all_synced one)) events
rest_of happens events all = (all 0 happens (omega arith), λ k d within. all (suc k) d (omega (arith, within)))

folded : (log : List (Key × Call)) (events : List Event) → All (λ one. IsTrue (leaves_all_synced one)) events
    → fold log_after_event (all_synced log) events ≡ all_synced (log_after log (filter_map ask_in events))
folded log [] all = refl
folded log (event.Ask client request call ∷ events) all =
    folded (log_with log (record { client = client; request = request }, call)) events (rest_of (event.Ask client request call) events all).1
folded log (event.Append client request call ∷ events) all = absurd (no_append (rest_of (event.Append client request call) events all).0)
folded log (event.System (system.Crash kept) ∷ events) all = absurd (no_append (rest_of (event.System (system.Crash kept)) events all).0)
folded log (other ∷ events) all = folded log events (rest_of other events all).1

pub first_asks_alone : FirstAsks
first_asks_alone events all = ap (λ l. l.log) (folded [] events all) ∙ log_after-empty (filter_map ask_in events)

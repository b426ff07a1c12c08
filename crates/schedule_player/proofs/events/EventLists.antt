-- Events, one after another.
use Rattle.std.proofs.Common.{◌≡◌, Bool, true, false, ℕ, Option, Some, None, Result, Ok, Err, List, [], ◌∷◌, ◌++◌, length, map, refl, sym, ap, subst, ◌∙◌, append-nil, append_assoc}
use Rattle.std.specs.Prelude.{slice_get, ◌==◌, fold}
use Rattle.std.specs.List.{All}
use Rattle.std.proofs.lemmas.List.{length-set}
use Rattle.std.proofs.lemmas.List.Elements.{All-nil, All-cons}
use Rattle.sb_calls.specs.declared.ask.Key.{Key}
use Rattle.sb_calls.specs.declared.call.Call.{Call}
use Rattle.sb_calls.specs.declared.reply.Reply.{Reply}
use Rattle.sb_frames.specs.declared.frame.Frame.{Frame}
use Rattle.sb_frames.specs.declared.frame.Frame.TheVariants as frame
use Rattle.sb_sequencer.proofs.LogSteps.{log_with-answered}
use Rattle.sb_sequencer.specs.Answer.{AnswersAsk, LogAfter}
use Rattle.sb_sequencer.specs.Log.{log_with}
use Rattle.sb_sequencer.specs.Notes.{answer_slot}
use Rattle.sb_sequencer.specs.Sequencer.{SequencerOf}
use Rattle.sb_sequencer.specs.declared.answer.AskFault.{AskFault}
use Rattle.sb_sequencer.specs.declared.answer.AskFault.TheVariants.{Mismatch, LogFull, OutOfMemory}
use Rattle.sb_sequencer.specs.declared.answer.Numbered.{Numbered}
use Rattle.sb_sequencer.specs.declared.answer.Numbered.TheVariants.{New, Repeat}
use Rattle.schedule_sequencer.specs.DurableSequencer.{DurableSequencerOf, whole_log, after_append, after_sync, log_after_crash, after_crash}
use Rattle.schedule_player.specs.PossibleNotes.{may_occur}
use Rattle.schedule_player.specs.OneBased.{nth_item}
use Rattle.schedule_player.specs.EventLists.{PlaysEvents, SyncedLog, all_synced, log_after_event, log_after_events, bank_after, IsWorldAfter, AfterPlaying}
use Rattle.schedule_player.specs.ReplicaMoves.{NodeOf, receive_move, node_move}
use Rattle.schedule_player.specs.World.{WorldOf, AppendsAsk, Asks, Moves, world_log, bank_of, bank_with, world_move, replica_move, move_if, move_at, reply_move, report_move, from_move, give_move, opened_world}
use Rattle.schedule_text.specs.ScheduleText.{ScheduleOf}
use Rattle.schedule_text.specs.declared.event.Event.{Event}
use Rattle.schedule_text.specs.declared.event.Event.TheVariants as event
use Rattle.schedule_text.specs.declared.event.NodeEvent.{NodeEvent}
use Rattle.schedule_text.specs.declared.event.SystemEvent.TheVariants as system
use Rattle.schedule_text.specs.declared.note.Note.{Note}
use Rattle.schedule_text.specs.declared.note.Note.TheVariants as note
use Rattle.schedule_player.proofs.events.PossibleNotes.{comes_of}
use Rattle.schedule_player.proofs.events.MemoryRefusals.{give_by}
use Rattle.schedule_player.proofs.logs.LongerLogs.{IsBeginningOf}
use Rattle.schedule_player.proofs.logs.WorldLogs.{call_in, longer_bank}

-- ---- what stays, and how the log changes

-- the log of a world, and how much of it is synced
abbrev pub seen_log : WorldOf → SyncedLog
seen_log world = record { log = world_log world; synced = length world.sequencer.synced.log }

-- the bank's opening and the number of replicas stay, and this is the log
pub record Leaves (old new : WorldOf) (log : SyncedLog) : Type 0 where
  pub names : new.names ≡ old.names
  pub opening : new.opening ≡ old.opening
  pub log_is : seen_log new ≡ log
  pub count : length new.nodes ≡ length old.nodes

-- nothing changes
leaves_it : (world : WorldOf) → Leaves world world (seen_log world)
leaves_it world = record { names = refl; opening = refl; log_is = refl; count = refl }

leaves_if : (world : WorldOf) (r : ℕ) (move : NodeOf → NodeOf × Note) (found : Option NodeOf)
    → Leaves world (move_if world r move found).0 (seen_log world)
leaves_if world r move (Some node) = record { names = refl; opening = refl; log_is = refl; count = length-set world.nodes r (move node).0 }
leaves_if world r move None = leaves_it world

leaves_at : (world : WorldOf) (r : ℕ) (move : NodeOf → NodeOf × Note) → Leaves world (move_at world r move).0 (seen_log world)
leaves_at world r move = leaves_if world r move (slice_get world.nodes r)

leaves_kept : (world : WorldOf) (n : ℕ) (reply : Reply) (stored : Option (Option Reply)) → Leaves world (reply_move world n reply stored).0 (seen_log world)
leaves_kept world n reply (Some None) = record { names = refl; opening = refl; log_is = refl; count = refl }
leaves_kept world n reply (Some (Some first)) = leaves_it world
leaves_kept world n reply None = leaves_it world

leaves_told : (world : WorldOf) (r : ℕ) (sent : Option Frame) → Leaves world (report_move world r sent).0 (seen_log world)
leaves_told world r (Some (frame.Ack replica size)) = record { names = refl; opening = refl; log_is = refl; count = refl }
leaves_told world r (Some (frame.Have replica size)) = record { names = refl; opening = refl; log_is = refl; count = refl }
leaves_told world r (Some (frame.Answer n reply)) = leaves_kept world n reply (answer_slot world.sequencer.synced n)
leaves_told world r other = leaves_it world

leaves_heard : (world : WorldOf) (r place : ℕ) (found : Option NodeOf) → Leaves world (from_move world r place found).0 (seen_log world)
leaves_heard world r place (Some node) = leaves_told world r (nth_item node.outbound place)
leaves_heard world r place None = leaves_it world

leaves_moved : (world : WorldOf) (r : ℕ) (happens : NodeEvent) → Leaves world (replica_move world r happens).0 (seen_log world)
leaves_moved world r happens = leaves_at world r (λ node. node_move (bank_of world) world.sequencer.synced r node happens)

leaves_given_by : (world : WorldOf) (r size : ℕ) (nothing : Bool) → Leaves world (give_by world r size nothing).0 (seen_log world)
leaves_given_by world r size true = leaves_it world
leaves_given_by world r size false = leaves_at world r (λ node. receive_move node size)

leaves_given : (world : WorldOf) (r : ℕ) (found : Option NodeOf) → Leaves world (give_move world r found).0 (seen_log world)
leaves_given world r (Some donor) = leaves_given_by world r donor.stored (donor.stored == 0)
leaves_given world r None = leaves_it world

-- an append that is answered so changes the log to the one with it
leaves_answered : (old new : WorldOf) (ask : Key × Call) (answer : Result Numbered AskFault) (s : DurableSequencerOf) → new ≡ record old { sequencer = s }
    → s.synced ≡ old.sequencer.synced → LogAfter (world_log old) ask answer (whole_log s) → AnswersAsk (world_log old) ask answer
    → (answer ≡ Err OutOfMemory → ⊥) → Leaves old new (record (seen_log old) { log = log_with (world_log old) ask })
leaves_answered old new ask answer s new_is synced after answers taken = record {
  names = ap (λ w. w.names) new_is;
  opening = ap (λ w. w.opening) new_is;
  count = ap (λ w. length w.nodes) new_is;
  log_is =
      ap seen_log new_is
      ∙ (λ j. record {
        log = log_with-answered (world_log old) (whole_log s) ask answer answers after taken j;
        synced = length (synced j).log;
      });
}

leaves_appended : (old : WorldOf) (ask : Key × Call) (n : Note) (new : WorldOf) → AppendsAsk old ask n new
    → Leaves old new (record (seen_log old) { log = log_with (world_log old) ask })
leaves_appended old ask (note.New n) new appends =
    leaves_answered old new ask (Ok (New n)) (after_append old.sequencer ask (Ok (New n))) appends.1 refl
    (sym (append_assoc old.sequencer.synced.log old.sequencer.unsynced (ask ∷ []))) appends.0 (λ e. cc)
leaves_appended old ask (note.Repeat n) new appends =
    leaves_answered old new ask (Ok (Repeat n)) old.sequencer appends.1 refl refl appends.0 (λ e. cc)
leaves_appended old ask (note.Mismatch n) new appends =
    leaves_answered old new ask (Err (Mismatch n)) old.sequencer appends.1 refl refl appends.0 (λ e. cc)
leaves_appended old ask note.LogFull new appends =
    leaves_answered old new ask (Err LogFull) old.sequencer appends.1 refl refl appends.0 (λ e. cc)
leaves_appended old ask other new appends = absurd appends

-- all of this log is synced
leaves_whole : (world : WorldOf) (synced : SequencerOf)
    → Leaves world (record world { sequencer = record { synced = synced; unsynced = [] } }) (all_synced synced.log)
leaves_whole world synced = record {
  names = refl;
  opening = refl;
  count = refl;
  log_is = λ j. record { log = append-nil synced.log j; synced = length synced.log };
}

leaves_then : (old mid new : WorldOf) (log : SyncedLog) → new.names ≡ mid.names → new.opening ≡ mid.opening → length new.nodes ≡ length mid.nodes
    → seen_log new ≡ log → (front : SyncedLog) → Leaves old mid front → Leaves old new log
leaves_then old mid new log names opening count log_is front first = record {
  names = names ∙ first.names;
  opening = opening ∙ first.opening;
  count = count ∙ first.count;
  log_is = log_is;
}

leaves_asked : (old : WorldOf) (ask : Key × Call) (n : Note) (new : WorldOf) → Asks old ask n new
    → Leaves old new (all_synced (log_with (world_log old) ask))
leaves_asked old ask n new asks =
    let appended = leaves_appended old ask n asks.0 asks.1 in
    let synced = leaves_whole asks.0 (after_sync asks.0.sequencer).synced in
    leaves_then old asks.0 new (all_synced (log_with (world_log old) ask)) (ap (λ w. w.names) asks.2) (ap (λ w. w.opening) asks.2)
    (ap (λ w. length w.nodes) asks.2) (ap seen_log asks.2 ∙ synced.log_is ∙ ap (λ l. all_synced l.log) appended.log_is)
    (record (seen_log old) { log = log_with (world_log old) ask }) appended

-- what the machine does by its move
moved_so : (old new : WorldOf) (moved : WorldOf × Note) (n : Note) (log : SyncedLog) → moved ≡ (new, n) → Leaves old moved.0 log → Leaves old new log
moved_so old new moved n log e leaves = subst (λ m. Leaves old m.0 log) e leaves

leaves_one : (old : WorldOf) (happens : Event) (n : Note) (new : WorldOf) → Moves old happens n new
    → Leaves old new (log_after_event (seen_log old) happens)
leaves_one old (event.Ask client request call) n new moves = leaves_asked old (record { client = client; request = request }, call) n new moves
leaves_one old (event.Append client request call) n new moves =
    leaves_appended old (record { client = client; request = request }, call) n new moves
leaves_one old (event.At r happens) n new moves = moved_so old new (replica_move old r happens) n (seen_log old) moves (leaves_moved old r happens)
leaves_one old (event.System system.Sync) n new moves =
    moved_so old new (world_move old (event.System system.Sync)) n (all_synced (world_log old)) moves (leaves_whole old (after_sync old.sequencer).synced)
leaves_one old (event.System (system.Crash kept)) n new moves =
    moved_so old new (world_move old (event.System (system.Crash kept))) n (all_synced (log_after_crash old.sequencer kept)) moves
    (leaves_whole old (after_crash old.sequencer kept).synced)
leaves_one old (event.System (system.Donor r)) n new moves = subst (λ w. Leaves old w (seen_log old)) (sym moves.1) (leaves_it old)
leaves_one old (event.System (system.From r place)) n new moves =
    moved_so old new (from_move old r place (slice_get old.nodes r)) n (seen_log old) moves (leaves_heard old r place (slice_get old.nodes r))
leaves_one old (event.System (system.Give a r)) n new moves =
    moved_so old new (give_move old r (slice_get old.nodes a)) n (seen_log old) moves (leaves_given old r (slice_get old.nodes a))
leaves_one old other n new moves = moved_so old new (world_move old other) n (seen_log old) moves (leaves_it old)

-- ---- many events

pub leaves_all : (old : WorldOf) (events : List Event) (notes : List Note) (new : WorldOf) → PlaysEvents old events notes new
    → Leaves old new (fold log_after_event (seen_log old) events)
leaves_all old [] [] new plays = subst (λ w. Leaves old w (seen_log old)) (sym plays) (leaves_it old)
leaves_all old [] (n ∷ notes) new plays = absurd plays
leaves_all old (happens ∷ events) [] new plays = absurd plays
leaves_all old (happens ∷ events) (n ∷ notes) new plays =
    let one = leaves_one old happens n plays.0 plays.1 in
    let rest = leaves_all plays.0 events notes new plays.2 in
    leaves_then old plays.0 new (fold log_after_event (log_after_event (seen_log old) happens) events) rest.names rest.opening rest.count
    (rest.log_is ∙ ap (λ l. fold log_after_event l events) one.log_is) (log_after_event (seen_log old) happens) one

-- whatever happened since an opening, the log is the one that the events make
pub played_log : (schedule : ScheduleOf) (world : WorldOf) → IsWorldAfter schedule world → seen_log world ≡ log_after_events schedule.events
played_log schedule world played = (leaves_all (opened_world schedule) schedule.events played.notes world played.plays).log_is

-- and the bank is a beginning of theirs
pub played_bank : (schedule : ScheduleOf) (world : WorldOf) → IsWorldAfter schedule world → IsBeginningOf (bank_of world) (bank_after schedule)
played_bank schedule world played =
    let all = leaves_all (opened_world schedule) schedule.events played.notes world played.plays in
    let log = played_log schedule world played in
    record {
      more = map call_in world.sequencer.unsynced;
      is =
          sym (longer_bank world.names world.opening world.sequencer.synced.log world.sequencer.unsynced)
          ∙ (λ j. bank_with (all.names j) (all.opening j) (log j).log);
    }

-- ---- one event more

pub plays_more : (old : WorldOf) (events : List Event) (notes : List Note) (middle : WorldOf) (happens : Event) (n : Note) (new : WorldOf)
    → PlaysEvents old events notes middle → Moves middle happens n new → PlaysEvents old (events ++ happens ∷ []) (notes ++ n ∷ []) new
plays_more old [] [] middle happens n new plays moves = (new, subst (λ w. Moves w happens n new) plays moves, refl)
plays_more old [] (m ∷ notes) middle happens n new plays moves = absurd plays
plays_more old (first ∷ events) [] middle happens n new plays moves = absurd plays
plays_more old (first ∷ events) (m ∷ notes) middle happens n new plays moves =
    (plays.0, plays.1, plays_more plays.0 events notes middle happens n new plays.2 moves)

-- events, and then more events
pub plays_on : (old : WorldOf) (events : List Event) (notes : List Note) (middle : WorldOf) (more : List Event) (later : List Note) (new : WorldOf)
    → PlaysEvents old events notes middle → PlaysEvents middle more later new → PlaysEvents old (events ++ more) (notes ++ later) new
plays_on old [] [] middle more later new plays goes = subst (λ w. PlaysEvents w more later new) plays goes
plays_on old [] (m ∷ notes) middle more later new plays goes = absurd plays
plays_on old (first ∷ events) [] middle more later new plays goes = absurd plays
plays_on old (first ∷ events) (m ∷ notes) middle more later new plays goes =
    (plays.0, plays.1, plays_on plays.0 events notes middle more later new plays.2 goes)

-- each of their notes is possible
notes_come : (old : WorldOf) (events : List Event) (notes : List Note) (new : WorldOf) → PlaysEvents old events notes new
    → All (λ n. may_occur n ≡ true) notes
notes_come old [] [] new plays = All-nil (λ n. may_occur n ≡ true)
notes_come old [] (n ∷ notes) new plays = absurd plays
notes_come old (happens ∷ events) [] new plays = absurd plays
notes_come old (happens ∷ events) (n ∷ notes) new plays =
    All-cons (λ m. may_occur m ≡ true) n notes (comes_of old happens n plays.0 plays.1) (notes_come plays.0 events notes new plays.2)

pub holds_after_playing : AfterPlaying
holds_after_playing old new events notes plays = record {
  schedule = λ before played. record {
    notes = played.notes ++ notes;
    plays = plays_on (opened_world before) before.events played.notes old events notes new played.plays plays;
  };
  possible = notes_come old events notes new plays;
  replicas = (leaves_all old events notes new plays).count;
}

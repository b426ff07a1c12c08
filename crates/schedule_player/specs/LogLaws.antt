-- The sequencer's log as time goes on.
use Rattle.std.specs.Prelude.{◌≡◌, ℕ, max, Bool, true, false, IsTrue, Option, Some, None, List, take}
use Rattle.std.specs.List.{All, filter_map}
use Rattle.sb_calls.specs.declared.ask.Key.{Key}
use Rattle.sb_calls.specs.declared.call.Call.{Call}
use Rattle.sb_calls.specs.declared.reply.Reply.{Reply}
use Rattle.sb_sequencer.specs.Numbering.{first_asks}
use Rattle.sb_log.specs.Lives.{HappensAll, Life, newborn}
use Rattle.sb_log.specs.Lives.{Event as FileEvent}
use Rattle.sb_log.specs.Reading.{Begins}
use Rattle.sb_ask_log.specs.LogFile.{AreBodiesOf}
use Rattle.sb_ask_log.specs.Recovery.{ReadsAskLog}
use Rattle.schedule_player.specs.Bank.{log_reply}
use Rattle.schedule_player.specs.EventLists.{PlaysEvents, log_of_events}
use Rattle.schedule_player.specs.World.{WorldOf, bank_of, bank_with, crashed_world, world_log}
use Rattle.schedule_text.specs.declared.event.Event.{Event}
use Rattle.schedule_text.specs.declared.event.Event.TheVariants as event
use Rattle.schedule_text.specs.declared.event.SystemEvent.TheVariants as system
use Rattle.schedule_text.specs.declared.note.Note.{Note}

-- of two moments, the later log begins with what was synced at the earlier one, and so does what is
-- synced then
abbrev pub SyncedLogsStay : Type 0
SyncedLogsStay = (old new : WorldOf) (events : List Event) (notes : List Note) → PlaysEvents old events notes new
    → Begins old.sequencer.synced.log new.sequencer.synced.log × Begins old.sequencer.synced.log (world_log new)

-- whether it is neither an append nor a crash
abbrev pub leaves_all_synced : Event → Bool
leaves_all_synced (event.Append client request call) = false
leaves_all_synced (event.System (system.Crash kept)) = false
leaves_all_synced other = true

-- the request in an event, if it is an ask
abbrev pub ask_in : Event → Option (Key × Call)
ask_in (event.Ask client request call) = Some (record { client = client; request = request }, call)
ask_in other = None

-- without appends and crashes, the log is the first ask of each key, in order
abbrev pub FirstAsks : Type 0
FirstAsks = (events : List Event) → All (λ happens. IsTrue (leaves_all_synced happens)) events
    → log_of_events events ≡ first_asks (filter_map ask_in events)

-- what is read of a file: a log of the same opening, which is the machine's after some crash, and
-- gives each reply that the bank gave before
pub record IsReadAfterCrash (world : WorldOf) (text read_text : List ℕ) (read : List (Key × Call)) : Type 0 where
  pub same_opening : read_text ≡ text
  pub kept : ℕ
  pub read_is : (crashed_world world kept).sequencer.synced.log ≡ read
  pub begins : Begins world.sequencer.synced.log read
  pub replies : (number : ℕ) (reply : Reply) → log_reply (bank_of world) number ≡ Some reply
      → log_reply (bank_with world.names world.opening read) number ≡ Some reply

-- a file that was given a world's log, and told its synced log: whatever a stop leaves of it, what is
-- read of it is the world's log after some crash
abbrev pub RestartsAfterCrash : Type 0
RestartsAfterCrash = (world : WorldOf) (l : Life) (events : List FileEvent) (text : List ℕ)
    → HappensAll newborn events l
    → AreBodiesOf l.told text world.sequencer.synced.log → AreBodiesOf l.given text (world_log world)
    → (kept : ℕ) (read_text : List ℕ) (read : List (Key × Call)) (rest : List ℕ)
    → ReadsAskLog (take (max l.synced kept) l.content) read_text read rest
    → IsReadAfterCrash world text read_text read

-- Events, one after another.
use Rattle.std.specs.Prelude.{◌≡◌, ℕ, max, IsTrue, List, [], ◌∷◌, ◌++◌, fold, length, take}
use Rattle.std.specs.List.{All}
use Rattle.sb_rows.specs.Balances.{Balances}
use Rattle.sb_calls.specs.declared.ask.Key.{Key}
use Rattle.sb_calls.specs.declared.call.Call.{Call}
use Rattle.sb_sequencer.specs.Log.{log_with}
use Rattle.schedule_player.specs.Bank.{BankOf}
use Rattle.schedule_player.specs.PossibleNotes.{may_occur}
use Rattle.schedule_player.specs.World.{WorldOf, Moves, bank_with, opened_world}
use Rattle.schedule_text.specs.ScheduleText.{ScheduleOf}
use Rattle.schedule_text.specs.declared.event.Event.{Event}
use Rattle.schedule_text.specs.declared.event.Event.TheVariants as event
use Rattle.schedule_text.specs.declared.event.SystemEvent.TheVariants as system
use Rattle.schedule_text.specs.declared.note.Note.{Note}

-- the machine goes from the old world to the new one by these events, with these notes
abbrev pub PlaysEvents : WorldOf → List Event → List Note → WorldOf → Type 0
PlaysEvents old [] [] new = new ≡ old
PlaysEvents old [] (note ∷ notes) new = ⊥
PlaysEvents old (event ∷ events) [] new = ⊥
PlaysEvents old (event ∷ events) (note ∷ notes) new =
    (next : WorldOf) × Moves old event note next × PlaysEvents next events notes new

-- ---- the log that events make

-- a log, and how many of its calls are synced
pub record SyncedLog : Type 0 where
  pub log : List (Key × Call)
  pub synced : ℕ

-- all of a log is synced
abbrev pub all_synced : List (Key × Call) → SyncedLog
all_synced log = record { log = log; synced = length log }

-- what an event does to the log: an append adds a new ask, a sync makes all of it stay, an ask does
-- both, and a crash takes away what isn't synced, but for the calls up to a number
abbrev pub log_after_event : SyncedLog → Event → SyncedLog
log_after_event l (event.Append client request call) =
    record l { log = log_with l.log (record { client = client; request = request }, call) }
log_after_event l (event.System system.Sync) = all_synced l.log
log_after_event l (event.Ask client request call) =
    all_synced (log_with l.log (record { client = client; request = request }, call))
log_after_event l (event.System (system.Crash kept)) = all_synced (take (max l.synced kept) l.log)
log_after_event l other = l

-- the log after these events, from an empty one
abbrev pub log_after_events : List Event → SyncedLog
log_after_events events = fold log_after_event (all_synced []) events

-- the log that the sequencer has at the end
abbrev pub log_of_events : List Event → List (Key × Call)
log_of_events events = (log_after_events events).log

-- the bank with the calls of the log at the end of a schedule
abbrev pub bank_after : ScheduleOf → BankOf
bank_after schedule = bank_with schedule.names schedule.balances (log_of_events schedule.events)

-- a world after exactly a schedule's events, from its opening
pub record IsWorldAfter (schedule : ScheduleOf) (world : WorldOf) : Type 0 where
  pub notes : List Note
  pub plays : PlaysEvents (opened_world schedule) schedule.events notes world

-- a schedule without events
abbrev pub no_events : List (List ℕ) → Balances → ℕ → ℕ → ScheduleOf
no_events names balances nodes workers =
    record { nodes = nodes; workers = workers; names = names; balances = balances; events = [] }

-- a schedule with more events after its own
abbrev pub with_events : ScheduleOf → List Event → ScheduleOf
with_events schedule more = record schedule { events = schedule.events ++ more }

-- ---- what follows from every list of events

-- what holds after events that led from the old world to the new one, with these notes
pub record HoldsAfterPlaying (old : WorldOf) (events : List Event) (notes : List Note) (new : WorldOf) : Type 0 where
  -- if the old world is the one after a schedule, the new one is that after it and these events
  pub schedule : (before : ScheduleOf) → IsWorldAfter before old → IsWorldAfter (with_events before events) new
  -- no note is odd, unknown, different or off the books
  pub possible : All (λ note. IsTrue (may_occur note)) notes
  -- there are as many replicas as before
  pub replicas : length new.nodes ≡ length old.nodes

-- whichever events the machine plays, from whatever world
abbrev pub AfterPlaying : Type 0
AfterPlaying = (old new : WorldOf) (events : List Event) (notes : List Note) → PlaysEvents old events notes new
    → HoldsAfterPlaying old events notes new

-- The replication theorem, as one law over every list of events.
use Rattle.std.specs.Prelude.{◌≡◌, ℕ, ◌≤◌, Some, length, slice_get}
use Rattle.sb_calls.specs.declared.reply.Reply.{Reply}
use Rattle.schedule_player.specs.Bank.{log_reply}
use Rattle.schedule_player.specs.OneBased.{nth_item}
use Rattle.schedule_player.specs.Observers.{length_at, reply_at_replica}
use Rattle.schedule_player.specs.EventLists.{IsWorldAfter, bank_after, log_after_events, log_of_events}
use Rattle.schedule_player.specs.ReplicaMoves.{NodeOf}
use Rattle.schedule_player.specs.Stage.{IsDone}
use Rattle.schedule_player.specs.World.{WorldOf, world_log}
use Rattle.schedule_text.specs.ScheduleText.{ScheduleOf}

-- what holds in a world after exactly the events of a schedule
pub record ReplicasAgree (schedule : ScheduleOf) (world : WorldOf) : Type 0 where
  -- the log is the one that the events make, and as many of its calls are synced
  pub log : world_log world ≡ log_of_events schedule.events
  pub synced : length world.sequencer.synced.log ≡ (log_after_events schedule.events).synced
  -- any two replicas that hold a reply to a number hold the same one
  pub agree : (a b number : ℕ) (one other : Reply)
      → reply_at_replica world a number ≡ Some one → reply_at_replica world b number ≡ Some other → one ≡ other
  -- it is the reply that running the log one by one gives
  pub by_log : (r number : ℕ) (reply : Reply) → reply_at_replica world r number ≡ Some reply
      → log_reply (bank_after schedule) number ≡ Some reply
  -- a replica holds a reply to each number that is done at it
  pub replied : (r number : ℕ) (node : NodeOf) → slice_get world.nodes r ≡ Some node
      → nth_item node.stages number ≡ Some IsDone → (reply : Reply) × (reply_at_replica world r number ≡ Some reply)
  -- it has at most as many entries as are synced
  pub within : (r size : ℕ) → length_at world r ≡ Some size → size ≤ (log_after_events schedule.events).synced

-- after every schedule, that is an opening, numbers of replicas and of workers, and events, the
-- replicas agree
abbrev pub Replication : Type 0
Replication = (schedule : ScheduleOf) (world : WorldOf) → IsWorldAfter schedule world → ReplicasAgree schedule world

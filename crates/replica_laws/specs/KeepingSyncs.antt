-- Keeping the log of a server, as a sync of the reference machine.
use Rattle.std.specs.Prelude.{◌≡◌, ℕ, max, false, List, length, take}
use Rattle.sb_calls.specs.declared.ask.Key.{Key}
use Rattle.sb_calls.specs.declared.call.Call.{Call}
use Rattle.sb_log.specs.LogFiles.{LogFileOf}
use Rattle.sb_ask_log.specs.Recovery.{ReadsAskLog}
use Rattle.sb_ask_log.specs.Telling.{AskLogOf, KeepsAsks}
use Rattle.schedule_player.specs.LogLaws.{IsReadAfterCrash}
use Rattle.schedule_player.specs.World.{Moves, WorldOf, synced_world, world_log}
use Rattle.schedule_text.specs.declared.event.Event.TheVariants as event
use Rattle.schedule_text.specs.declared.event.SystemEvent.TheVariants as system
use Rattle.schedule_text.specs.declared.note.Note.TheVariants as note

-- a keeper keeps the machine's log, in an honest file of which no call failed. So the machine can sync: all
-- of its log is synced then; and whatever a stop leaves of the file, what a start reads of it is the log
-- of the machine after some crash
abbrev pub KeepingSyncs : {F : Type 0} → (F → Type 0) → (F → LogFileOf) → Type 0
KeepingSyncs {F} IsHonest model = (keeper : AskLogOf F) (world : WorldOf)
    → KeepsAsks IsHonest model keeper (world_log world) → IsHonest keeper.log.file
    → keeper.log.failed ≡ false
    → Moves world (event.System system.Sync) (note.Synced (length (world_log world))) (synced_world world)
    × ((synced_world world).sequencer.synced.log ≡ world_log world)
    × ((kept : ℕ) (read_text : List ℕ) (read : List (Key × Call)) (rest : List ℕ)
    → ReadsAskLog (take (max (model keeper.log.file).synced kept) (model keeper.log.file).content) read_text read rest
    → IsReadAfterCrash (synced_world world) keeper.text read_text read)

-- What playing the text of a schedule writes.
use Rattle.std.specs.Prelude.{◌≡◌, ℕ, suc, ◌==◌, if◌then◌else◌, Option, Result, Ok, Err, List, [], ◌∷◌, ◌++◌, map, decimal, codes}
use Rattle.std.specs.Io.KnownBytes.{Appends}
use Rattle.sb_rows.specs.Text.{unlines}
use Rattle.sb_text.specs.Listing.{row_lines}
use Rattle.schedule_player.specs.Bank.{log_rows}
use Rattle.schedule_player.specs.EventLists.{PlaysEvents}
use Rattle.schedule_player.specs.ReplicaMoves.{NodeOf, length_in, undone_in}
use Rattle.schedule_player.specs.World.{WorldOf, bank_of, opened_world}
use Rattle.schedule_text.specs.NoteText.{note_line}
use Rattle.schedule_text.specs.ScheduleText.{ScheduleOf}
use Rattle.schedule_text.specs.declared.fault.ScheduleLineFault.{ScheduleLineFault}
use Rattle.schedule_text.specs.declared.note.Note.{Note}

-- ---- the state of a replica at the end

-- `replica R length M`, and the words after it
abbrev pub state_line : ℕ → NodeOf → List ℕ → List ℕ
state_line r node how = codes "replica " ++ (decimal r ++ (codes " length " ++ (decimal (length_in node) ++ how)))

-- the lines of one replica: its state and, if nothing is unfinished, its rows and the total
abbrev pub state_lines : WorldOf → ℕ → NodeOf → List (List ℕ)
state_lines world r node =
    if undone_in node == 0
    then state_line r node (codes " idle") ∷ row_lines world.names (log_rows (bank_of world) (length_in node))
    else state_line r node (codes " busy") ∷ []

-- the lines of these replicas in order; the first has this number
abbrev pub states_from : WorldOf → ℕ → List NodeOf → List (List ℕ)
states_from world r [] = []
states_from world r (node ∷ nodes) = state_lines world r node ++ states_from world (suc r) nodes

-- ---- the whole

-- one line for each note, and then the state of each replica
abbrev pub played_lines : List Note → WorldOf → List (List ℕ)
played_lines notes world = map note_line notes ++ states_from world 0 world.nodes

-- the output of playing a schedule's events from its opening
pub record IsOutput (schedule : ScheduleOf) (output : List ℕ) : Type 0 where
  pub notes : List Note
  pub world : WorldOf
  pub plays : PlaysEvents (opened_world schedule) schedule.events notes world
  pub written : output ≡ unlines (played_lines notes world)

-- a text at fault has no output
abbrev pub HasOutput : Result ScheduleOf (ℕ × ScheduleLineFault) → List ℕ → Type 0
HasOutput (Ok schedule) output = IsOutput schedule output
HasOutput (Err fault) output = ⊥

-- the output was written
abbrev pub WritesOutput : Result ScheduleOf (ℕ × ScheduleLineFault) → Option (List ℕ) → Option (List ℕ) → Type 0
WritesOutput read old new = (output : List ℕ) × HasOutput read output × Appends old new output

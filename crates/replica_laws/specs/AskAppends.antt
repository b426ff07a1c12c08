-- An ask of a server, as an append of the reference machine.
use Rattle.std.specs.Prelude.{◌≡◌, List, [], ◌∷◌, ◌++◌}
use Rattle.sb_calls.specs.declared.ask.Key.{Key}
use Rattle.sb_calls.specs.declared.call.Call.{Call}
use Rattle.sb_sequencer.specs.Numbering.{first_asks}
use Rattle.schedule_player.specs.World.{WorldOf, AppendsAsk, world_log}
use Rattle.schedule_text.specs.declared.note.Note.{Note}

-- if the machine's log is the first asks of these, it can append one more ask, and its log is then
-- the first asks with that one
abbrev pub AsksAppend : Type 0
AsksAppend = (world : WorldOf) (asks : List (Key × Call)) (ask : Key × Call)
    → world_log world ≡ first_asks asks
    → (note : Note) × (after : WorldOf) × AppendsAsk world ask note after
    × (world_log after ≡ first_asks (asks ++ ask ∷ []))

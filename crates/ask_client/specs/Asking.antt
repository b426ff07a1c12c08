-- A client's run: what it prints of its input.
use Rattle.std.specs.Prelude.{◌≡◌, ◌≢◌, ℕ, ◌+◌, ◌≤◌, ◌<◌, ◌^◌, Option, Result, Ok, Err, List, [], ◌∷◌, ◌++◌, length, map}
use Rattle.std.specs.Io.KnownBytes.{Appends}
use Rattle.sb_rows.specs.Text.{lines, unlines}
use Rattle.sb_calls.specs.Call.{call_of}
use Rattle.sb_calls.specs.declared.call.Call.{Call}
use Rattle.sb_frames.specs.declared.frame.AskOutcome.{AskOutcome}
use Rattle.ask_client.specs.Connections.{DialerStreams, BringsAll, IsLastAtEnd}
use Rattle.ask_client.specs.OutcomeLines.{outcome_lines}
use Rattle.ask_client.specs.Writes.{WritesFront}
use Rattle.ask_client.specs.declared.server_stream.ServerStream.{ServerStream}
use Rattle.ask_client.specs.declared.ask_fault.AskFault.{AskFault}
use Rattle.ask_client.specs.declared.ask_fault.AskFault.TheVariants.{Line, NoNumber, Unexpected, Connection, End, Input, Output, OutOfMemory}

-- how a client's run ended
abbrev pub AskEnd : Type 0
AskEnd = Result (Unit {0}) AskFault

-- each of these lines spells a call, and these are the calls
abbrev pub SpellCalls : List (List ℕ) → List Call → Type 0
SpellCalls lines calls = map call_of lines ≡ map Ok calls

-- what the end of a run says of the lines behind those whose calls were taken, by how many calls were taken and
-- how many were told; the first request has this number
abbrev pub EndsRun : AskEnd → ℕ → ℕ → ℕ → List (List ℕ) → Type 0
-- all lines were taken, and all calls told
EndsRun (Ok done) first calls told behind = (behind ≡ []) × (told ≡ calls)
-- the next line is at fault, and all calls before it were told
EndsRun (Err (Line number fault)) first calls told behind = (line : List ℕ) × (more : List (List ℕ))
    × (behind ≡ line ∷ more) × (call_of line ≡ Err fault) × (number ≡ calls + 1) × (told ≡ calls)
-- the next line is a call for which no request number is left, and all calls before it were told
EndsRun (Err (NoNumber number)) first calls told behind = (line : List ℕ) × (more : List (List ℕ)) × (call : Call)
    × (behind ≡ line ∷ more) × (call_of line ≡ Ok call) × (first + calls ≡ 2 ^ 32) × (number ≡ calls + 1)
    × (told ≡ calls)
-- not all calls were told
EndsRun (Err Connection) first calls told behind = told < calls
-- all were, but the server didn't end its side
EndsRun (Err End) first calls told behind = (behind ≡ []) × (told ≡ calls)
EndsRun (Err Unexpected) first calls told behind = Unit {0}
EndsRun (Err Input) first calls told behind = Unit {0}
EndsRun (Err Output) first calls told behind = Unit {0}
EndsRun (Err OutOfMemory) first calls told behind = Unit {0}

-- the bytes were printed; if a write failed, a first part of them
abbrev pub PrintsUntil : AskEnd → List ℕ → Option (List ℕ) → Option (List ℕ) → Type 0
PrintsUntil (Err Output) bytes old new = WritesFront (Err Output) bytes old new
PrintsUntil result bytes old new = Appends old new bytes

module _ {R W : Type 0} (remaining : R → Option (List ℕ)) where
  -- after a run that ended well with outcomes, the server ended the last connection
  abbrev pub LeavesAll : AskEnd → List AskOutcome → List (ServerStream R W) → Type 0
  LeavesAll (Ok done) told left = told ≢ [] → IsLastAtEnd remaining left
  LeavesAll (Err fault) told left = Unit {0}

  -- the first lines of a text are calls, and the outcomes of the first of these calls came over a dialer's
  -- connections: those of the requests of a client from this number on. Just their lines were printed
  pub record AsksLines (client first : ℕ) (text : List ℕ) (result : AskEnd) (streams then : Option (DialerStreams R W))
      (old new : Option (List ℕ)) : Type 0 where
    pub before : List (List ℕ)
    pub behind : List (List ℕ)
    pub calls : List Call
    pub told : List AskOutcome
    pub lines_are : lines text ≡ before ++ behind
    pub spelled : SpellCalls before calls
    pub within : length told ≤ length calls
    pub brought : BringsAll remaining client (LeavesAll result told) streams then first told
    pub printed : PrintsUntil result (unlines (outcome_lines first told)) old new
    pub end : EndsRun result first (length calls) (length told) behind

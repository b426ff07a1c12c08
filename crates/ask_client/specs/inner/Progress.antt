-- How far a client's run has come.
use Rattle.std.specs.Prelude.{◌≡◌, ◌≢◌, ℕ, ◌+◌, ◌-◌, ◌≤◌, ◌^◌, Option, Some, None, Result, Ok, Err, List, [], ◌++◌, length, MatchResult}
use Rattle.sb_rows.specs.Text.{lines, unlines}
use Rattle.sb_calls.specs.Call.{call_of}
use Rattle.sb_calls.specs.declared.call.Call.{Call}
use Rattle.sb_frames.specs.declared.frame.AskOutcome.{AskOutcome}
use Rattle.ask_client.specs.Asking.{AskEnd, EndsRun, PrintsUntil, SpellCalls}
use Rattle.ask_client.specs.Batches.{BatchOf, after_outcomes}
use Rattle.ask_client.specs.Connections.{DialerStreams, DialsNext, Brings, BringsAll}
use Rattle.ask_client.specs.OutcomeLines.{outcome_lines}
use Rattle.ask_client.specs.declared.ask_fault.AskFault.{AskFault}
use Rattle.ask_client.specs.declared.ask_fault.AskFault.TheVariants.{Line, NoNumber, Unexpected, Connection, End, Input, Output, OutOfMemory}
use Rattle.ask_client.specs.declared.server_stream.ServerStream.{ServerStream}

-- a run's beginning: the client, its first request number, the dialer's connections, what was printed
pub record AskStart (R W : Type 0) : Type 0 where
  pub client : ℕ
  pub first : ℕ
  pub streams : Option (DialerStreams R W)
  pub text : Option (List ℕ)

abbrev pub ask_start : {R W : Type 0} → ℕ → ℕ → Option (DialerStreams R W) → Option (List ℕ) → AskStart R W
ask_start client first streams text = record { client = client; first = first; streams = streams; text = text }

-- a moment of a run: the dialer's connections, the one that is open, the calls without outcomes, what was printed
pub record AskState (R W : Type 0) : Type 0 where
  pub streams : Option (DialerStreams R W)
  pub open_stream : Option (ServerStream R W)
  pub batch : BatchOf
  pub text : Option (List ℕ)

abbrev pub ask_state : {R W : Type 0} → Option (DialerStreams R W) → Option (ServerStream R W) → BatchOf
    → Option (List ℕ) → AskState R W
ask_state streams stream batch text = record { streams = streams; open_stream = stream; batch = batch; text = text }

-- why a batch isn't told, and what is left of it
abbrev pub IsBatchFault : BatchOf → AskFault → Type 0
IsBatchFault left (Line number fault) = ⊥
IsBatchFault left (NoNumber number) = ⊥
IsBatchFault left Unexpected = Unit {0}
IsBatchFault left Connection = left.calls ≢ []
IsBatchFault left End = ⊥
IsBatchFault left Input = ⊥
IsBatchFault left Output = Unit {0}
IsBatchFault left OutOfMemory = Unit {0}

-- why the server isn't heard to end
abbrev pub IsHangUpFault : AskFault → Type 0
IsHangUpFault (Line number fault) = ⊥
IsHangUpFault (NoNumber number) = ⊥
IsHangUpFault Unexpected = Unit {0}
IsHangUpFault Connection = ⊥
IsHangUpFault End = Unit {0}
IsHangUpFault Input = ⊥
IsHangUpFault Output = ⊥
IsHangUpFault OutOfMemory = ⊥

-- why a line isn't put into a batch; the run's first request has this number
abbrev pub IsLineFault : ℕ → BatchOf → List ℕ → AskFault → Type 0
IsLineFault first batch line (Line number fault) =
    (call_of line ≡ Err fault) × (number ≡ batch.first + length batch.calls - first + 1)
IsLineFault first batch line (NoNumber number) = (call : Call) × (call_of line ≡ Ok call)
    × (batch.first + length batch.calls ≡ 2 ^ 32) × (number ≡ batch.first + length batch.calls - first + 1)
IsLineFault first batch line Unexpected = ⊥
IsLineFault first batch line Connection = ⊥
IsLineFault first batch line End = ⊥
IsLineFault first batch line Input = ⊥
IsLineFault first batch line Output = ⊥
IsLineFault first batch line OutOfMemory = Unit {0}

module _ {R W : Type 0} (remaining : R → Option (List ℕ)) where
  -- a dialer's connections, one of which may be open, brought these outcomes
  abbrev pub BringsSoFar : ℕ → Option (DialerStreams R W) → Option (DialerStreams R W) → Option (ServerStream R W)
      → ℕ → List AskOutcome → Type 0
  BringsSoFar client start now None first told = BringsAll remaining client (λ left. Unit {0}) start now first told
  BringsSoFar client start now (Some stream) first told = (earlier later : List AskOutcome)
      × (made : ServerStream R W) × (mid : Option (DialerStreams R W)) × (told ≡ earlier ++ later)
      × BringsAll remaining client (λ left. Unit {0}) start mid first earlier × DialsNext made mid now
      × Brings remaining client (first + length earlier) later [] made stream

  -- over this connection some more calls of the batch were told, whose lines these are
  abbrev pub TellsOver : Option (DialerStreams R W) → ServerStream R W → BatchOf → Option (DialerStreams R W)
      → Option (ServerStream R W) → BatchOf → List ℕ → Type 0
  TellsOver old stream batch new open_stream left text = (more : List AskOutcome)
      × (text ≡ unlines (outcome_lines batch.first more))
      × (length more ≤ length batch.calls) × (left ≡ after_outcomes (length more) batch)
      × ((start : Option (DialerStreams R W)) (first : ℕ) (told : List AskOutcome) → batch.first ≡ first + length told
      → BringsSoFar batch.client start old (Some stream) first told
      → BringsSoFar batch.client start new open_stream first (told ++ more))

  -- since a run's beginning these outcomes came and were printed, up to this end
  pub record HasTold (start : AskStart R W) (result : AskEnd) (told : List AskOutcome) (state : AskState R W)
      : Type 0 where
    pub client_is : state.batch.client ≡ start.client
    pub next : state.batch.first ≡ start.first + length told
    pub brought : BringsSoFar start.client start.streams state.streams state.open_stream start.first told
    pub printed : PrintsUntil result (unlines (outcome_lines start.first told)) start.text state.text

  -- whatever was told before, some more calls of the batch were told
  abbrev pub TellsMore : AskEnd → AskState R W → AskState R W → Type 0
  TellsMore result old new = (start : AskStart R W) (told : List AskOutcome) → HasTold start (Ok tt) told old
      → (more : List AskOutcome) × HasTold start result (told ++ more) new
      × (length more ≤ length old.batch.calls) × (new.batch ≡ after_outcomes (length more) old.batch)

  -- of a text of which this much was taken, the lines before were calls, some of which were told, and the others
  -- are in the batch; and these lines are behind them, by what follows the text
  pub record HasAsked (start : AskStart R W) (taken : List ℕ) (behind : List ℕ → List (List ℕ))
      (state : AskState R W) : Type 0 where
    pub before : List (List ℕ)
    pub calls : List Call
    pub told : List AskOutcome
    pub read : (more : List ℕ) → lines (taken ++ more) ≡ before ++ behind more
    pub spelled : SpellCalls before calls
    pub waiting : length calls ≡ length told + length state.batch.calls
    pub has_told : HasTold start (Ok tt) told state

  -- the same after a fault
  pub record HasStopped (start : AskStart R W) (taken : List ℕ) (fault : AskFault) (state : AskState R W)
      : Type 0 where
    pub before : List (List ℕ)
    pub calls : List Call
    pub told : List AskOutcome
    pub read : (more : List ℕ) → (behind : List (List ℕ)) × (lines (taken ++ more) ≡ before ++ behind)
        × EndsRun (Err fault) start.first (length calls) (length told) behind
    pub spelled : SpellCalls before calls
    pub within : length told ≤ length calls
    pub has_told : HasTold start (Err fault) told state

  -- a run whose first request has this number took lines that were behind, or stopped
  abbrev pub AskStep : ℕ → Result (Unit {0}) AskFault → (List ℕ → List (List ℕ)) → AskState R W
      → (List ℕ → List (List ℕ)) → AskState R W → Type 0
  AskStep first result old_behind old behind new = (start : AskStart R W) (taken : List ℕ)
      → start.first ≡ first → HasAsked start taken old_behind old
      → MatchResult result (λ done. HasAsked start taken behind new) (λ fault. HasStopped start taken fault new)

  -- a run over a whole text
  pub record HasRun (start : AskStart R W) (text : List ℕ) (result : AskEnd) (state : AskState R W) : Type 0 where
    pub before : List (List ℕ)
    pub behind : List (List ℕ)
    pub calls : List Call
    pub told : List AskOutcome
    pub lines_are : lines text ≡ before ++ behind
    pub spelled : SpellCalls before calls
    pub within : length told ≤ length calls
    pub has_told : HasTold start result told state
    pub end : EndsRun result start.first (length calls) (length told) behind

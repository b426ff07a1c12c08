-- What a client's session does.
use Rattle.std.specs.Prelude.{◌≡◌, ◌⊎◌, ◌-◌, Bool, true, false, if◌then◌else◌, Option, Some, None, IsSome, List, [], ◌∷◌, ◌++◌, length, slice_get}
use Rattle.std.specs.List.{flat_map, list_any}
use Rattle.sb_rows.specs.Rows.{Rows}
use Rattle.sb_calls.specs.Log.{replies_to}
use Rattle.sb_calls.specs.declared.ask.Key.{Key}
use Rattle.sb_calls.specs.declared.call.Call.{Call}
use Rattle.sb_calls.specs.declared.call.TheConstants.{LOG_CALLS}
use Rattle.sb_calls.specs.declared.reply.Reply.{Reply}
use Rattle.sb_frames.specs.declared.frame.AskOutcome.TheVariants as ended
use Rattle.sb_frames.specs.declared.frame.Frame.{Frame}
use Rattle.sb_frames.specs.declared.frame.Frame.TheVariants.{Ask, Entry, Ack, Answer, Outcome, Flush, Have}
use Rattle.sb_sequencer.specs.Numbering.{IsLog, first_asks, calls_of, index_of_key}
use Rattle.bank_server.specs.Standing.{standing_of}
use Rattle.bank_server.specs.declared.input.asking.Standing.{Standing}
use Rattle.bank_server.specs.declared.input.asking.Standing.TheVariants.{Number, Mismatch, LogFull}

-- a client sends asks and flushes, and nothing else
abbrev pub IsFromClient : Frame → Type 0
IsFromClient (Ask client request call) = Unit {0}
IsFromClient (Entry number call) = ⊥
IsFromClient (Ack replica size) = ⊥
IsFromClient (Answer number reply) = ⊥
IsFromClient (Outcome client request outcome) = ⊥
IsFromClient Flush = Unit {0}
IsFromClient (Have replica size) = ⊥

abbrev pub is_flush : Frame → Bool
is_flush (Ask client request call) = false
is_flush (Entry number call) = false
is_flush (Ack replica size) = false
is_flush (Answer number reply) = false
is_flush (Outcome client request outcome) = false
is_flush Flush = true
is_flush (Have replica size) = false

abbrev pub IsAskFrame : Frame → Type 0
IsAskFrame (Ask client request call) = Unit {0}
IsAskFrame (Entry number call) = ⊥
IsAskFrame (Ack replica size) = ⊥
IsAskFrame (Answer number reply) = ⊥
IsAskFrame (Outcome client request outcome) = ⊥
IsAskFrame Flush = ⊥
IsAskFrame (Have replica size) = ⊥

-- the ask in a frame, if it is one
abbrev pub ask_of_frame : Frame → List (Key × Call)
ask_of_frame (Ask client request call) = (record { client = client; request = request }, call) ∷ []
ask_of_frame (Entry number call) = []
ask_of_frame (Ack replica size) = []
ask_of_frame (Answer number reply) = []
ask_of_frame (Outcome client request outcome) = []
ask_of_frame Flush = []
ask_of_frame (Have replica size) = []

-- the asks in these frames, in order
abbrev pub asks_in : List Frame → List (Key × Call)
asks_in frames = flat_map ask_of_frame frames

-- the asks that a flush follows: the client gets their outcomes
abbrev pub flushed_asks : List Frame → List (Key × Call)
flushed_asks [] = []
flushed_asks (frame ∷ frames) = if list_any is_flush frames then ask_of_frame frame ++ flushed_asks frames else []

-- the log after a session: the first ask of each key, among those before and then the session's
abbrev pub log_of_session : List (Key × Call) → List Frame → List (Key × Call)
log_of_session before frames = first_asks (before ++ asks_in frames)

-- the outcome of a call that was run, with this reply
abbrev pub outcome_of_reply : Key → Option Reply → List Frame
outcome_of_reply key None = []
outcome_of_reply key (Some reply) = Outcome key.client key.request (ended.Replied reply) ∷ []

-- the outcome of an ask, by its standing in a log with these replies
abbrev pub outcome_by : List Reply → Key → Standing → List Frame
outcome_by replies key (Number n) = outcome_of_reply key (slice_get replies (n - 1))
outcome_by replies key (Mismatch n) = Outcome key.client key.request ended.Mismatch ∷ []
outcome_by replies key LogFull = Outcome key.client key.request ended.LogFull ∷ []

-- the outcome of an ask in a log over these rows
abbrev pub outcome_of : Rows → List (Key × Call) → Key × Call → List Frame
outcome_of opening log ask = outcome_by (replies_to opening (calls_of log)) ask.0 (standing_of log ask)

-- what a client gets in a session: the outcome of each ask that a flush follows, in order
abbrev pub outcomes_of : Rows → List (Key × Call) → List Frame → List Frame
outcomes_of opening log frames = flat_map (outcome_of opening log) (flushed_asks frames)

-- an outcome that was told stands, whatever is asked after it: that of an ask whose key has a number
-- in the log, and once the log is full that of every ask
abbrev pub ToldOutcomesStand : Type 0
ToldOutcomesStand = (opening : Rows) (log more : List (Key × Call)) (ask : Key × Call) → IsLog (log ++ more)
    → IsSome (index_of_key log ask.0) ⊎ (length log ≡ LOG_CALLS)
    → outcome_of opening (log ++ more) ask ≡ outcome_of opening log ask

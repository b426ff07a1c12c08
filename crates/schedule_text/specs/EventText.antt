-- The meaning of a line of a schedule's events.
use Rattle.std.specs.Prelude.{ℕ, if◌then◌else◌, Option, Some, None, Result, Ok, Err, List, [], ◌∷◌, codes}
use Rattle.std.specs.Str.{bytes_eq}
use Rattle.sb_rows.specs.Text.{words}
use Rattle.sb_calls.specs.Ask.{read_number}
use Rattle.sb_calls.specs.Call.{call_of_words}
use Rattle.sb_calls.specs.declared.call.Call.{Call}
use Rattle.sb_calls.specs.declared.text.fault.CallFault.{CallFault}
use Rattle.sb_checkpoint.specs.declared.memory_store.How.{How}
use Rattle.sb_checkpoint.specs.declared.memory_store.How.TheVariants as how
use Rattle.schedule_text.specs.declared.event.Event.{Event}
use Rattle.schedule_text.specs.declared.event.Event.TheVariants as event
use Rattle.schedule_text.specs.declared.event.NodeEvent.TheVariants as node
use Rattle.schedule_text.specs.declared.event.SystemEvent.TheVariants as system
use Rattle.schedule_text.specs.declared.fault.EventFault.{EventFault}
use Rattle.schedule_text.specs.declared.fault.EventFault.TheVariants as faults
use Rattle.schedule_text.specs.declared.fault.EventFault.TheVariants.{UnknownEvent, WrongWords, BadNumber}

-- ---- words that are numbers, up to three

abbrev pub with_one : (ℕ → Event) → Option ℕ → Result Event EventFault
with_one made (Some a) = Ok (made a)
with_one made None = Err BadNumber

abbrev pub with_two : (ℕ → ℕ → Event) → Option ℕ → Option ℕ → Result Event EventFault
with_two made (Some a) b = with_one (made a) b
with_two made None b = Err BadNumber

abbrev pub with_three : (ℕ → ℕ → ℕ → Event) → Option ℕ → Option ℕ → Option ℕ → Result Event EventFault
with_three made (Some a) b c = with_two (made a) b c
with_three made None b c = Err BadNumber

-- the event of a name that no word comes after
abbrev pub event_of_none : Event → List (List ℕ) → Result Event EventFault
event_of_none made [] = Ok made
event_of_none made (a ∷ more) = Err WrongWords

-- the event that the words after its name say, if it takes one number
abbrev pub event_of_one : (ℕ → Event) → List (List ℕ) → Result Event EventFault
event_of_one made (a ∷ []) = with_one made (read_number a)
event_of_one made [] = Err WrongWords
event_of_one made (a ∷ b ∷ more) = Err WrongWords

-- the same for two numbers
abbrev pub event_of_two : (ℕ → ℕ → Event) → List (List ℕ) → Result Event EventFault
event_of_two made (a ∷ b ∷ []) = with_two made (read_number a) (read_number b)
event_of_two made [] = Err WrongWords
event_of_two made (a ∷ []) = Err WrongWords
event_of_two made (a ∷ b ∷ c ∷ more) = Err WrongWords

-- the same for three numbers
abbrev pub event_of_three : (ℕ → ℕ → ℕ → Event) → List (List ℕ) → Result Event EventFault
event_of_three made (a ∷ b ∷ c ∷ []) = with_three made (read_number a) (read_number b) (read_number c)
event_of_three made [] = Err WrongWords
event_of_three made (a ∷ []) = Err WrongWords
event_of_three made (a ∷ b ∷ []) = Err WrongWords
event_of_three made (a ∷ b ∷ c ∷ d ∷ more) = Err WrongWords

-- ---- how a put ends

abbrev pub how_of : List ℕ → Option How
how_of word =
    if bytes_eq word (codes "ok") then Some how.Ok
    else if bytes_eq word (codes "old") then Some how.Old
    else if bytes_eq word (codes "new") then Some how.New
    else None

abbrev pub mark_with_how : Option ℕ → Option How → Result Event EventFault
mark_with_how (Some r) (Some how) = Ok (event.At r (node.Mark how))
mark_with_how (Some r) None = Err BadNumber
mark_with_how None how = Err BadNumber

abbrev pub mark_event : List (List ℕ) → Result Event EventFault
mark_event (r ∷ how ∷ []) = mark_with_how (read_number r) (how_of how)
mark_event [] = Err WrongWords
mark_event (r ∷ []) = Err WrongWords
mark_event (r ∷ how ∷ c ∷ more) = Err WrongWords

-- ---- a call that a client asks for

abbrev pub event_with_call : (Call → Event) → Result Call CallFault → Result Event EventFault
event_with_call made (Ok call) = Ok (made call)
event_with_call made (Err fault) = Err (faults.Call fault)

abbrev pub event_with_key : (ℕ → ℕ → Call → Event) → Option ℕ → Option ℕ → List (List ℕ) → Result Event EventFault
event_with_key made (Some client) (Some request) call = event_with_call (made client request) (call_of_words call)
event_with_key made (Some client) None call = Err BadNumber
event_with_key made None request call = Err BadNumber

-- the event that the words after its name say, if it takes a client's number, which may be 0, its
-- number for the request, and a call
abbrev pub event_of_call : (ℕ → ℕ → Call → Event) → List (List ℕ) → Result Event EventFault
event_of_call made (client ∷ request ∷ call) = event_with_key made (read_number client) (read_number request) call
event_of_call made [] = Err WrongWords
event_of_call made (client ∷ []) = Err WrongWords

-- ---- a line

-- an event by its first word: those of a log of which only a part is synced
abbrev pub log_event : List ℕ → List (List ℕ) → Result Event EventFault
log_event verb rest =
    if bytes_eq verb (codes "append") then event_of_call event.Append rest
    else if bytes_eq verb (codes "sync") then event_of_none (event.System system.Sync) rest
    else if bytes_eq verb (codes "crash") then event_of_one (λ a. event.System (system.Crash a)) rest
    else Err UnknownEvent

-- an event by its first word: those of checkpoints, and of states that replicas get from others
abbrev pub state_event : List ℕ → List (List ℕ) → Result Event EventFault
state_event verb rest =
    if bytes_eq verb (codes "mark") then mark_event rest
    else if bytes_eq verb (codes "restart") then event_of_one (λ r. event.At r node.Restart) rest
    else if bytes_eq verb (codes "cut") then event_of_one (λ r. event.At r node.Cut) rest
    else if bytes_eq verb (codes "donor") then event_of_one (λ a. event.System (system.Donor a)) rest
    else if bytes_eq verb (codes "give") then event_of_two (λ a b. event.System (system.Give a b)) rest
    else if bytes_eq verb (codes "adopt") then event_of_two (λ r n. event.At r (node.Adopt n)) rest
    else log_event verb rest

-- an event by its first word: those that replicas do without the network
abbrev pub replica_event : List ℕ → List (List ℕ) → Result Event EventFault
replica_event verb rest =
    if bytes_eq verb (codes "take") then event_of_three (λ r worker index. event.At r (node.Take worker index)) rest
    else if bytes_eq verb (codes "finish") then event_of_two (λ r n. event.At r (node.Finish n)) rest
    else if bytes_eq verb (codes "next") then event_of_one (λ r. event.At r node.Next) rest
    else if bytes_eq verb (codes "audit") then event_of_two (λ a b. event.System (system.Audit a b)) rest
    else state_event verb rest

-- an event by its first word: those that replicas send to the sequencer
abbrev pub report_event : List ℕ → List (List ℕ) → Result Event EventFault
report_event verb rest =
    if bytes_eq verb (codes "ack") then event_of_one (λ r. event.At r node.Ack) rest
    else if bytes_eq verb (codes "answer") then event_of_two (λ r n. event.At r (node.Answer n)) rest
    else if bytes_eq verb (codes "have") then event_of_one (λ r. event.At r node.Have) rest
    else if bytes_eq verb (codes "from") then event_of_two (λ a b. event.System (system.From a b)) rest
    else replica_event verb rest

-- an event by its first word: all
abbrev pub event_of_words : List (List ℕ) → Result Event EventFault
event_of_words [] = Err UnknownEvent
event_of_words (verb ∷ rest) =
    if bytes_eq verb (codes "ask") then event_of_call event.Ask rest
    else if bytes_eq verb (codes "send") then event_of_two (λ r n. event.At r (node.Send n)) rest
    else if bytes_eq verb (codes "resend") then event_of_one (λ r. event.At r node.Resend) rest
    else if bytes_eq verb (codes "to") then event_of_two (λ r n. event.At r (node.To n)) rest
    else report_event verb rest

-- the event that a line says, or its first fault
unfoldable pub event_of : List ℕ → Result Event EventFault
event_of line = event_of_words (words line)

-- Events whose calls stand in a list of their own.
use Rattle.std.specs.Prelude.{Bool, true, false, Option, Some, None, List, [], ◌∷◌}
use Rattle.sb_calls.specs.declared.call.Call.{Call}
use Rattle.schedule_text.specs.declared.event.Event.{Event}
use Rattle.schedule_text.specs.declared.event.Event.TheVariants as event
use Rattle.schedule_text.specs.declared.events.ShortEvent.{ShortEvent}
use Rattle.schedule_text.specs.declared.events.ShortEvent.TheVariants as short

-- whether an event has a call, which stands in the list of calls
abbrev pub has_call : ShortEvent → Bool
has_call (short.Ask client request) = true
has_call (short.Append client request) = true
has_call other = false

-- the call of an event, if it has one
abbrev pub event_call : Event → Option Call
event_call (event.Ask client request call) = Some call
event_call (event.Append client request call) = Some call
event_call other = None

-- an event without its call, if it has one
abbrev pub without_call : Event → ShortEvent
without_call (event.Ask client request call) = short.Ask client request
without_call (event.Append client request call) = short.Append client request
without_call (event.At replica happens) = short.At replica happens
without_call (event.System happens) = short.System happens

-- the events, if each of them that has a call has the next of these
abbrev pub events_with_calls : List ShortEvent → List Call → List Event
events_with_calls [] calls = []
events_with_calls (short.Ask client request ∷ shorts) [] = []
events_with_calls (short.Ask client request ∷ shorts) (call ∷ calls) =
    event.Ask client request call ∷ events_with_calls shorts calls
events_with_calls (short.Append client request ∷ shorts) [] = []
events_with_calls (short.Append client request ∷ shorts) (call ∷ calls) =
    event.Append client request call ∷ events_with_calls shorts calls
events_with_calls (short.At replica happens ∷ shorts) calls =
    event.At replica happens ∷ events_with_calls shorts calls
events_with_calls (short.System happens ∷ shorts) calls = event.System happens ∷ events_with_calls shorts calls

-- Events whose calls stand in a list of their own.
use Rattle.std.proofs.Common.{◌≡◌, ℕ, suc, true, false, Some, None, List, [], ◌∷◌, ◌++◌, length, refl, sym, ap, ◌∙◌, arith, length-append}
use Rattle.std.specs.Prelude.{cond, count_by}
use Rattle.std.proofs.lemmas.List.{append-nil}
use Rattle.std.proofs.lemmas.List.Sums.{sum_by-append, sum_by-cons}
use Rattle.sb_calls.specs.declared.call.Call.{Call}
use Rattle.schedule_text.specs.inner.ShortEvents.{event_call, events_with_calls, has_call, without_call}
use Rattle.schedule_text.specs.declared.event.Event.{Event}
use Rattle.schedule_text.specs.declared.event.Event.TheVariants as event
use Rattle.schedule_text.specs.declared.events.ShortEvent.{ShortEvent}
use Rattle.schedule_text.specs.declared.events.ShortEvent.TheVariants as short

-- the number of calls of one short event
abbrev calls_of : ShortEvent → ℕ
calls_of happens = cond (has_call happens) 1 0

-- ---- one event

has_call-some : (happens : Event) (call : Call) → event_call happens ≡ Some call → has_call (without_call happens) ≡ true
has_call-some (event.Ask client request own) call e = refl
has_call-some (event.Append client request own) call e = refl
has_call-some other call e = absurd cc

has_call-none : (happens : Event) → event_call happens ≡ None → has_call (without_call happens) ≡ false
has_call-none (event.Ask client request own) e = absurd cc
has_call-none (event.Append client request own) e = absurd cc
has_call-none other e = refl

-- an event that has a call, before others, takes the first one
events_with_calls-call : (happens : Event) (call : Call) (shorts : List ShortEvent) (calls : List Call) → event_call happens ≡ Some call
    → events_with_calls (without_call happens ∷ shorts) (call ∷ calls) ≡ happens ∷ events_with_calls shorts calls
events_with_calls-call (event.Ask client request own) call shorts calls e = cc
events_with_calls-call (event.Append client request own) call shorts calls e = cc
events_with_calls-call other call shorts calls e = absurd cc

-- an event that has none, before others, takes none
events_with_calls-none : (happens : Event) (shorts : List ShortEvent) (calls : List Call) → event_call happens ≡ None
    → events_with_calls (without_call happens ∷ shorts) calls ≡ happens ∷ events_with_calls shorts calls
events_with_calls-none (event.Ask client request own) shorts calls e = absurd cc
events_with_calls-none (event.Append client request own) shorts calls e = absurd cc
events_with_calls-none other shorts calls e = refl

-- ---- all events

-- there are as many events as short events
pub length-events_with_calls : (shorts : List ShortEvent) (calls : List Call) → count_by has_call shorts ≡ length calls
    → length (events_with_calls shorts calls) ≡ length shorts
length-events_with_calls [] calls fits = refl
length-events_with_calls (short.Ask client request ∷ shorts) [] fits =
    let one = sum_by-cons calls_of (short.Ask client request) shorts in absurd (omega arith)
length-events_with_calls (short.Ask client request ∷ shorts) (call ∷ calls) fits =
    let one = sum_by-cons calls_of (short.Ask client request) shorts in
    ap suc (length-events_with_calls shorts calls (omega arith))
length-events_with_calls (short.Append client request ∷ shorts) [] fits =
    let one = sum_by-cons calls_of (short.Append client request) shorts in absurd (omega arith)
length-events_with_calls (short.Append client request ∷ shorts) (call ∷ calls) fits =
    let one = sum_by-cons calls_of (short.Append client request) shorts in
    ap suc (length-events_with_calls shorts calls (omega arith))
length-events_with_calls (other ∷ shorts) calls fits =
    let none = sum_by-cons calls_of other shorts in
    ap suc (length-events_with_calls shorts calls (omega arith))

-- more events, with the calls of theirs, come after the others
pub events_with_calls-append : (shorts more : List ShortEvent) (calls others : List Call) → count_by has_call shorts ≡ length calls
    → events_with_calls (shorts ++ more) (calls ++ others) ≡ events_with_calls shorts calls ++ events_with_calls more others
events_with_calls-append [] more [] others fits = refl
events_with_calls-append [] more (call ∷ calls) others fits = absurd (omega arith)
events_with_calls-append (short.Ask client request ∷ shorts) more [] others fits =
    let one = sum_by-cons calls_of (short.Ask client request) shorts in absurd (omega arith)
events_with_calls-append (short.Ask client request ∷ shorts) more (call ∷ calls) others fits =
    let one = sum_by-cons calls_of (short.Ask client request) shorts in
    ap (λ es. event.Ask client request call ∷ es) (events_with_calls-append shorts more calls others (omega arith))
events_with_calls-append (short.Append client request ∷ shorts) more [] others fits =
    let one = sum_by-cons calls_of (short.Append client request) shorts in absurd (omega arith)
events_with_calls-append (short.Append client request ∷ shorts) more (call ∷ calls) others fits =
    let one = sum_by-cons calls_of (short.Append client request) shorts in
    ap (λ es. event.Append client request call ∷ es) (events_with_calls-append shorts more calls others (omega arith))
events_with_calls-append (other ∷ shorts) more calls others fits =
    let none = sum_by-cons calls_of other shorts in
    let rest = events_with_calls-append shorts more calls others (omega arith) in cc

-- an event that has no call comes after the others
pub events_with_calls-last : (shorts : List ShortEvent) (calls : List Call) (happens : Event) → event_call happens ≡ None
    → count_by has_call shorts ≡ length calls
    → events_with_calls (shorts ++ without_call happens ∷ []) calls ≡ events_with_calls shorts calls ++ happens ∷ []
events_with_calls-last shorts calls happens none fits =
    ap (events_with_calls (shorts ++ without_call happens ∷ [])) (sym (append-nil calls))
    ∙ events_with_calls-append shorts (without_call happens ∷ []) calls [] fits
    ∙ ap (λ es. events_with_calls shorts calls ++ es) (events_with_calls-none happens [] [] none)

-- an event that has a call comes after the others, and takes it
pub events_with_calls-last_call : (shorts : List ShortEvent) (calls : List Call) (happens : Event) (call : Call) → event_call happens ≡ Some call
    → count_by has_call shorts ≡ length calls
    → events_with_calls (shorts ++ without_call happens ∷ []) (calls ++ call ∷ []) ≡ events_with_calls shorts calls ++ happens ∷ []
events_with_calls-last_call shorts calls happens call own fits =
    events_with_calls-append shorts (without_call happens ∷ []) calls (call ∷ []) fits
    ∙ ap (λ es. events_with_calls shorts calls ++ es) (events_with_calls-call happens call [] [] own)

-- as many calls as events that have one, after an event more
pub count-last : (shorts : List ShortEvent) (calls : List Call) (happens : Event) → event_call happens ≡ None → count_by has_call shorts ≡ length calls
    → count_by has_call (shorts ++ without_call happens ∷ []) ≡ length calls
count-last shorts calls happens none fits =
    let own = ap {B = ℕ} (λ has. cond has 1 0) (has_call-none happens none) in
    omega (arith, own, fits, sum_by-append calls_of shorts (without_call happens ∷ []))

pub count-last_call : (shorts : List ShortEvent) (calls : List Call) (happens : Event) (call : Call) → event_call happens ≡ Some call
    → count_by has_call shorts ≡ length calls
    → count_by has_call (shorts ++ without_call happens ∷ []) ≡ length (calls ++ call ∷ [])
count-last_call shorts calls happens call some fits =
    let own = ap {B = ℕ} (λ has. cond has 1 0) (has_call-some happens call some) in
    omega (arith, own, fits, sum_by-append calls_of shorts (without_call happens ∷ []), length-append calls (call ∷ []))

-- A crew that records its exchanges.
use Rattle.std.specs.Prelude.{◌≡◌, ◌<◌, ◌≤◌, Option, Some, None, List, ◌++◌, length, take, filter_map}
use Rattle.std.specs.Option.{option_to_list}
use Rattle.cown_workers.specs.Draining.{CrewStep, Kept, CameBack, HandedOver, TakesSteps}
use Rattle.cown_workers.specs.declared.traced.Notice.{Notice}
use Rattle.cown_workers.specs.declared.traced.Notice.TheVariants.{Given, Back, Came}

-- a crew, and the notices of its exchanges
pub record TracedOf (C : Type 0) : Type 0 where
  pub crew : C
  pub notices : List Notice

-- the notice of an exchange; there is none if nothing was handed over
abbrev pub notice_of : CrewStep → Option Notice
notice_of (Kept job) = Some (Given job.number)
notice_of (CameBack job) = Some (Back job.number)
notice_of (HandedOver None) = None
notice_of (HandedOver (Some done)) = Some (Came done.number)

-- the notices of these exchanges, in order
abbrev pub notices_of : List CrewStep → List Notice
notices_of steps = filter_map notice_of steps

-- the crew took this step, and its notice was recorded
pub record AddsNotice {C : Type 0} (acts : C → CrewStep → C → Type 0) (old : TracedOf C) (step : CrewStep)
    (new : TracedOf C) : Type 0 where
  pub acted : acts old.crew step new.crew
  pub noted : new.notices ≡ old.notices ++ option_to_list (notice_of step)

-- no notice was recorded: a job came back without the crew, and everything stayed; or the crew was
-- asked
abbrev pub AddsNoNotice : {C : Type 0} → (C → CrewStep → C → Type 0)
    → TracedOf C → CrewStep → TracedOf C → Type 0
AddsNoNotice acts old (Kept job) new = ⊥
AddsNoNotice acts old (CameBack job) new = new ≡ old
AddsNoNotice acts old (HandedOver answer) new =
    acts old.crew (HandedOver answer) new.crew × (new.notices ≡ old.notices)

-- one exchange with a traced crew: it is recorded while there are fewer than 64 notices
pub record Traces {C : Type 0} (acts : C → CrewStep → C → Type 0) (old : TracedOf C) (step : CrewStep)
    (new : TracedOf C) : Type 0 where
  pub room : length old.notices < 64 → AddsNotice acts old step new
  pub full : 64 ≤ length old.notices → AddsNoNotice acts old step new

-- exchanges with a traced crew, one after another: the first 64 notices are recorded, and if there
-- are no more, the crew itself made these exchanges
pub record TracesSteps {C : Type 0} (acts : C → CrewStep → C → Type 0) (old : TracedOf C) (steps : List CrewStep)
    (new : TracedOf C) : Type 0 where
  pub notices : new.notices ≡ take 64 (old.notices ++ notices_of steps)
  pub crew : length (old.notices ++ notices_of steps) ≤ 64 → TakesSteps acts old.crew steps new.crew

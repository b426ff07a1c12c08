-- Exchanges with a traced crew, one after another.
use Rattle.std.proofs.Common.{◌≡◌, ◌⊎◌, inl, inr, ◌<◌, ◌≤◌, Option, Some, None, List, [], ◌∷◌, ◌++◌, length, take, sym, ap, ◌∙◌, subst, append_assoc, append-nil, length-append, arith}
use Rattle.std.specs.List.{cons_option}
use Rattle.std.specs.Option.{option_to_list}
use Rattle.std.proofs.Math.Seq.{take-append_seam}
use Rattle.std.proofs.lemmas.Bool.{cases_lt}
use Rattle.std.proofs.lemmas.List.{take_all}
use Rattle.cown_workers.specs.Draining.{TakesSteps, CrewStep, Kept, CameBack, HandedOver}
use Rattle.cown_workers.specs.Traces.{TracesSteps, AddsNotice, AddsNoNotice, TracedOf, Traces, notice_of, notices_of}
use Rattle.cown_workers.specs.declared.traced.Notice.{Notice}

-- one notice more before others
onto_one : (notices : List Notice) (one : Option Notice) (others : List Notice)
    → (notices ++ option_to_list one) ++ others ≡ notices ++ cons_option one others
onto_one notices None others = ap (λ l. l ++ others) (append-nil notices)
onto_one notices (Some one) others = append_assoc notices (one ∷ []) others

not_shorter : (one : Option Notice) (others : List Notice) → length others ≤ length (cons_option one others)
not_shorter None others = omega arith
not_shorter (Some one) others = omega arith

at_most_one : (one : Option Notice) → length (option_to_list one) ≤ 1
at_most_one None = omega arith
at_most_one (Some one) = omega arith

-- after 64 notices no more are taken
full_take : (notices others : List Notice) → length notices ≡ 64 → take 64 (notices ++ others) ≡ notices
full_take notices others full = subst (λ n. take n (notices ++ others) ≡ notices) full (take-append_seam notices others)

-- after 64 notices there is no room for one
no_room : (notices : List Notice) (one : Notice) (others : List Notice) → 64 ≤ length notices → length (notices ++ one ∷ others) ≤ 64 → ⊥
no_room notices one others full few = let long = length-append notices (one ∷ others) in omega (arith, long, full, few)

module _ {C : Type 0} (acts : C → CrewStep → C → Type 0) where
  stays : (step : CrewStep) (old new : TracedOf C) → AddsNoNotice acts old step new → new.notices ≡ old.notices
  stays (Kept job) old new unnoted = absurd unnoted
  stays (CameBack job) old new unnoted = ap (λ (traced : TracedOf C). traced.notices) unnoted
  stays (HandedOver answer) old new unnoted = unnoted.1

  -- if no more is recorded than there is room for, the crew wasn't bypassed
  acted_still : (step : CrewStep) (steps : List CrewStep) (old new : TracedOf C) → AddsNoNotice acts old step new → 64 ≤ length old.notices
      → length (old.notices ++ notices_of (step ∷ steps)) ≤ 64 → acts old.crew step new.crew
  acted_still (Kept job) steps old new unnoted full few = absurd unnoted
  acted_still (CameBack job) steps old new unnoted full few = absurd (no_room _ _ _ full few)
  acted_still (HandedOver None) steps old new unnoted full few = unnoted.0
  acted_still (HandedOver (Some done)) steps old new unnoted full few = absurd (no_room _ _ _ full few)

  shorter : (step : CrewStep) (steps : List CrewStep) (notices : List Notice) → length (notices ++ notices_of (step ∷ steps)) ≤ 64
      → length (notices ++ notices_of steps) ≤ 64
  shorter step steps notices few =
      let more = length-append notices (notices_of (step ∷ steps)) in
      let less = length-append notices (notices_of steps) in
      let longer = not_shorter (notice_of step) (notices_of steps) in
      omega (arith, more, less, longer, few)

  -- one exchange before others, which is recorded
  when_noted : (step : CrewStep) (steps : List CrewStep) {old mid new : TracedOf C} → AddsNotice acts old step mid → TracesSteps acts mid steps new
      → TracesSteps acts old (step ∷ steps) new
  when_noted step steps {old} {mid} {new} noted after =
      let all : mid.notices ++ notices_of steps ≡ old.notices ++ notices_of (step ∷ steps) =
      ap (λ l. l ++ notices_of steps) noted.noted ∙ onto_one old.notices (notice_of step) (notices_of steps) in
      record {
        notices = after.notices ∙ ap (take 64) all;
        crew = λ few. (mid.crew, noted.acted, after.crew (subst (λ l. length l ≤ 64) (sym all) few));
      }

  -- or isn't
  when_full : (step : CrewStep) (steps : List CrewStep) (old mid new : TracedOf C) → AddsNoNotice acts old step mid → length old.notices ≡ 64
      → TracesSteps acts mid steps new → TracesSteps acts old (step ∷ steps) new
  when_full step steps old mid new unnoted full after =
      let same : mid.notices ≡ old.notices = stays step old mid unnoted in
      record {
        notices = after.notices ∙ ap (λ l. take 64 (l ++ notices_of steps)) same
            ∙ full_take old.notices (notices_of steps) full
            ∙ sym (full_take old.notices (notices_of (step ∷ steps)) full);
        crew = λ few. (
          mid.crew,
          acted_still step steps old mid unnoted (omega (arith, full)) few,
          after.crew (subst (λ l. length (l ++ notices_of steps) ≤ 64) (sym same) (shorter step steps old.notices few)),
        );
      }

  fits : (step : CrewStep) {old mid : TracedOf C} → length old.notices < 64 → AddsNotice acts old step mid → length mid.notices ≤ 64
  fits step {old} {mid} room noted =
      let long = ap length noted.noted ∙ length-append old.notices (option_to_list (notice_of step)) in
      let one = at_most_one (notice_of step) in
      omega (arith, long, one, room)

  one_more : (step : CrewStep) (steps : List CrewStep) (old mid new : TracedOf C) → length old.notices ≤ 64 → Traces acts old step mid
      → (length mid.notices ≤ 64 → TracesSteps acts mid steps new) → (length old.notices < 64) ⊎ (64 ≤ length old.notices)
      → TracesSteps acts old (step ∷ steps) new
  one_more step steps old mid new few traces after (inl room) =
      let noted = traces.room room in when_noted step steps noted (after (fits step room noted))
  one_more step steps old mid new few traces after (inr full) =
      let unnoted = traces.full full in
      when_full step steps old mid new unnoted (omega (arith, few, full))
      (after (subst (λ l. length l ≤ 64) (sym (stays step old mid unnoted)) few))

  pub traced-along : (steps : List CrewStep) (old new : TracedOf C) → length old.notices ≤ 64 → TakesSteps (Traces acts) old steps new
      → TracesSteps acts old steps new
  traced-along [] old new few same = record {
    notices = ap (λ (traced : TracedOf C). traced.notices) same ∙ sym (take_all 64 old.notices few) ∙ ap (take 64) (sym (append-nil old.notices));
    crew = λ _. ap (λ (traced : TracedOf C). traced.crew) same;
  }
  traced-along (step ∷ steps) old new few (mid, traces, rest) =
      one_more step steps old mid new few traces (λ fits. traced-along steps mid new fits rest) (cases_lt (length old.notices) 64)

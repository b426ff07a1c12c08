-- Exchanges with a crew, one after another.
use Rattle.std.proofs.Common.{◌≡◌, List, [], ◌∷◌, ◌++◌, refl, sym, subst}
use Rattle.sb_calls.specs.declared.op.Op.{Op}
use Rattle.cown_board.specs.Board.{BoardOf, unfinished_of}
use Rattle.cown_workers.specs.Draining.{TakesSteps, CrewStep, Exchange, Exchanges, IsDrained, EndsInVain, IsInVain}
use Rattle.cown_workers.specs.inner.DrainSteps.{HasExchanges}

Exchanges-append : (first second : List CrewStep) (a b c : BoardOf Op) → Exchanges a first b → Exchanges b second c → Exchanges a (first ++ second) c
Exchanges-append [] second a b c here more = subst (λ board. Exchanges board second c) here more
Exchanges-append (step ∷ first) second a b c (mid, here, rest) more = (mid, here, Exchanges-append first second mid b c rest more)

module _ {C : Type 0} (acts : C → CrewStep → C → Type 0) where
  TakesSteps-append : (first second : List CrewStep) (a b c : C) → TakesSteps acts a first b
      → TakesSteps acts b second c → TakesSteps acts a (first ++ second) c
  TakesSteps-append [] second a b c here more = subst (λ crew. TakesSteps acts crew second c) here more
  TakesSteps-append (step ∷ first) second a b c (mid, here, rest) more = (mid, here, TakesSteps-append first second mid b c rest more)

  -- no exchange
  pub Exchanged-none : (crew : C) (board : BoardOf Op) → HasExchanges acts crew crew board board
  Exchanged-none crew board = record { steps = []; crew = refl; board = refl }

  -- one exchange
  pub Exchanged-one : (step : CrewStep) {crew_old crew_new : C} {old new : BoardOf Op} → acts crew_old step crew_new → Exchange old step new
      → HasExchanges acts crew_old crew_new old new
  Exchanged-one step {crew_old} {crew_new} {old} {new} acted exchange = record {
    steps = step ∷ [];
    crew = (crew_new, acted, refl);
    board = (new, exchange, refl);
  }

  -- some exchanges, followed by others
  pub Exchanged_trans : {p q r : C} {a b c : BoardOf Op} → HasExchanges acts p q a b → HasExchanges acts q r b c → HasExchanges acts p r a c
  Exchanged_trans {p} {q} {r} {a} {b} {c} first second = record {
    steps = first.steps ++ second.steps;
    crew = TakesSteps-append first.steps second.steps p q r first.crew second.crew;
    board = Exchanges-append first.steps second.steps a b c first.board second.board;
  }

  -- nothing is unfinished after them
  pub drained : {p q : C} {a b : BoardOf Op} → HasExchanges acts p q a b → unfinished_of b ≡ 0
      → (steps : List CrewStep) × (TakesSteps acts p steps q × IsDrained a steps b)
  drained exchanged idle = (exchanged.steps, (exchanged.crew, record { exchanges = exchanged.board; idle = idle }))

  -- or the last one was in vain
  pub given_up : {p q r : C} {a b c : BoardOf Op} → HasExchanges acts p q a b → (last : CrewStep) → acts q last r → IsInVain b last → c ≡ b
      → (steps : List CrewStep) × (TakesSteps acts p steps r × EndsInVain a steps c)
  given_up {p} {q} {r} {a} {b} {c} exchanged last acted in_vain same = (
    exchanged.steps ++ last ∷ [],
    (
      TakesSteps-append exchanged.steps (last ∷ []) p q r exchanged.crew (r, acted, refl),
      record {
        before = exchanged.steps;
        last = last;
        steps_are = refl;
        exchanges = subst (Exchanges a exchanged.steps) (sym same) exchanged.board;
        in_vain = subst (λ board. IsInVain board last) (sym same) in_vain;
      },
    ),
  )

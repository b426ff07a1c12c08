use Rattle.std.proofs.Common.{◌≡◌, length, sym, ap, ◌∙◌}
use Rattle.std.specs.Prelude.{slice_get}
use Rattle.cown_board.proofs.LogLaws.{no_some as none_some}
use Rattle.bank_server.proofs.followers.agreement.first_unequal_place.Goals as goal

pub returns-in-Some-clause-none : goal.returns-in-Some-clause-none
returns-in-Some-clause-none c = (
  λ none. absurd (none_some (sym none)),
  λ same.
      let left = c.savings.result.now in
      let right = c.savings-2.result.now in
      let alike : left ≡ right = c.savings.ensures ∙ ap (λ b. b.savings) same ∙ sym c.savings-2.ensures in
      let found = c.least_difference.ensures.difference left right c.in-Some.place (ap length alike) (sym c.in-Some.ensures) in
      absurd (found.1 (ap (λ xs. slice_get xs c.in-Some.place) alike)),
)

pub returns-clause-none : goal.returns-clause-none
returns-clause-none c = (
  λ none. absurd (none_some (sym none)),
  λ same.
      let left = c.checking.result.now in
      let right = c.checking-2.result.now in
      let alike : left ≡ right = c.checking.ensures ∙ ap (λ b. b.checking) same ∙ sym c.checking-2.ensures in
      let found = c.least_difference.ensures.difference left right c.in_ok-place.place (ap length alike) (sym c.in_ok-place.ensures) in
      absurd (found.1 (ap (λ xs. slice_get xs c.in_ok-place.place) alike)),
)

-- Balances stay in their ranges if one of them is written.
use Rattle.std.proofs.Common.{◌≡◌, ℕ, ℤ, pos, ◌≤ℤ◌, List, set, sym, ◌∙◌, arith, length-set, to_z, of_z, w64}
use Rattle.std.proofs.lemmas.Int.{ints}
use Rattle.std.proofs.lemmas.List.Elements.{All-set}
use Rattle.sb_amount.specs.Limit.{IsWithinLimit}
use Rattle.sb_rows.specs.Balances.{IsBalances, IsSavings}

-- an amount in 64 bits
stored : (v amount : ℤ) → v ≡ amount → IsWithinLimit amount → to_z w64 (of_z w64 v) ≡ amount
stored v amount is within = rw is (omega (arith, ints, within.at_least, within.at_most))

module _ (savings checking : List ℤ) (place : ℕ) (v amount : ℤ) (h : IsBalances (record { savings = savings; checking = checking })) (is : v ≡ amount)
    (within : IsWithinLimit amount) where
  pub IsBalances-set_savings : pos 0 ≤ℤ amount → IsBalances (record { savings = set savings place (to_z w64 (of_z w64 v)); checking = checking })
  IsBalances-set_savings not_negative = rw (stored v amount is within) (record {
    same = length-set savings place amount ∙ h.same;
    limit = omega (arith, length-set savings place amount, h.limit);
    savings = All-set IsSavings savings place amount (record { not_negative = not_negative; within = within }) h.savings;
    checking = h.checking;
  })

  pub IsBalances-set_checking : IsBalances (record { savings = savings; checking = set checking place (to_z w64 (of_z w64 v)) })
  IsBalances-set_checking = rw (stored v amount is within) (record {
    same = h.same ∙ sym (length-set checking place amount);
    limit = h.limit;
    savings = h.savings;
    checking = All-set IsWithinLimit checking place amount within h.checking;
  })

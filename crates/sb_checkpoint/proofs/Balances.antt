-- Amounts that pass the tests are balances; balances pass them, and their totals fit.
use Rattle.std.proofs.Common.{◌≡◌, ℕ, ◌*◌, ◌≤◌, ℤ, pos, neg_ℤ, ◌+ℤ◌, ◌≤ℤ◌, [], ◌∷◌, false, w64, List, length, sym, ◌∙◌, arith}
use Rattle.std.proofs.lemmas.Int.{ints}
use Rattle.std.specs.List.{AllByRecursion, All, list_any}
use Rattle.std.specs.Prelude.{FitsSigned}
use Rattle.std.proofs.lemmas.List.Elements.{All-weaker, recursion_from_All}
use Rattle.std.proofs.lemmas.List.Folds.{list_any_none}
use Rattle.lane_audit.specs.Columns.{total}
use Rattle.sb_amount.specs.Limit.{IsWithinLimit}
use Rattle.sb_rows.specs.Balances.{Balances, IsSavings, IsBalances}
use Rattle.sb_rows.specs.declared.columns.TheConstants.{CUSTOMERS}
use Rattle.sb_checkpoint.specs.Reading.{is_below_zero, is_past_limit}
use Rattle.sb_checkpoint.proofs.TestCounts.{each_fails}

within : (v : ℤ) → is_past_limit v ≡ false → IsWithinLimit v
within v h = record { at_least = grind (arith, ints); at_most = grind (arith, ints) }

saved : (v : ℤ) → is_past_limit v ≡ false → is_below_zero v ≡ false → IsSavings v
saved v h k = record { not_negative = grind (arith, ints); within = within v h }

pub are_balances : (savings checking : List ℤ) (n : ℕ) → length savings ≡ n → length checking ≡ n → n ≤ CUSTOMERS
    → list_any is_past_limit savings ≡ false → list_any is_past_limit checking ≡ false → list_any is_below_zero savings ≡ false
    → IsBalances (record { savings = savings; checking = checking })
are_balances savings checking n many as_many few fits checking_fits positive = record {
  same = many ∙ sym as_many;
  limit = omega arith;
  savings = λ k d inside. saved _ (each_fails is_past_limit savings fits k d inside) (each_fails is_below_zero savings positive k d inside);
  checking = λ k d inside. within _ (each_fails is_past_limit checking checking_fits k d inside);
}

-- ---- totals fit

-- the number is within this many times the limit
record IsBounded (n : ℕ) (v : ℤ) : Type 0 where
  at_least : neg_ℤ (pos (n * 1000000000000)) ≤ℤ v
  at_most : v ≤ℤ pos (n * 1000000000000)

total_bounded : (amounts : List ℤ) → AllByRecursion IsWithinLimit amounts → IsBounded (length amounts) (total amounts)
total_bounded [] h = record { at_least = omega (arith, ints); at_most = omega (arith, ints) }
total_bounded (a ∷ amounts) h =
    let rest = total_bounded amounts h.1 in
    record { at_least = omega (arith, ints, h.0.at_least, rest.at_least); at_most = omega (arith, ints, h.0.at_most, rest.at_most) }

amount_fits : (v : ℤ) → IsWithinLimit v → FitsSigned w64 v
amount_fits v h = omega (arith, ints, h.at_least, h.at_most)

pub amounts_fit : (amounts : List ℤ) → All IsWithinLimit amounts → AllByRecursion (FitsSigned w64) amounts
amounts_fit amounts h = recursion_from_All (FitsSigned w64) amounts (All-weaker IsWithinLimit (FitsSigned w64) amount_fits amounts h)

-- all savings are within the limit
pub savings_within : (amounts : List ℤ) → All IsSavings amounts → All IsWithinLimit amounts
savings_within amounts h = All-weaker IsSavings IsWithinLimit (λ v is. is.within) amounts h

pub total_fits : (b : Balances) → IsBalances b → FitsSigned w64 (total b.savings +ℤ total b.checking)
total_fits b h =
    let savings = total_bounded b.savings (recursion_from_All IsWithinLimit b.savings (savings_within b.savings h.savings)) in
    let checking = total_bounded b.checking (recursion_from_All IsWithinLimit b.checking h.checking) in
    omega (arith, ints, h.limit, h.same, savings.at_least, checking.at_least, savings.at_most, checking.at_most)

-- ---- balances pass their tests

within_passes : (v : ℤ) → IsWithinLimit v → is_past_limit v ≡ false
within_passes v h = let low = h.at_least in let high = h.at_most in grind (arith, ints)

saved_passes : (v : ℤ) → IsSavings v → is_below_zero v ≡ false
saved_passes v h = let low = h.not_negative in grind (arith, ints)

pub none_past_limit : (amounts : List ℤ) → All IsWithinLimit amounts → list_any is_past_limit amounts ≡ false
none_past_limit amounts h = list_any_none is_past_limit amounts (All-weaker IsWithinLimit (λ v. is_past_limit v ≡ false) within_passes amounts h)

pub none_negative : (amounts : List ℤ) → All IsSavings amounts → list_any is_below_zero amounts ≡ false
none_negative amounts h = list_any_none is_below_zero amounts (All-weaker IsSavings (λ v. is_below_zero v ≡ false) saved_passes amounts h)

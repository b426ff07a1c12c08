-- The effect of an amalgamation of two customers, in terms of the columns.
use Rattle.std.proofs.Common.{◌≡◌, ◌≢◌, ℕ, ℤ, pos, neg_ℤ, ◌+ℤ◌, true, false, List, Option, Some, refl, sym, ap, ◌∙◌, arith}
use Rattle.std.specs.Prelude.{int_lt}
use Rattle.std.specs.Str.{bytes_eq}
use Rattle.std.proofs.lemmas.Bool.{false_from_ne_true, or_left, or_right, or_from}
use Rattle.std.proofs.lemmas.Int.{ints, by_lt_z}
use Rattle.std.proofs.lemmas.Slice.Eq.{bytes_eq-Decides}
use Rattle.sb_amount.specs.Limit.{IsWithinLimit}
use Rattle.sb_amount.specs.declared.cents.TheConstants.{LIMIT}
use Rattle.sb_rows.specs.Balances.{Balances}
use Rattle.sb_rows.specs.Directory.{place_of}
use Rattle.sb_rows.specs.Rows.{with_row, SameCustomers}
use Rattle.sb_calls.proofs.CustomerRows.{HasRow, HasRow-other, with_checking, row_is, rows_of-with_both, rows_of-with_checking, SameCustomers-with_row, SameCustomers-with_checking}
use Rattle.sb_calls.specs.FollowsProcedure.{FollowsProcedure}
use Rattle.sb_calls.specs.Procedures.{takes_too_much}
use Rattle.sb_calls.specs.declared.call.Call.TheVariants.{Amalgamate}
use Rattle.sb_calls.specs.declared.reply.Reply.TheVariants.{Done, OverLimit}

-- a number that is not within the limit is past it on one side
pub past_limit_either : (v : ℤ) → ¬ IsWithinLimit v → takes_too_much v ≡ true
past_limit_either v past =
    by_lt_z LIMIT v (λ above. or_left (int_lt LIMIT v) (int_lt v (neg_ℤ LIMIT)) (grind (arith, ints, above)))
    (λ most. by_lt_z v (neg_ℤ LIMIT) (λ below. or_right (int_lt LIMIT v) (int_lt v (neg_ℤ LIMIT)) (grind (arith, ints, below)))
    (λ least. absurd (past (record { at_least = least; at_most = most }))))

-- and one that is within it is not
pub within_limit : (v : ℤ) → IsWithinLimit v → takes_too_much v ≡ false
within_limit v fits = or_from (int_lt LIMIT v) (int_lt v (neg_ℤ LIMIT)) (grind (arith, ints, fits.at_most)) (grind (arith, ints, fits.at_least))

-- names at different places are different
pub different_names : (directory : List (List ℕ)) (from to : List ℕ) (p q : ℕ) → place_of directory from ≡ Some p → place_of directory to ≡ Some q → p ≢ q
    → bytes_eq from to ≡ false
different_names directory from to p q found_from found_to differs = false_from_ne_true (bytes_eq from to) (λ same.
    let names : from ≡ to = (bytes_eq-Decides from to).0 same in
    let places : ◌≡◌ {A = Option ℕ} (Some p) (Some q) = sym found_from ∙ ap (place_of directory) names ∙ found_to in
    differs cc)

module _ {directory : List (List ℕ)} {b : Balances} {from to : List ℕ} {p q : ℕ} {s c s_to c_to : ℤ} (giver : HasRow directory b from p s c)
    (taker : HasRow directory b to q s_to c_to) (differs : p ≢ q) where
  -- an amalgamation that would pass the limit
  pub performs_amalgamate_over_limit : ¬ IsWithinLimit ((c_to +ℤ s) +ℤ c) → FollowsProcedure directory (Amalgamate from to) b b OverLimit
  performs_amalgamate_over_limit past =
      let row_from = row_is giver in
      let row_to = row_is taker in
      let names = different_names directory from to p q giver.found taker.found differs in
      let out = past_limit_either ((c_to +ℤ s) +ℤ c) past in
      record { rows = rw (row_from, row_to, names, out) refl; reply = rw (row_from, row_to, names, out) refl; customers = giver.same }

  -- an amalgamation that is executed
  pub performs_amalgamate : IsWithinLimit ((c_to +ℤ s) +ℤ c)
      → FollowsProcedure directory (Amalgamate from to) b (with_checking (with_row b p (pos 0) (pos 0)) q ((c_to +ℤ s) +ℤ c)) Done
  performs_amalgamate fits =
      let row_from = row_is giver in
      let row_to = row_is taker in
      let names = different_names directory from to p q giver.found taker.found differs in
      let in_range = within_limit ((c_to +ℤ s) +ℤ c) fits in
      let zero_fits : IsWithinLimit (pos 0) = record { at_least = omega (arith, ints); at_most = omega (arith, ints) } in
      let emptied : SameCustomers directory (with_row b p (pos 0) (pos 0)) =
      SameCustomers-with_row directory b p (pos 0) (pos 0) giver.same (record { not_negative = omega (arith, ints); within = zero_fits }) zero_fits in
      let kept = HasRow-other directory b to p q s_to c_to (pos 0) (pos 0) taker (λ e. differs (sym e)) emptied in
      record {
        rows = rw (row_from, row_to, names, in_range, ← rows_of-with_both giver (pos 0) (pos 0)) (rows_of-with_checking kept ((c_to +ℤ s) +ℤ c));
        reply = rw (row_from, row_to, names, in_range) refl;
        customers = SameCustomers-with_checking kept ((c_to +ℤ s) +ℤ c) fits;
      }

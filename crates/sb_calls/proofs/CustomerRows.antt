-- The row at the place of a customer.
use Rattle.std.proofs.Common.{◌≡◌, ◌≢◌, ℕ, ◌<◌, ℤ, pos, List, length, get_or, Some, sym, ap, subst, ◌∙◌, arith}
use Rattle.std.specs.Prelude.{slice_get, slice_set}
use Rattle.std.specs.FinMap.{get, insert}
use Rattle.std.proofs.lemmas.List.{set-get_or, length-set, get_or-set_other}
use Rattle.std.proofs.lemmas.List.Elements.{All-set, All-get_or}
use Rattle.std.proofs.lemmas.Option.{get_or_from_slice_get, slice_get-get_or, slice_get_within}
use Rattle.sb_amount.specs.Limit.{IsWithinLimit}
use Rattle.sb_rows.proofs.RowsByPlace.{get-rows_of, rows_of-with_row}
use Rattle.sb_rows.specs.Balances.{Balances, IsSavings}
use Rattle.sb_rows.specs.Directory.{place_of}
use Rattle.sb_rows.specs.Rows.{rows_of, with_row, SameCustomers}

-- the customer of a name is at a place, with these balances
pub record HasRow (directory : List (List ℕ)) (b : Balances) (name : List ℕ) (place : ℕ) (s c : ℤ) : Type 0 where
  pub same : SameCustomers directory b
  pub found : place_of directory name ≡ Some place
  pub savings : slice_get b.savings place ≡ Some s
  pub checking : slice_get b.checking place ≡ Some c

-- a customer whose savings were read has a checking balance too
pub HasRow-savings : (directory : List (List ℕ)) (b : Balances) (name : List ℕ) (place : ℕ) (s : ℤ) → SameCustomers directory b
    → place_of directory name ≡ Some place → slice_get b.savings place ≡ Some s
    → HasRow directory b name place s (get_or b.checking place (pos 0))
HasRow-savings directory b name place s same found savings =
    let lt : place < length b.savings = slice_get_within b.savings place s savings in
    record {
      same = same;
      found = found;
      savings = savings;
      checking = slice_get-get_or b.checking place (pos 0) (omega (arith, same.balances.same));
    }

-- a customer nothing was read of has both balances
pub HasRow-unread : (directory : List (List ℕ)) (b : Balances) (name : List ℕ) (place : ℕ) → SameCustomers directory b → place_of directory name ≡ Some place
    → place < length b.savings
    → HasRow directory b name place (get_or b.savings place (pos 0)) (get_or b.checking place (pos 0))
HasRow-unread directory b name place same found lt =
    HasRow-savings directory b name place (get_or b.savings place (pos 0)) same found (slice_get-get_or b.savings place (pos 0) lt)

-- the balances with other savings at a place
abbrev pub with_savings : Balances → ℕ → ℤ → Balances
with_savings b place s = record b { savings = slice_set b.savings place s }

-- the balances with another checking balance at a place
abbrev pub with_checking : Balances → ℕ → ℤ → Balances
with_checking b place c = record b { checking = slice_set b.checking place c }

-- writing a row in its ranges keeps the customers the same
pub SameCustomers-with_row : (directory : List (List ℕ)) (b : Balances) (place : ℕ) (s c : ℤ) → SameCustomers directory b → IsSavings s → IsWithinLimit c
    → SameCustomers directory (with_row b place s c)
SameCustomers-with_row directory b place s c h saved fits = record {
  names = h.names;
  balances = record {
    same = length-set b.savings place s ∙ h.balances.same ∙ sym (length-set b.checking place c);
    limit = omega (arith, length-set b.savings place s, h.balances.limit);
    savings = All-set IsSavings b.savings place s saved h.balances.savings;
    checking = All-set IsWithinLimit b.checking place c fits h.balances.checking;
  };
  same_length = length-set b.savings place s ∙ h.same_length;
}

-- writing back the value at a place changes nothing
same_set : (xs : List ℤ) (place : ℕ) (x : ℤ) → slice_get xs place ≡ Some x → slice_set xs place x ≡ xs
same_set xs place x e = ap (slice_set xs place) (sym (get_or_from_slice_get xs place x (pos 0) e)) ∙ set-get_or xs place (pos 0)

-- a write at another place leaves the value at a place
other_set : (xs : List ℤ) (place other : ℕ) (x y : ℤ) → other ≢ place → slice_get xs other ≡ Some y → slice_get (slice_set xs place x) other ≡ Some y
other_set xs place other x y differs e =
    let lt : other < length xs = slice_get_within xs other y e in
    slice_get-get_or (slice_set xs place x) other (pos 0) (omega (arith, length-set xs place x))
    ∙ ap Some (get_or-set_other xs place other x (pos 0) differs ∙ get_or_from_slice_get xs other y (pos 0) e)

-- a customer at another place keeps its row
pub HasRow-other : (directory : List (List ℕ)) (b : Balances) (name : List ℕ) (place other : ℕ) (s c s_new c_new : ℤ) → HasRow directory b name other s c
    → other ≢ place → SameCustomers directory (with_row b place s_new c_new)
    → HasRow directory (with_row b place s_new c_new) name other s c
HasRow-other directory b name place other s c s_new c_new h differs same = record {
  same = same;
  found = h.found;
  savings = other_set b.savings place other s_new s differs h.savings;
  checking = other_set b.checking place other c_new c differs h.checking;
}

-- and so it does if checking alone is written
pub HasRow-other_checking : (directory : List (List ℕ)) (b : Balances) (name : List ℕ) (place other : ℕ) (s c c_new : ℤ) → HasRow directory b name other s c
    → other ≢ place → SameCustomers directory (with_checking b place c_new)
    → HasRow directory (with_checking b place c_new) name other s c
HasRow-other_checking directory b name place other s c c_new h differs same = record {
  same = same;
  found = h.found;
  savings = h.savings;
  checking = other_set b.checking place other c_new c differs h.checking;
}

module _ {directory : List (List ℕ)} {b : Balances} {name : List ℕ} {place : ℕ} {s c : ℤ} (h : HasRow directory b name place s c) where
  -- the row of the name
  pub row_is : get (rows_of directory b) name ≡ Some (s, c)
  row_is = get-rows_of directory b name place s c h.same h.found h.savings h.checking

  -- its savings are in their range
  pub savings_within : IsSavings s
  savings_within =
      let read = All-get_or IsSavings b.savings place (pos 0) (slice_get_within b.savings place s h.savings) h.same.balances.savings in
      subst IsSavings (get_or_from_slice_get b.savings place s (pos 0) h.savings) read

  -- its checking balance is in its range
  pub checking_within : IsWithinLimit c
  checking_within =
      let read = All-get_or IsWithinLimit b.checking place (pos 0) (slice_get_within b.checking place c h.checking) h.same.balances.checking in
      subst IsWithinLimit (get_or_from_slice_get b.checking place c (pos 0) h.checking) read

  -- writing both balances at the place writes them to the row
  pub rows_of-with_both : (saved amount : ℤ) → rows_of directory (with_row b place saved amount) ≡ insert (rows_of directory b) name (saved, amount)
  rows_of-with_both saved amount = rows_of-with_row directory b name place saved amount h.same h.found

  -- writing the savings alone is writing them with the checking balance that is there
  with_savings_is : (amount : ℤ) → with_savings b place amount ≡ with_row b place amount c
  with_savings_is amount =
      ap (λ (xs : List ℤ). record { savings = slice_set b.savings place amount; checking = xs }) (sym (same_set b.checking place c h.checking))

  -- and the other way round
  with_checking_is : (amount : ℤ) → with_checking b place amount ≡ with_row b place s amount
  with_checking_is amount =
      ap (λ (xs : List ℤ). record { savings = xs; checking = slice_set b.checking place amount }) (sym (same_set b.savings place s h.savings))

  -- writing the savings at the place writes them to the row
  pub rows_of-with_savings : (amount : ℤ) → rows_of directory (with_savings b place amount) ≡ insert (rows_of directory b) name (amount, c)
  rows_of-with_savings amount = ap (rows_of directory) (with_savings_is amount) ∙ rows_of-with_both amount c

  -- writing the checking balance at the place writes it to the row
  pub rows_of-with_checking : (amount : ℤ) → rows_of directory (with_checking b place amount) ≡ insert (rows_of directory b) name (s, amount)
  rows_of-with_checking amount = ap (rows_of directory) (with_checking_is amount) ∙ rows_of-with_both s amount

  -- writing savings in their range keeps the customers the same
  pub SameCustomers-with_savings : (amount : ℤ) → IsSavings amount → SameCustomers directory (with_savings b place amount)
  SameCustomers-with_savings amount saved =
      subst (SameCustomers directory) (sym (with_savings_is amount)) (SameCustomers-with_row directory b place amount c h.same saved checking_within)

  -- and so does writing a checking balance in its range
  pub SameCustomers-with_checking : (amount : ℤ) → IsWithinLimit amount → SameCustomers directory (with_checking b place amount)
  SameCustomers-with_checking amount fits =
      subst (SameCustomers directory) (sym (with_checking_is amount)) (SameCustomers-with_row directory b place s amount h.same savings_within fits)

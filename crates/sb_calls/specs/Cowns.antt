-- Cowns and their values (When Concurrency Matters, OOPSLA 2023). Cown 2i is the savings and cown
-- 2i + 1 the checking balance of customer i.
use Rattle.std.specs.Prelude.{◌≡◌, ℕ, ◌<◌, ◌*◌, ◌+◌, ◌%◌, ℤ, pos, ◌≤ℤ◌, List, [], ◌∷◌, length, map, slice_set, get_or}
use Rattle.sb_amount.specs.Limit.{IsWithinLimit}
use Rattle.sb_rows.specs.Balances.{Balances}

-- the cown of the savings balance of the customer at this place
abbrev pub savings_cown : ℕ → ℕ
savings_cown place = 2 * place

-- the cown of the checking balance of the customer at this place
abbrev pub checking_cown : ℕ → ℕ
checking_cown place = 2 * place + 1

-- the cowns rise: each is above the one before (by recursion, because proofs go by its cases)
abbrev pub IsRising : List ℕ → Type 0
IsRising [] = Unit {0}
IsRising (cown ∷ []) = Unit {0}
IsRising (first ∷ second ∷ more) = (first < second) × IsRising (second ∷ more)

-- each cown is below a bound (by recursion, for the same reason)
abbrev pub AreBelow : ℕ → List ℕ → Type 0
AreBelow bound [] = Unit {0}
AreBelow bound (cown ∷ cowns) = (cown < bound) × AreBelow bound cowns

-- a value is allowed in a cown: within the limit, and not negative for savings
pub record IsCownValue (cown : ℕ) (value : ℤ) : Type 0 where
  pub within : IsWithinLimit value
  pub not_negative : cown % 2 ≡ 0 → pos 0 ≤ℤ value

-- one allowed value for each cown
abbrev pub AreCownValues : List ℕ → List ℤ → Type 0
AreCownValues [] [] = Unit {0}
AreCownValues [] (value ∷ values) = ⊥
AreCownValues (cown ∷ cowns) [] = ⊥
AreCownValues (cown ∷ cowns) (value ∷ values) = IsCownValue cown value × AreCownValues cowns values

-- what all cowns contain: an allowed value in each
abbrev pub IsContents : List ℤ → Type 0
IsContents contents = (cown : ℕ) → cown < length contents → IsCownValue cown (get_or contents cown (pos 0))

-- the savings and checking balances of all customers, by cown
abbrev pub by_cown : List ℤ → List ℤ → List ℤ
by_cown [] checking = []
by_cown (s ∷ savings) [] = []
by_cown (s ∷ savings) (c ∷ checking) = s ∷ c ∷ by_cown savings checking

-- the contents of all cowns, if the bank has these balances
unfoldable pub contents_of : Balances → List ℤ
contents_of balances = by_cown balances.savings balances.checking

-- what these cowns contain
abbrev pub read_cowns : List ℤ → List ℕ → List ℤ
read_cowns contents cowns = map (λ cown. get_or contents cown (pos 0)) cowns

-- the contents after these values are written to these cowns
abbrev pub write_cowns : List ℤ → List ℕ → List ℤ → List ℤ
write_cowns contents [] values = contents
write_cowns contents (cown ∷ cowns) [] = contents
write_cowns contents (cown ∷ cowns) (value ∷ values) = write_cowns (slice_set contents cown value) cowns values

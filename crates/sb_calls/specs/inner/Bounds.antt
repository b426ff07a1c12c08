-- Sums, differences and cowns against a bound. The laws of an impl may only use specs/, so each
-- step is proved here.
use Rattle.std.specs.Prelude.{◌≡◌, ◌≢◌, ℕ, zero, suc, ◌<◌, ◌≤◌, ◌+◌, ◌-◌, ◌%◌, ◌==◌, nat_lt, ℤ, pos, negsuc, neg_ℤ, ◌+ℤ◌, ◌-ℤ◌, ◌≤ℤ◌, int_lt, Bool, true, false, not, T, ◌⊎◌, refl}
use Rattle.std.specs.Int.Signed.{le_z_yes, lt_z_no}
use Rattle.std.proofs.Common.{ap, sym, subst, ◌∙◌, inl, inr}
use Rattle.std.proofs.Math.Dec.{leb→le, le→leb, lit≤}
use Rattle.std.proofs.Math.IntN.{suc_ℤ, pred_ℤ, +ℤ_idr, +ℤ-suc_ℤ, +ℤ-pred_ℤ, +ℤ-neg_ℤ_cancel, neg_ℤ-suc_ℤ}
use Rattle.std.proofs.Math.Nat.{le_of_lt, le_trans, le-suc, not-suc-le-zero, sub-add_cancel, mul_comm, mul-lt-mul_of_pos_left, add-lt-add_iff_right}
use Rattle.std.proofs.Math.Numerals.{lt-add-one}
use Rattle.std.proofs.lemmas.Bool.{both_ways, cases_order, eq-eqb, false_from_ne_true, lt-ltb, ltb-false, ltb-true}
use Rattle.std.proofs.lemmas.Nat.{mul-add-lt, mod-mul-add}
use Rattle.sb_calls.specs.Cowns.{savings_cown, checking_cown}

-- ---- whole numbers

-- a test that failed
pub at_least : (a b : ℤ) → int_lt b a ≡ false → a ≤ℤ b
at_least a b e = lt_z_no (subst (λ (t : Bool). T (not t)) (sym e) tt)

-- a bound also holds for the next number
below_next : (a b : ℤ) → a ≤ℤ b → a ≤ℤ suc_ℤ b
below_next (pos a) (pos b) h = le_z_yes (le→leb a (suc b) (le_trans (leb→le a b h.le) (le-suc b)))
below_next (pos a) (negsuc b) h = absurd h.le
below_next (negsuc a) (pos b) h = le_z_yes tt
below_next (negsuc a) (negsuc zero) h = le_z_yes tt
below_next (negsuc a) (negsuc (suc b)) h = le_z_yes (le→leb b a (le_of_lt (leb→le (suc b) a h.le)))

-- and for the one below
above_last : (a b : ℤ) → b ≤ℤ a → pred_ℤ b ≤ℤ a
above_last (pos a) (pos zero) h = le_z_yes tt
above_last (pos a) (pos (suc b)) h = le_z_yes (le→leb b a (le_of_lt (leb→le (suc b) a h.le)))
above_last (pos a) (negsuc b) h = le_z_yes tt
above_last (negsuc a) (pos b) h = absurd h.le
above_last (negsuc a) (negsuc b) h = le_z_yes (le→leb a (suc b) (le_trans (leb→le a b h.le) (le-suc b)))

-- what grows stays above a bound
grown : (a v : ℤ) (n : ℕ) → a ≤ℤ v → a ≤ℤ (v +ℤ pos n)
grown a v zero h = subst (λ (x : ℤ). a ≤ℤ x) (sym (+ℤ_idr v)) h
grown a v (suc n) h = subst (λ (x : ℤ). a ≤ℤ x) (sym (+ℤ-suc_ℤ v (pos n))) (below_next a (v +ℤ pos n) (grown a v n h))

-- what falls stays below it
fallen : (a v : ℤ) (n : ℕ) → v ≤ℤ a → (v -ℤ pos n) ≤ℤ a
fallen a v zero h = subst (λ (x : ℤ). x ≤ℤ a) (sym (+ℤ_idr v)) h
fallen a v (suc n) h =
    subst (λ (x : ℤ). x ≤ℤ a) (sym (ap (λ (x : ℤ). v +ℤ x) (neg_ℤ-suc_ℤ (pos n)) ∙ +ℤ-pred_ℤ v (neg_ℤ (pos n))))
    (above_last a (v -ℤ pos n) (fallen a v n h))

-- a sum stays above a bound if the amount isn't negative
pub sum_above : (a v amount : ℤ) → int_lt amount (pos 0) ≡ false → a ≤ℤ v → a ≤ℤ (v +ℤ amount)
sum_above a v (pos n) ge h = grown a v n h
sum_above a v (negsuc n) ge h = absurd (both_ways true ge refl)

pub difference_below : (a v amount : ℤ) → int_lt amount (pos 0) ≡ false → v ≤ℤ a → (v -ℤ amount) ≤ℤ a
difference_below a v (pos n) ge h = fallen a v n h
difference_below a v (negsuc n) ge h = absurd (both_ways true ge refl)

-- an amount that isn't negative stays so with something added
pub more_not_negative : (amount : ℤ) (n : ℕ) → int_lt amount (pos 0) ≡ false → int_lt (amount +ℤ pos n) (pos 0) ≡ false
more_not_negative (pos m) n ge = false_from_ne_true (nat_lt (m + n) 0) (λ e. not-suc-le-zero (ltb-true (m + n) 0 e))
more_not_negative (negsuc m) n ge = absurd (both_ways true ge refl)

-- and is above any negative number
pub not_negative_above : (v : ℤ) (n : ℕ) → int_lt v (pos 0) ≡ false → negsuc n ≤ℤ v
not_negative_above (pos m) n ge = le_z_yes tt
not_negative_above (negsuc m) n ge = absurd (both_ways true ge refl)

-- what is left if at most all is taken
left_of : (m n : ℕ) → n ≤ m → pos m -ℤ pos n ≡ pos (m - n)
left_of m n le = ap (λ (k : ℕ). pos k -ℤ pos n) (sym (sub-add_cancel le)) ∙ +ℤ-neg_ℤ_cancel (pos (m - n)) (pos n)

-- and that is above any negative number too
pub remainder_above : (v amount : ℤ) (n : ℕ) → int_lt amount (pos 0) ≡ false
    → int_lt v amount ≡ false → negsuc n ≤ℤ (v -ℤ amount)
remainder_above (pos m) (pos k) n ge enough =
    subst (λ (x : ℤ). negsuc n ≤ℤ x) (sym (left_of m k (ltb-false m k enough))) (le_z_yes tt)
remainder_above (negsuc m) (pos k) n ge enough = absurd (both_ways true enough refl)
remainder_above v (negsuc k) n ge enough = absurd (both_ways true ge refl)

-- ---- cowns

-- the cown after savings is above it
pub next_above : (n : ℕ) → n < n + 1
next_above n = lt-add-one n

-- the checking cown of a later customer is above that of an earlier one
pub later_checking_above : (from to : ℕ) → nat_lt from to ≡ true → checking_cown from < checking_cown to
later_checking_above from to before =
    (add-lt-add_iff_right 1).1 (mul-lt-mul_of_pos_left (ltb-true from to before) (lit≤ tt))

-- if two customers differ and one isn't first, the other is
pub other_first : (from to : ℕ) → (from == to) ≡ false → nat_lt from to ≡ false → nat_lt to from ≡ true
other_first from to different after = by (cases_order from to)
  where
    by : (from ≡ to) ⊎ ((from < to) ⊎ (to < from)) → nat_lt to from ≡ true
    by (inl e) = absurd (both_ways (from == to) different (eq-eqb from to e))
    by (inr (inl lt)) = absurd (both_ways (nat_lt from to) after (lt-ltb from to lt))
    by (inr (inr lt)) = lt-ltb to from lt

-- and its savings cown too
pub later_savings_above : (from to : ℕ) → (from == to) ≡ false → nat_lt from to ≡ false
    → checking_cown to < savings_cown from
later_savings_above from to different after =
    subst (λ (x : ℕ). x + 1 < savings_cown from) (mul_comm to 2)
    (mul-add-lt to 2 1 from (ltb-true to from (other_first from to different after)) (lit≤ tt))

-- a checking cown is odd
pub checking_cown_odd : (place : ℕ) → checking_cown place % 2 ≢ 0
checking_cown_odd place even =
    let one : 1 ≡ 0 = sym (mod-mul-add place 2 1 (lit≤ tt)) ∙ ap (λ (x : ℕ). (x + 1) % 2) (mul_comm place 2) ∙ even in
    both_ways false refl (eq-eqb 1 0 one)

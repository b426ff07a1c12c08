-- Reading and writing what cowns contain.
use Rattle.std.proofs.Common.{◌≡◌, inl, inr, ℕ, suc, ◌+◌, ◌*◌, ◌/◌, ◌%◌, ◌<◌, ◌≤ℤ◌, ℤ, pos, true, false, List, [], ◌∷◌, length, get_or, refl, sym, ap, subst, ◌∙◌, arith}
use Rattle.std.specs.Prelude.{◌==◌, slice_set}
use Rattle.std.proofs.lemmas.Bool.{cases_Bool, or_cases, or_parts, or_left, or_right, eqb-true, eq-eqb, both_ways, true≢false, cases_eq}
use Rattle.std.proofs.lemmas.List.{get_or-set_same, get_or-set_other, length-set}
use Rattle.std.proofs.lemmas.List.Elements.{All-get_or}
use Rattle.sb_amount.specs.Limit.{IsWithinLimit}
use Rattle.sb_rows.specs.Balances.{Balances, IsBalances, IsSavings}
use Rattle.sb_calls.proofs.CownColumns.{contents_at_savings, contents_at_checking, length-contents_of}
use Rattle.sb_calls.specs.Cowns.{IsContents, AreBelow, contents_of, AreCownValues, IsCownValue, read_cowns, write_cowns}
use Rattle.sb_calls.specs.SerialRun.{is_among, share_cown}

pub eqb-refl : (n : ℕ) → (n == n) ≡ true
eqb-refl n = eq-eqb n n refl

-- two lists that have a cown share it, and a shared cown is in both
pub share_from : (cown : ℕ) (xs ys : List ℕ) → is_among cown xs ≡ true → is_among cown ys ≡ true → share_cown xs ys ≡ true
share_from cown [] ys in_a in_b = absurd (true≢false (sym in_a))
share_from cown (x ∷ xs) ys in_a in_b = elim (or_cases (cown == x) (is_among cown xs) in_a) [
  | inl same ↦ or_left (is_among x ys) (share_cown xs ys) (ap (λ c. is_among c ys) (sym (eqb-true cown x same)) ∙ in_b)
  | inr later ↦ or_right (is_among x ys) (share_cown xs ys) (share_from cown xs ys later in_b)
]

pub shared_cown : (xs ys : List ℕ) → share_cown xs ys ≡ true → (cown : ℕ) × (is_among cown xs ≡ true) × (is_among cown ys ≡ true)
shared_cown [] ys h = absurd (true≢false (sym h))
shared_cown (x ∷ xs) ys h = elim (or_cases (is_among x ys) (share_cown xs ys) h) [
  | inl here ↦ (x, or_left (x == x) (is_among x xs) (eqb-refl x), here)
  | inr later ↦
      let found = shared_cown xs ys later in
      (found.0, or_right (found.0 == x) (is_among found.0 xs) found.1, found.2)
]

pub length-write : (contents : List ℤ) (cowns : List ℕ) (values : List ℤ) → length (write_cowns contents cowns values) ≡ length contents
length-write contents [] values = refl
length-write contents (c ∷ cowns) [] = refl
length-write contents (c ∷ cowns) (v ∷ values) = length-write (slice_set contents c v) cowns values ∙ length-set contents c v

-- a cown that isn't written keeps its value
pub get-write_other : (contents : List ℤ) (cowns : List ℕ) (values : List ℤ) (cown : ℕ) → is_among cown cowns ≡ false
    → get_or (write_cowns contents cowns values) cown (pos 0) ≡ get_or contents cown (pos 0)
get-write_other contents [] values cown out = refl
get-write_other contents (c ∷ cowns) [] cown out = refl
get-write_other contents (c ∷ cowns) (v ∷ values) cown out =
    let parts = or_parts (cown == c) (is_among cown cowns) out in
    get-write_other (slice_set contents c v) cowns values cown parts.1
    ∙ get_or-set_other contents c cown v (pos 0) (λ same. both_ways (cown == c) parts.0 (eq-eqb cown c same))

-- a written cown contains the same, whatever it contained before
pub get-write_same : (a b : List ℤ) (cowns : List ℕ) (values : List ℤ) (cown : ℕ) → is_among cown cowns ≡ true → length values ≡ length cowns
    → cown < length a → cown < length b
    → get_or (write_cowns a cowns values) cown (pos 0) ≡ get_or (write_cowns b cowns values) cown (pos 0)
get-write_same a b [] values cown among long lt_a lt_b = absurd (true≢false (sym among))
get-write_same a b (c ∷ cowns) [] cown among long lt_a lt_b = absurd (omega (arith, long))
get-write_same a b (c ∷ cowns) (v ∷ values) cown among long lt_a lt_b =
    let in_a : cown < length (slice_set a c v) = omega (arith, lt_a, length-set a c v) in
    let in_b : cown < length (slice_set b c v) = omega (arith, lt_b, length-set b c v) in
    elim (cases_Bool (is_among cown cowns)) [
      | inl later ↦ get-write_same (slice_set a c v) (slice_set b c v) cowns values cown later (omega (arith, long)) in_a in_b
      | inr not_later ↦ elim (or_cases (cown == c) (is_among cown cowns) among) [
        | inl same ↦
            let here : cown ≡ c = eqb-true cown c same in
            get-write_other (slice_set a c v) cowns values cown not_later
            ∙ ap (λ k. get_or (slice_set a c v) k (pos 0)) here ∙ get_or-set_same a c v (pos 0) (omega (arith, here, lt_a))
            ∙ sym (get-write_other (slice_set b c v) cowns values cown not_later
            ∙ ap (λ k. get_or (slice_set b c v) k (pos 0)) here ∙ get_or-set_same b c v (pos 0) (omega (arith, here, lt_b)))
        | inr later ↦ absurd (both_ways (is_among cown cowns) not_later later)
      ]
    ]

-- a read of these cowns depends on them alone
pub read-agree : (a b : List ℤ) (cowns : List ℕ) → ((cown : ℕ) → is_among cown cowns ≡ true → get_or a cown (pos 0) ≡ get_or b cown (pos 0))
    → read_cowns a cowns ≡ read_cowns b cowns
read-agree a b [] h = refl
read-agree a b (c ∷ cowns) h =
    ap (λ v. v ∷ read_cowns a cowns) (h c (or_left (c == c) (is_among c cowns) (eqb-refl c)))
    ∙ ap (λ vs. get_or b c (pos 0) ∷ vs) (read-agree a b cowns (λ cown among. h cown (or_right (cown == c) (is_among cown cowns) among)))

-- if all cowns contain allowed values, so do these
pub AreCownValues-read : (contents : List ℤ) (cowns : List ℕ) → IsContents contents → ((cown : ℕ) → is_among cown cowns ≡ true → cown < length contents)
    → AreCownValues cowns (read_cowns contents cowns)
AreCownValues-read contents [] all in_range = tt
AreCownValues-read contents (c ∷ cowns) all in_range = (
  all c (in_range c (or_left (c == c) (is_among c cowns) (eqb-refl c))),
  AreCownValues-read contents cowns all (λ cown among. in_range cown (or_right (cown == c) (is_among cown cowns) among)),
)

IsContents-set : (contents : List ℤ) (c : ℕ) (v : ℤ) → IsContents contents → IsCownValue c v → IsContents (slice_set contents c v)
IsContents-set contents c v all here cown lt =
    let lt_contents : cown < length contents = omega (arith, lt, length-set contents c v) in
    elim (cases_eq cown c) [
      | inl same ↦ subst (λ k. IsCownValue k (get_or (slice_set contents c v) k (pos 0))) (sym same)
          (subst (IsCownValue c) (sym (get_or-set_same contents c v (pos 0) (omega (arith, same, lt_contents)))) here)
      | inr differs ↦ subst (IsCownValue cown) (sym (get_or-set_other contents c cown v (pos 0) differs)) (all cown lt_contents)
    ]

pub IsContents-write : (contents : List ℤ) (cowns : List ℕ) (values : List ℤ) → IsContents contents
    → AreCownValues cowns values → IsContents (write_cowns contents cowns values)
IsContents-write contents [] values all fits = all
IsContents-write contents (c ∷ cowns) [] all fits = all
IsContents-write contents (c ∷ cowns) (v ∷ values) all fits =
    IsContents-write (slice_set contents c v) cowns values (IsContents-set contents c v all fits.0) fits.1

-- as many values as cowns
pub length-AreCownValues : (cowns : List ℕ) (values : List ℤ) → AreCownValues cowns values → length values ≡ length cowns
length-AreCownValues [] [] fits = refl
length-AreCownValues [] (v ∷ values) fits = absurd fits
length-AreCownValues (c ∷ cowns) [] fits = absurd fits
length-AreCownValues (c ∷ cowns) (v ∷ values) fits = ap suc (length-AreCownValues cowns values fits.1)

-- one of several cowns below a bound is below it
pub below_among : (bound : ℕ) (cowns : List ℕ) (cown : ℕ) → AreBelow bound cowns → is_among cown cowns ≡ true → cown < bound
below_among bound [] cown below among = absurd (true≢false (sym among))
below_among bound (c ∷ cowns) cown below among = elim (or_cases (cown == c) (is_among cown cowns) among) [
  | inl same ↦ omega (arith, eqb-true cown c same, below.0)
  | inr later ↦ below_among bound cowns cown below.1 later
]

-- the columns of a bank contain allowed values
pub IsContents-balances : (b : Balances) → IsBalances b → IsContents (contents_of b)
IsContents-balances b valid cown lt =
    let two = length-contents_of b valid.same in
    elim (cases_eq (cown % 2) 0) [
      | inl even ↦
          let at : cown ≡ 2 * (cown / 2) = omega (arith, even) in
          let saved : IsSavings (get_or b.savings (cown / 2) (pos 0)) =
          All-get_or IsSavings b.savings (cown / 2) (pos 0) (omega (arith, lt, two)) valid.savings in
          let here : get_or b.savings (cown / 2) (pos 0) ≡ get_or (contents_of b) cown (pos 0) =
          sym (contents_at_savings b (cown / 2) valid.same) ∙ ap (λ c. get_or (contents_of b) c (pos 0)) (sym at) in
          record { within = subst IsWithinLimit here saved.within; not_negative = λ _. subst (λ v. pos 0 ≤ℤ v) here saved.not_negative }
      | inr odd ↦
          let at : cown ≡ 2 * (cown / 2) + 1 = omega (arith, odd) in
          let within : IsWithinLimit (get_or b.checking (cown / 2) (pos 0)) =
          All-get_or IsWithinLimit b.checking (cown / 2) (pos 0) (omega (arith, lt, two, valid.same)) valid.checking in
          let here : get_or b.checking (cown / 2) (pos 0) ≡ get_or (contents_of b) cown (pos 0) =
          sym (contents_at_checking b (cown / 2) valid.same) ∙ ap (λ c. get_or (contents_of b) c (pos 0)) (sym at) in
          record { within = subst IsWithinLimit here within; not_negative = λ even. absurd (odd even) }
    ]

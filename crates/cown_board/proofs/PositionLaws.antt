-- Laws of the places at which a test holds.
use Rattle.std.proofs.Common.{◌≡◌, ◌≢◌, ◌⊎◌, inl, inr, ℕ, zero, suc, ◌+◌, ◌-◌, ◌<◌, ◌≤◌, Bool, true, false, cond, not, ◌&&◌, Option, Some, List, [], ◌∷◌, ◌++◌, length, length-append, refl, sym, ap, ◌∙◌, arith}
use Rattle.std.specs.Prelude.{◌==◌, slice_get, insert, remove, if◌then◌else◌}
use Rattle.std.proofs.lemmas.Bool.{cases_Bool, cases_eq, cases_lt, cases_order, or_from, or_left, or_right, and_parts, and_from, and_left, and_right, not-true, not_from_false, not_from_true, ne_eqb, eq-eqb}
use Rattle.std.proofs.lemmas.List.Edits.{insert_end, insert-append_left, remove-append_left, remove-append_right}
use Rattle.std.proofs.lemmas.Option.{slice_get_within}
use Rattle.cown_board.specs.Positions.{positions, none_below}
use Rattle.cown_board.specs.inner.PositionTests.{with_position}

pub slice_get-left : {X : Type 0} (xs ys : List X) (i : ℕ) → i < length xs → slice_get (xs ++ ys) i ≡ slice_get xs i
slice_get-left [] ys i lt = absurd (omega (arith, lt))
slice_get-left (x ∷ xs) ys zero lt = refl
slice_get-left (x ∷ xs) ys (suc i) lt = slice_get-left xs ys i (omega (arith, lt))

pub slice_get-right : {X : Type 0} (xs ys : List X) (i j : ℕ) → i ≡ length xs + j → slice_get (xs ++ ys) i ≡ slice_get ys j
slice_get-right [] ys i j e = ap (slice_get ys) (omega (arith, e))
slice_get-right (x ∷ xs) ys zero j e = absurd (omega (arith, e))
slice_get-right (x ∷ xs) ys (suc i) j e = slice_get-right xs ys i j (omega (arith, e))

injective : {A : Type 0} {x y : A} → ◌≡◌ {A = Option A} (Some x) (Some y) → x ≡ y
injective h = cc

-- the place m, if the test holds there
abbrev pub last_place : Bool → ℕ → List ℕ
last_place b m = if b then m ∷ [] else []

-- it is the only one
last_is : (b : Bool) (m p k : ℕ) → slice_get (last_place b m) p ≡ Some k → (k ≡ m) × (b ≡ true) × (p ≡ 0)
last_is true m zero k h = (sym (injective h), refl, refl)
last_is true m (suc p) k h = absurd (omega (arith, slice_get_within (m ∷ []) (suc p) k h))
last_is false m p k h = absurd (omega (arith, slice_get_within [] p k h))

pub append_nothing : {X : Type 0} (xs : List X) → xs ++ [] ≡ xs
append_nothing [] = refl
append_nothing (x ∷ xs) = ap (λ t. x ∷ t) (append_nothing xs)

pub chosen : (b : Bool) (xs : List ℕ) (n : ℕ) → xs ++ (if b then n ∷ [] else []) ≡ (if b then xs ++ n ∷ [] else xs)
chosen true xs n = refl
chosen false xs n = append_nothing xs

pub positions-false : (f : ℕ → Bool) (m : ℕ) → f m ≡ false → positions f (suc m) ≡ positions f m
positions-false f m e = ap (λ b. positions f m ++ (if b then m ∷ [] else [])) e ∙ append_nothing (positions f m)

-- tests that agree have the same places
pub positions-agree : (f g : ℕ → Bool) (m : ℕ) → ((j : ℕ) → j < m → f j ≡ g j) → positions f m ≡ positions g m
positions-agree f g zero h = refl
positions-agree f g (suc m) h =
    ap (λ b. positions f m ++ (if b then m ∷ [] else [])) (h m (omega arith))
    ∙ ap (λ t. t ++ (if g m then m ∷ [] else [])) (positions-agree f g m (λ j lt. h j (omega (arith, lt))))

pub none_below-agree : (f g : ℕ → Bool) (m : ℕ) → ((j : ℕ) → j < m → f j ≡ g j) → none_below f m ≡ none_below g m
none_below-agree f g zero h = refl
none_below-agree f g (suc m) h =
    ap (λ b. none_below f m && not b) (h m (omega arith)) ∙ ap (λ t. t && not (g m)) (none_below-agree f g m (λ j lt. h j (omega (arith, lt))))

no_length : (xs : List ℕ) → length xs ≡ 0 → xs ≡ []
no_length [] h = refl
no_length (x ∷ xs) h = absurd (omega (arith, h))

-- what none_below says about each place
pub none_below_at : (f : ℕ → Bool) (m j : ℕ) → none_below f m ≡ true → j < m → f j ≡ false
none_below_at f zero j h lt = absurd (omega (arith, lt))
none_below_at f (suc m) j h lt =
    let parts = and_parts (none_below f m) (not (f m)) h in
    elim (cases_order j m) [
      | inl same ↦ ap f same ∙ not-true (f m) parts.1
      | inr either ↦ elim either [ inl below ↦ none_below_at f m j parts.0 below | inr above ↦ absurd (omega (arith, above, lt)) ]
    ]

pub none_below_from : (f : ℕ → Bool) (m : ℕ) → ((j : ℕ) → j < m → f j ≡ false) → none_below f m ≡ true
none_below_from f zero h = refl
none_below_from f (suc m) h =
    and_from (none_below f m) (not (f m)) (none_below_from f m (λ j lt. h j (omega (arith, lt)))) (not_from_false (f m) (h m (omega arith)))

-- where a position is: among those below m, or m itself at the end
found_where : (f : ℕ → Bool) (m p k : ℕ) → slice_get (positions f (suc m)) p ≡ Some k
    → ((p < length (positions f m)) × (slice_get (positions f m) p ≡ Some k)) ⊎ ((p ≡ length (positions f m)) × (k ≡ m) × (f m ≡ true))
found_where f m p k h = elim (cases_lt p (length (positions f m))) [
  | inl within ↦ inl (within, sym (slice_get-left (positions f m) (last_place (f m) m) p within) ∙ h)
  | inr past ↦
      let last = last_is (f m) m (p - length (positions f m)) k
      (sym (slice_get-right (positions f m) (last_place (f m) m) p (p - length (positions f m)) (omega (arith, past))) ∙ h) in
      inr (omega (arith, past, last.2), last.0, last.1)
]

-- each of the places is below m, and the test holds there
pub place_is : (f : ℕ → Bool) (m p k : ℕ) → slice_get (positions f m) p ≡ Some k → (k < m) × (f k ≡ true)
place_is f zero p k h = absurd (omega (arith, slice_get_within [] p k h))
place_is f (suc m) p k h = elim (found_where f m p k h) [
  | inl within ↦ let found = place_is f m p k within.1 in (omega (arith, found.0), found.1)
  | inr last ↦ (omega (arith, last.1), ap f last.1 ∙ last.2)
]

-- all but one place
abbrev pub but : (ℕ → Bool) → ℕ → ℕ → Bool
but f k j = f j && not (j == k)

pub but_other : (f : ℕ → Bool) (k j : ℕ) → j ≢ k → but f k j ≡ f j
but_other f k j differs = elim (cases_Bool (f j)) [
  | inl so ↦ and_from (f j) (not (j == k)) so (not_from_false (j == k) (ne_eqb j k differs)) ∙ sym so
  | inr not_so ↦ and_left (f j) (not (j == k)) not_so ∙ sym not_so
]

pub but_same : (f : ℕ → Bool) (k j : ℕ) → j ≡ k → but f k j ≡ false
but_same f k j same = and_right (f j) (not (j == k)) (not_from_true (j == k) (eq-eqb j k same))

remove_last : (xs : List ℕ) (x p : ℕ) → p ≡ length xs → remove (xs ++ x ∷ []) p ≡ xs
remove_last xs x p e =
    let no_more : p - length xs ≡ 0 = omega (arith, e) in
    remove-append_right xs (x ∷ []) (length xs) p refl (omega (arith, e))
    ∙ ap (λ i. xs ++ remove (x ∷ []) i) no_more ∙ append_nothing xs

-- the places without the p-th one
pub positions-remove : (f : ℕ → Bool) (m p k : ℕ) → slice_get (positions f m) p ≡ Some k → positions (but f k) m ≡ remove (positions f m) p
positions-remove f zero p k h = absurd (omega (arith, slice_get_within [] p k h))
positions-remove f (suc m) p k h = elim (found_where f m p k h) [
  | inl within ↦
      let found = place_is f m p k within.1 in
      ap (λ b. positions (but f k) m ++ last_place b m) (but_other f k m (λ same. omega (arith, same, found.0)))
      ∙ ap (λ t. t ++ last_place (f m) m) (positions-remove f m p k within.1)
      ∙ sym (remove-append_left (positions f m) (last_place (f m) m) p within.0)
  | inr last ↦
      ap (λ b. positions (but f k) m ++ last_place b m) (but_same f k m (sym last.1)) ∙ append_nothing (positions (but f k) m)
      ∙ positions-agree (but f k) f m (λ j lt. but_other f k j (λ same. omega (arith, same, last.1, lt)))
      ∙ sym (ap (λ b. remove (positions f m ++ last_place b m) p) last.2 ∙ remove_last (positions f m) m p last.0)
]

-- if the test holds nowhere below m, there is no place
pub positions-none : (f : ℕ → Bool) (m : ℕ) → none_below f m ≡ true → positions f m ≡ []
positions-none f zero h = refl
positions-none f (suc m) h =
    let parts = and_parts (none_below f m) (not (f m)) h in
    positions-false f m (not-true (f m) parts.1) ∙ positions-none f m parts.0

pub none_from_places : (f : ℕ → Bool) (m : ℕ) → positions f m ≡ [] → none_below f m ≡ true
none_from_places f zero h = refl
none_from_places f (suc m) h =
    let empty : length (positions f m ++ last_place (f m) m) ≡ 0 = ap length h in
    let first : positions f m ≡ [] = no_length (positions f m) (omega (arith, empty, length-append (positions f m) (last_place (f m) m))) in
    and_from (none_below f m) (not (f m)) (none_from_places f m first) (not_from_false (f m) (elim (cases_Bool (f m)) [
      | inl so ↦ absurd (omega (arith, ap (λ b. length (positions f m ++ last_place b m)) so, empty, length-append (positions f m) (m ∷ [])))
      | inr not_so ↦ not_so
    ]))

-- the first place
pub place_first : (f : ℕ → Bool) (m k : ℕ) → k < m → f k ≡ true → none_below f k ≡ true → slice_get (positions f m) 0 ≡ Some k
place_first f zero k lt so none = absurd (omega (arith, lt))
place_first f (suc m) k lt so none = elim (cases_order k m) [
  | inl same ↦
      ap (λ t. slice_get (t ++ last_place (f m) m) 0) (positions-none f m (ap (none_below f) (sym same) ∙ none))
      ∙ ap (λ b. slice_get (last_place b m) 0) (ap f (sym same) ∙ so) ∙ ap (λ n. Some n) (sym same)
  | inr either ↦ elim either [
    | inl below ↦
        let first = place_first f m k below so none in
        slice_get-left (positions f m) (last_place (f m) m) 0 (slice_get_within (positions f m) 0 k first) ∙ first
    | inr above ↦ absurd (omega (arith, above, lt))
  ]
]

pub none_before_first : (f : ℕ → Bool) (m k : ℕ) → slice_get (positions f m) 0 ≡ Some k → none_below f k ≡ true
none_before_first f zero k h = absurd (omega (arith, slice_get_within [] 0 k h))
none_before_first f (suc m) k h = elim (found_where f m 0 k h) [
  | inl within ↦ none_before_first f m k within.1
  | inr last ↦ ap (none_below f) last.1 ∙ none_from_places f m (no_length (positions f m) (sym last.0))
]

-- ---- how many places there are

-- 1 if it holds, else 0
abbrev pub one : Bool → ℕ
one b = cond b 1 0

length-last_place : (b : Bool) (m : ℕ) → length (last_place b m) ≡ one b
length-last_place true m = refl
length-last_place false m = refl

pub length-positions : (f : ℕ → Bool) (m : ℕ) → length (positions f (suc m)) ≡ length (positions f m) + one (f m)
length-positions f m = length-append (positions f m) (last_place (f m) m) ∙ ap (λ n. length (positions f m) + n) (length-last_place (f m) m)

-- the same, counted from the first place
pub length-places_first : (f : ℕ → Bool) (m : ℕ) → length (positions f (suc m)) ≡ one (f 0) + length (positions (λ j. f (suc j)) m)
length-places_first f zero = let e = length-positions f 0 in omega (arith, e)
length-places_first f (suc m) =
    let all = length-positions f (suc m) in
    let rest = length-places_first f m in
    let last = length-positions (λ j. f (suc j)) m in
    omega (arith, all, rest, last)

-- if one test holds exactly if one of two others does, its places are as many as theirs together
pub length-places_add : (f g h : ℕ → Bool) (m : ℕ) → ((j : ℕ) → j < m → one (f j) ≡ one (g j) + one (h j))
    → length (positions f m) ≡ length (positions g m) + length (positions h m)
length-places_add f g h zero each = refl
length-places_add f g h (suc m) each =
    let rest = length-places_add f g h m (λ j lt. each j (omega (arith, lt))) in
    let here = each m (omega arith) in
    let a = length-positions f m in
    let b = length-positions g m in
    let c = length-positions h m in
    omega (arith, rest, here, a, b, c)

pub length-places_none : (f : ℕ → Bool) (m : ℕ) → ((j : ℕ) → j < m → f j ≡ false) → length (positions f m) ≡ 0
length-places_none f zero none = refl
length-places_none f (suc m) none =
    let rest = length-places_none f m (λ j lt. none j (omega (arith, lt))) in
    let here : one (f m) ≡ 0 = ap one (none m (omega arith)) in
    let all = length-positions f m in
    omega (arith, rest, here, all)

-- a lower bound has no more places
pub places_fewer : (f : ℕ → Bool) (k m : ℕ) → k ≤ m → length (positions f k) ≤ length (positions f m)
places_fewer f k zero le = let none : k ≡ 0 = omega (arith, le) in rw none (omega arith)
places_fewer f k (suc m) le = elim (cases_eq k (suc m)) [
  | inl same ↦ rw same (omega arith)
  | inr differs ↦
      let rest = places_fewer f k m (omega (arith, le, differs)) in
      let all = length-positions f m in
      omega (arith, rest, all)
]

-- ---- one place more

pub with_place_other : (f : ℕ → Bool) (k j : ℕ) → j ≢ k → with_position f k j ≡ f j
with_place_other f k j differs = elim (cases_Bool (f j)) [
  | inl so ↦ or_left (f j) (j == k) so ∙ sym so
  | inr not_so ↦ or_from (f j) (j == k) not_so (ne_eqb j k differs) ∙ sym not_so
]

pub with_place_same : (f : ℕ → Bool) (k j : ℕ) → j ≡ k → with_position f k j ≡ true
with_place_same f k j same = or_right (f j) (j == k) (eq-eqb j k same)

-- an inserted place comes after those before it
pub positions-insert : (f : ℕ → Bool) (m k : ℕ) → k < m → f k ≡ false → positions (with_position f k) m ≡ insert (positions f m) (length (positions f k)) k
positions-insert f zero k lt out = absurd (omega (arith, lt))
positions-insert f (suc m) k lt out = elim (cases_order k m) [
  | inl same ↦
      let before : positions (with_position f k) m ≡ positions f m =
      positions-agree (with_position f k) f m (λ j below. with_place_other f k j (λ e. omega (arith, e, same, below))) in
      ap (λ b. positions (with_position f k) m ++ last_place b m) (with_place_same f k m (sym same))
      ∙ ap (λ t. t ++ m ∷ []) before
      ∙ sym (insert_end (positions f m) m)
      ∙ ap (λ n. insert (positions f m) (length (positions f m)) n) (sym same)
      ∙ sym (ap (λ n. insert (positions f (suc m)) (length (positions f n)) k) same
      ∙ ap (λ t. insert t (length (positions f m)) k) (positions-false f m (ap f (sym same) ∙ out)))
  | inr either ↦ elim either [
    | inl below ↦
        ap (λ b. positions (with_position f k) m ++ last_place b m) (with_place_other f k m (λ e. omega (arith, e, below)))
        ∙ ap (λ t. t ++ last_place (f m) m) (positions-insert f m k below out)
        ∙ sym (insert-append_left (positions f m) (last_place (f m) m) (length (positions f k)) k (places_fewer f k m (omega (arith, below))))
    | inr above ↦ absurd (omega (arith, above, lt))
  ]
]

-- the first places, this many, are those below k; the others aren't
pub place_below : (f : ℕ → Bool) (m k i n : ℕ) → k ≤ m → i < length (positions f k) → slice_get (positions f m) i ≡ Some n → n < k
place_below f zero k i n le lt here = absurd (omega (arith, slice_get_within [] i n here))
place_below f (suc m) k i n le lt here = elim (cases_eq k (suc m)) [
  | inl same ↦ let found = place_is f (suc m) i n here in omega (arith, same, found.0)
  | inr differs ↦ elim (found_where f m i n here) [
    | inl within ↦ place_below f m k i n (omega (arith, le, differs)) lt within.1
    | inr last ↦ absurd (let less = places_fewer f k m (omega (arith, le, differs)) in omega (arith, less, last.0, lt))
  ]
]

pub place_above : (f : ℕ → Bool) (m k i n : ℕ) → length (positions f k) ≤ i → slice_get (positions f m) i ≡ Some n → k ≤ n
place_above f zero k i n past here = absurd (omega (arith, slice_get_within [] i n here))
place_above f (suc m) k i n past here = elim (found_where f m i n here) [
  | inl within ↦ place_above f m k i n past within.1
  | inr last ↦ elim (cases_lt n k) [
    | inl below ↦ absurd (let less = places_fewer f (suc m) k (omega (arith, last.1, below)) in let all = length-positions f m in
        let here : one (f m) ≡ 1 = ap one last.2 in omega (arith, less, all, here, last.0, past))
    | inr above ↦ above
  ]
]

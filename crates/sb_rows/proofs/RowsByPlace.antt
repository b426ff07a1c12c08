-- Balances by place, read through the directory, are rows by name.
use Rattle.std.proofs.Common.{◌≡◌, ℕ, zero, suc, ◌+◌, ◌<◌, ℤ, Bool, true, false, not, cond, Some, List, [], ◌∷◌, length, get_or, set, slice_get, bytes_eq, refl, sym, ap, ◌∙◌, arith, one-add, length-set}
use Rattle.std.specs.Cmp.Lexicographic.{bytes_decides, slice_cmp}
use Rattle.std.specs.FinMap.{get, find, get-insert, get-from_entries, same_map, slice_cmp-IsAntisymmetric, nat_cmp-IsAntisymmetric}
use Rattle.std.specs.List.{zip, position_or_len}
use Rattle.std.specs.Ordering.{nat_cmp}
use Rattle.std.proofs.Math.Numerals.{one-add}
use Rattle.std.proofs.lemmas.Bool.{both_ways}
use Rattle.std.proofs.lemmas.Cmp.{nat_list_cmp_total}
use Rattle.std.proofs.lemmas.List.Sums.{passes_at_first}
use Rattle.std.proofs.lemmas.Map.Text.{is_eq-slice_cmp}
use Rattle.std.proofs.lemmas.Option.{slice_get_past, get_or_from_slice_get}
use Rattle.std.proofs.lemmas.Slice.Zip.{length-zip}
use Rattle.sb_rows.specs.Balances.{Balances}
use Rattle.sb_rows.specs.Directory.{place_of}
use Rattle.sb_rows.specs.Rows.{rows_of, with_row, SameCustomers, ReadsByPlace, AbsentWithoutPlace, WritesByPlace}
pub use Rattle.sb_rows.proofs.NamePlaces.{place_of_at, place_of_within, place_of_found}
use Rattle.sb_rows.proofs.NamePlaces.{first_at, first_past}

-- ---- elements of pairs

-- two elements at one place are the pair there
slice_get-zip : {A B : Type 0} (xs : List A) (ys : List B) (i : ℕ) (x : A) (y : B) → slice_get xs i ≡ Some x → slice_get ys i ≡ Some y
    → slice_get (zip xs ys) i ≡ Some (x, y)
slice_get-zip [] ys i x y p q = cc
slice_get-zip (a ∷ as') [] i x y p q = cc
slice_get-zip (a ∷ as') (b ∷ bs) zero x y p q = cc
slice_get-zip (a ∷ as') (b ∷ bs) (suc i) x y p q = slice_get-zip as' bs i x y p q

-- two writes at one place write the pair
zip-set : {A B : Type 0} (xs : List A) (ys : List B) (i : ℕ) (x : A) (y : B) → zip (set xs i x) (set ys i y) ≡ set (zip xs ys) i (x, y)
zip-set [] ys i x y = refl
zip-set (a ∷ as') [] zero x y = refl
zip-set (a ∷ as') [] (suc i) x y = refl
zip-set (a ∷ as') (b ∷ bs) zero x y = refl
zip-set (a ∷ as') (b ∷ bs) (suc i) x y = ap (λ es. (a, b) ∷ es) (zip-set as' bs i x y)

-- a read at the place of a write finds the written element
slice_get-set_same : {A : Type 0} (xs : List A) (i : ℕ) (x : A) → i < length xs → slice_get (set xs i x) i ≡ Some x
slice_get-set_same [] i x l = absurd (omega arith)
slice_get-set_same (a ∷ as') zero x l = refl
slice_get-set_same (a ∷ as') (suc i) x l = slice_get-set_same as' i x (omega arith)

-- a read at another place finds the old one
slice_get-set_other : {A : Type 0} (xs : List A) (i j : ℕ) (x : A) → (j ≡ i → ⊥) → slice_get (set xs i x) j ≡ slice_get xs j
slice_get-set_other [] i j x ne = refl
slice_get-set_other (a ∷ as') zero zero x ne = absurd (ne refl)
slice_get-set_other (a ∷ as') zero (suc j) x ne = refl
slice_get-set_other (a ∷ as') (suc i) zero x ne = refl
slice_get-set_other (a ∷ as') (suc i) (suc j) x ne = slice_get-set_other as' i j x (λ e. ne (ap suc e))

-- ---- the row of a name

-- the pair beside the first name that is equal
find-zip : {X : Type 0} (names : List (List ℕ)) (vs : List X) (name : List ℕ) → length names ≡ length vs
    → find (slice_cmp nat_cmp) name (zip names vs) ≡ slice_get vs (position_or_len (bytes_eq name) names)
find-zip [] [] name h = refl
find-zip [] (v ∷ vs) name h = absurd (omega arith)
find-zip (n ∷ ns) [] name h = absurd (omega arith)
find-zip {X} (n ∷ ns) (v ∷ vs) name h =
    let rest = find-zip ns vs name (omega arith) in
    ap (λ b. cond b (Some v) (find (slice_cmp nat_cmp) name (zip ns vs))) (is_eq-slice_cmp name n)
    ∙ at (bytes_eq name n) rest
  where
    at : (b : Bool) → find (slice_cmp nat_cmp) name (zip ns vs) ≡ slice_get vs (position_or_len (bytes_eq name) ns)
        → cond b (Some v) (find (slice_cmp nat_cmp) name (zip ns vs)) ≡ slice_get (v ∷ vs) (cond (not b) (1 + position_or_len (bytes_eq name) ns) 0)
    at true e = refl
    at false e = rw (one-add (position_or_len (bytes_eq name) ns)) e

-- ---- rows

-- the balances of each place
abbrev pairs : Balances → List (ℤ × ℤ)
pairs b = zip b.savings b.checking

-- there are as many pairs as names
length-pairs : (names : List (List ℕ)) (b : Balances) → SameCustomers names b → length names ≡ length (pairs b)
length-pairs names b h = omega (arith, length-zip b.savings b.checking, h.same_length, h.balances.same)

-- a name has the pair at its first place
rows_found : (names : List (List ℕ)) (b : Balances) (name : List ℕ) → length names ≡ length (pairs b)
    → get (rows_of names b) name ≡ slice_get (pairs b) (position_or_len (bytes_eq name) names)
unfolding rows_of
rows_found names b name h = get-from_entries nat_list_cmp_total (zip names (pairs b)) name ∙ find-zip names (pairs b) name h

-- a name at a place has the balances there
pub get-rows_of : ReadsByPlace
get-rows_of names b name place s c h at saved checked =
    rows_found names b name (length-pairs names b h) ∙ ap (slice_get (pairs b)) (first_at names name place at)
    ∙ slice_get-zip b.savings b.checking place s c saved checked

-- a name without a place has none
pub get-rows_of_absent : AbsentWithoutPlace
get-rows_of_absent names b name h none =
    let same = length-pairs names b h in
    let past = first_past names name none in
    rows_found names b name same ∙ slice_get_past (pairs b) (position_or_len (bytes_eq name) names) (omega arith)

-- what a name finds among the pairs after a write at a name's place
find_after : (names : List (List ℕ)) (vs : List (ℤ × ℤ)) (name : List ℕ) (place : ℕ) (v : ℤ × ℤ) (q : List ℕ)
    → length names ≡ length vs → place_of names name ≡ Some place
    → slice_get (set vs place v) (position_or_len (bytes_eq q) names) ≡ cond (bytes_eq q name) (Some v) (slice_get vs (position_or_len (bytes_eq q) names))
find_after names vs name place v q same at = by (bytes_eq q name) refl
  where
    by : (t : Bool) → bytes_eq q name ≡ t
        → slice_get (set vs place v) (position_or_len (bytes_eq q) names) ≡ cond t (Some v) (slice_get vs (position_or_len (bytes_eq q) names))
    by true e =
        let here : position_or_len (bytes_eq q) names ≡ place =
        ap (λ n. position_or_len (bytes_eq n) names) ((bytes_decides q name).0 e) ∙ first_at names name place at in
        let within = place_of_within names name place at in
        ap (slice_get (set vs place v)) here ∙ slice_get-set_same vs place v (omega arith)
    by false e =
        let within = place_of_within names name place at in
        slice_get-set_other vs place (position_or_len (bytes_eq q) names) v (λ here.
        let found = passes_at_first (bytes_eq q) names [] (omega arith) in
        let named : get_or names (position_or_len (bytes_eq q) names) [] ≡ name =
        ap (λ k. get_or names k []) here ∙ get_or_from_slice_get names place name [] (place_of_found names name place at) in
        both_ways (bytes_eq q name) e ((bytes_decides q name).1 ((bytes_decides q (get_or names (position_or_len (bytes_eq q) names) [])).0 found ∙ named)))

-- writing both balances at the place of a name replaces its row
pub rows_of-with_row : WritesByPlace
rows_of-with_row names b name place s c h at =
    let same = length-pairs names b h in
    let written = zip-set b.savings b.checking place s c in
    let same_after : length names ≡ length (pairs (with_row b place s c)) = same ∙ sym (ap length written ∙ length-set (pairs b) place (s, c)) in
    same_map nat_list_cmp_total (slice_cmp-IsAntisymmetric nat_cmp-IsAntisymmetric) _ _ (λ q.
    rows_found names (with_row b place s c) q same_after
    ∙ ap (λ vs. slice_get vs (position_or_len (bytes_eq q) names)) written
    ∙ find_after names (pairs b) name place (s, c) q same at
    ∙ sym (get-insert nat_list_cmp_total (rows_of names b) name (s, c) q
    ∙ ap (λ t. cond t (Some (s, c)) (get (rows_of names b) q)) (is_eq-slice_cmp q name)
    ∙ ap (λ r. cond (bytes_eq q name) (Some (s, c)) r) (rows_found names b q same)))

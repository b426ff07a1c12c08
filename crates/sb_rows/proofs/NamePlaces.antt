-- Places of names in a directory.
use Rattle.std.proofs.Common.{◌≡◌, ℕ, ◌<◌, ◌≤◌, Bool, true, false, cond, Option, Some, None, is_some, List, [], length, get_or, nat_lt, All, slice_get, bytes_eq, refl, sym, ap, ◌∙◌, arith, ltb-false, lt-ltb}
use Rattle.std.specs.List.{list_any, position_or_len}
use Rattle.std.specs.Cmp.Lexicographic.{bytes_decides}
use Rattle.std.proofs.lemmas.Bool.{cond-true, false_from_ne_true}
use Rattle.std.proofs.lemmas.List.Folds.{list_any_none, list_any_at}
use Rattle.std.proofs.lemmas.List.Quantifiers.{position-Some}
use Rattle.std.proofs.lemmas.List.Sums.{fails_before_first, position_or_len_is}
use Rattle.std.proofs.lemmas.Option.{slice_get-get_or, get_or_from_slice_get, slice_get_within}
use Rattle.sb_rows.specs.Directory.{IsDirectory, place_of}

-- what the test of a place says
place_by_test : (b : Bool) (n i : ℕ) → cond b (Some n) None ≡ Some i → n ≡ i
place_by_test true n i e = cc
place_by_test false n i e = cc

none_by_test : (b : Bool) (n : ℕ) → cond b (Some n) None ≡ None → b ≡ false
none_by_test true n e = cc
none_by_test false n e = refl

-- a place is the first one at which the name stands
pub first_at : (names : List (List ℕ)) (name : List ℕ) (i : ℕ) → place_of names name ≡ Some i → position_or_len (bytes_eq name) names ≡ i
first_at names name i e = place_by_test (nat_lt (position_or_len (bytes_eq name) names) (length names)) _ i e

-- a name without a place is at none
pub first_past : (names : List (List ℕ)) (name : List ℕ) → place_of names name ≡ None → length names ≤ position_or_len (bytes_eq name) names
first_past names name e =
    ltb-false (position_or_len (bytes_eq name) names) (length names) (none_by_test (nat_lt (position_or_len (bytes_eq name) names) (length names)) _ e)

-- so no name in the list is equal to it
pub absent_from_place : (names : List (List ℕ)) (name : List ℕ) → place_of names name ≡ None → All (λ other. bytes_eq name other ≡ false) names
absent_from_place names name e k d l =
    let past = first_past names name e in
    fails_before_first (bytes_eq name) names k d (omega arith)

-- a name has a place exactly if it is one of the names
pub has_place : (names : List (List ℕ)) (name : List ℕ) → is_some (place_of names name) ≡ list_any (bytes_eq name) names
has_place names name = by (place_of names name) refl
  where
    by : (r : Option ℕ) → place_of names name ≡ r → is_some r ≡ list_any (bytes_eq name) names
    by None e = sym (list_any_none (bytes_eq name) names (absent_from_place names name e))
    by (Some i) e =
        let at = position-Some (bytes_eq name) names i [] e in
        sym (list_any_at (bytes_eq name) names i [] at.0 at.1)

-- the place of a name is within the list
pub place_of_within : (names : List (List ℕ)) (name : List ℕ) (i : ℕ) → place_of names name ≡ Some i → i < length names
place_of_within names name i e = (position-Some (bytes_eq name) names i [] e).0

-- a name is at its place
pub place_of_found : (names : List (List ℕ)) (name : List ℕ) (i : ℕ) → place_of names name ≡ Some i → slice_get names i ≡ Some name
place_of_found names name i e =
    let at = position-Some (bytes_eq name) names i [] e in
    slice_get-get_or names i [] at.0 ∙ ap Some (sym ((bytes_decides name (get_or names i [])).0 at.1))

-- a place that holds a name is that name's place
pub place_of_at : (names : List (List ℕ)) (i : ℕ) (name : List ℕ) → IsDirectory names → slice_get names i ≡ Some name → place_of names name ≡ Some i
place_of_at names i name h e =
    let within : i < length names = slice_get_within names i name e in
    let there : get_or names i [] ≡ name = get_or_from_slice_get names i name [] e in
    let first : position_or_len (bytes_eq name) names ≡ i = position_or_len_is (bytes_eq name) names i [] (omega arith)
    (λ k l. false_from_ne_true (bytes_eq name (get_or names k [])) (λ t.
    h.different k i [] l within (sym ((bytes_decides name (get_or names k [])).0 t) ∙ sym there)))
    (λ l. (bytes_decides name (get_or names i [])).1 (sym there)) in
    ap (λ n. cond (nat_lt n (length names)) (Some n) None) first
    ∙ cond-true (nat_lt i (length names)) (Some i) None (lt-ltb i (length names) within)

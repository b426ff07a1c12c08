-- Keys by value, and where one stands.
use Rattle.std.proofs.Common.{◌≡◌, ℕ, ◌+◌, ◌≤◌, Bool, true, false, not, cond, nat_lt, Option, Some, None, is_some, unwrap_or, get_or, All, List, [], ◌∷◌, length, map, position, slice_get, refl, sym, ap, ◌∙◌, arith}
use Rattle.std.specs.List.{prefix_len, position_or_len}
use Rattle.std.specs.Map.{keys_of, values_of}
use Rattle.std.specs.Option.{option_map}
use Rattle.std.proofs.lemmas.Bool.{and_parts, and_from, eqb-true, eq-eqb, ltb-false}
use Rattle.std.proofs.lemmas.List.{length-map}
use Rattle.std.proofs.lemmas.List.Folds.{list_any_none, list_any_at}
use Rattle.std.proofs.lemmas.List.Quantifiers.{position-Some}
use Rattle.std.proofs.lemmas.List.Sums.{fails_before_first}
use Rattle.std.proofs.lemmas.Option.{slice_get-get_or, slice_get-map}
use Rattle.sb_calls.specs.declared.ask.Key.{Key}
use Rattle.sb_calls.specs.declared.call.Call.{Call}
use Rattle.sb_sequencer.specs.Numbering.{same_key, has_key, index_of_key}

-- keys that the test finds the same are one
pub same_key_same : (a b : Key) → same_key a b ≡ true → a ≡ b
same_key_same a b e =
    let parts = and_parts _ _ e in
    let client : a.client ≡ b.client = eqb-true a.client b.client parts.0 in
    let request : a.request ≡ b.request = eqb-true a.request b.request parts.1 in
    λ j. record { client = client j; request = request j }

-- and each key is the same as itself
pub same_key_itself : (a : Key) → same_key a a ≡ true
same_key_itself a = and_from _ _ (eq-eqb a.client a.client refl) (eq-eqb a.request a.request refl)

-- a test of each element's image passes as far as the test passes over the images
prefix_len-map : {X Y : Type 0} (f : X → Y) (test : Y → Bool) (xs : List X) → prefix_len test (map f xs) ≡ prefix_len (λ x. test (f x)) xs
prefix_len-map f test [] = refl
prefix_len-map f test (x ∷ xs) = ap (λ n. cond (test (f x)) (1 + n) 0) (prefix_len-map f test xs)

-- a key stands among the keys where its entry stands
pub place_of_key-keys : (log : List (Key × Call)) (key : Key) → position (same_key key) (keys_of log) ≡ index_of_key log key
place_of_key-keys log key =
    λ j. let n = prefix_len-map (λ entry. entry.0) (λ other. not (same_key key other)) log j in
    cond (nat_lt n (length-map log (λ entry. entry.0) j)) (Some n) None

-- what the test of a place tells
none_by_test : (b : Bool) (n : ℕ) → cond b (Some n) None ≡ None → b ≡ false
none_by_test true n e = cc
none_by_test false n e = refl

-- a key without a place is that of no entry
pub absent_without_index : (log : List (Key × Call)) (key : Key) → index_of_key log key ≡ None → All (λ entry. same_key key entry.0 ≡ false) log
absent_without_index log key e k d l =
    let test = λ (entry : Key × Call). same_key key entry.0 in
    let past : length log ≤ position_or_len test log = ltb-false _ _ (none_by_test (nat_lt (position_or_len test log) (length log)) _ e) in
    fails_before_first test log k d (omega arith)

-- a key stands in the log where it has a place
pub has_key-place : (log : List (Key × Call)) (key : Key) → has_key log key ≡ is_some (index_of_key log key)
has_key-place [] key = refl
has_key-place (first ∷ rest) key = by (index_of_key (first ∷ rest) key) refl
  where
    by : (r : Option ℕ) → index_of_key (first ∷ rest) key ≡ r → has_key (first ∷ rest) key ≡ is_some r
    by None e = list_any_none (λ entry. same_key key entry.0) (first ∷ rest) (absent_without_index (first ∷ rest) key e)
    by (Some place) e =
        let there = position-Some (λ entry. same_key key entry.0) (first ∷ rest) place first e in
        list_any_at (λ entry. same_key key entry.0) (first ∷ rest) place first there.0 there.1

-- the call at the key's place is its entry's
pub entry_from_value : (log : List (Key × Call)) (key : Key) (call : Call) (place : ℕ) → index_of_key log key ≡ Some place
    → slice_get (values_of log) place ≡ Some call → slice_get log place ≡ Some (key, call)
entry_from_value log key call place e is =
    let there = position-Some (λ entry. same_key key entry.0) log place (key, call) e in
    let entry = get_or log place (key, call) in
    let at : slice_get log place ≡ Some entry = slice_get-get_or log place (key, call) there.0 in
    let numbered : Some entry.1 ≡ Some call = ap (option_map (λ other. other.1)) (sym at) ∙ sym (slice_get-map (λ other. other.1) log place) ∙ is in
    let numbered_is : entry.1 ≡ call = ap (λ value. unwrap_or value call) numbered in
    let one : key ≡ entry.0 = same_key_same key entry.0 there.1 in
    at ∙ (λ j. Some (sym one j, numbered_is j))

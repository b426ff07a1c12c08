-- How the line of a customer is read, test by test.
use Rattle.std.proofs.Common.{◌≡◌, ℕ, true, false, is_some, Err, List, [], ◌∷◌, length, bytes_eq, sym, ap, ◌∙◌}
use Rattle.std.specs.List.{list_any}
use Rattle.std.proofs.lemmas.List.{length-map}
use Rattle.sb_amount.specs.Reading.{read_money}
use Rattle.sb_rows.specs.Customer.{Customer, names_of}
use Rattle.sb_rows.specs.Directory.{place_of}
use Rattle.sb_rows.specs.Name.{IsName, is_name}
use Rattle.sb_rows.specs.Opening.{customer_of, with_amounts}
use Rattle.sb_rows.proofs.NamePlaces.{has_place}
use Rattle.sb_rows.specs.declared.fault.LineFault.TheVariants.{DoubleName}

-- three words, known one by one
pub three_words : (all rest more : List (List ℕ)) (a b c : List ℕ) → all ≡ a ∷ rest → rest ≡ b ∷ more → more ≡ c ∷ [] → all ≡ a ∷ b ∷ c ∷ []
three_words all rest more a b c first second third = cc

module _ (before : List Customer) (names : List (List ℕ)) (same : names_of before ≡ names) (ws : List (List ℕ)) (word savings checking : List ℕ)
    (three : ws ≡ word ∷ savings ∷ checking ∷ []) where
  -- the name is known exactly if it has a place
  known : list_any (bytes_eq word) (names_of before) ≡ is_some (place_of names word)
  known = ap (list_any (bytes_eq word)) same ∙ sym (has_place names word)

  -- a name that has a place is there already
  pub customer_of-double : (name : List ℕ) → IsName word × (name ≡ word) → is_some (place_of names name) ≡ true
      → customer_of before ws ≡ Err DoubleName
  customer_of-double name valid double =
      let there : is_some (place_of names word) ≡ true = ap (λ n. is_some (place_of names n)) (sym valid.1) ∙ double in
      let is : is_name word ≡ true = valid.0 in
      rw (three, known, there, is)

  -- a new name leaves it to the amounts
  pub customer_of-new : (name : List ℕ) → IsName word × (name ≡ word) → is_some (place_of names name) ≡ false
      → customer_of before ws ≡ with_amounts (length names) name (read_money savings) (read_money checking)
  customer_of-new name valid new =
      let there : is_some (place_of names word) ≡ false = ap (λ n. is_some (place_of names n)) (sym valid.1) ∙ new in
      let is : is_name word ≡ true = valid.0 in
      let count : length before ≡ length names = sym (length-map before (λ (c : Customer). c.name)) ∙ ap length same in
      rw (three, known, there, is, count, valid.1)

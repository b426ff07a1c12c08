-- What is shown of a line at fault, and where it is found.
use Rattle.std.proofs.Common.{◌≡◌, ℕ, zero, suc, ◌+◌, ◌-◌, ◌≤◌, true, false, Option, None, Some, List, [], ◌∷◌, ◌++◌, length, take, min, refl, sym, ap, ap₂, ◌∙◌, append_assoc, arith}
use Rattle.std.specs.Prelude.{Result, Ok, Err, MatchOption, OnOk, nat_eq, codes, option_map, slice_get}
use Rattle.std.specs.List.{flat_map, starts_with}
use Rattle.std.proofs.lemmas.List.{take_min}
use Rattle.bank_program.specs.LineNotes.{has_two_spaces, shown_byte}

-- ---- two spaces

pub two_here : (rest others : List ℕ) (c : ℕ) → rest ≡ c ∷ others → nat_eq c 32 ≡ true → starts_with nat_eq others (32 ∷ []) ≡ true
    → true ≡ has_two_spaces rest
unfolding has_two_spaces
two_here rest others c is space next = rw (is, space, next) refl

pub no_space : (rest others : List ℕ) (c : ℕ) → rest ≡ c ∷ others → nat_eq c 32 ≡ false → has_two_spaces others ≡ has_two_spaces rest
unfolding has_two_spaces
no_space rest others c is other = rw (is, other) refl

pub no_second : (rest others : List ℕ) (c : ℕ) → rest ≡ c ∷ others → nat_eq c 32 ≡ true → starts_with nat_eq others (32 ∷ []) ≡ false
    → has_two_spaces others ≡ has_two_spaces rest
unfolding has_two_spaces
no_second rest others c is space next = rw (is, space, next) refl

pub none_left : (rest : List ℕ) → length rest ≡ 0 → false ≡ has_two_spaces rest
unfolding has_two_spaces
none_left [] none = refl
none_left (c ∷ rest) none = absurd cc

-- ---- the line itself

-- the first bytes of a line are shown behind what was written
pub shown_front : {E : Type 0} (done : Result (Unit {0}) E) (line start mid new : List ℕ) (size : ℕ) → size ≡ min 80 (length line)
    → mid ≡ start ++ codes " is: " → OnOk done (new ≡ mid ++ flat_map shown_byte (take size line))
    → OnOk done (new ≡ start ++ (codes " is: " ++ flat_map shown_byte (take 80 line)))
shown_front (Ok done) line start mid new size fits grown is =
    is ∙ ap₂ (λ (a b : List ℕ). a ++ flat_map shown_byte b) grown (ap (λ (n : ℕ). take n line) fits ∙ take_min 80 line)
    ∙ append_assoc start (codes " is: ") (flat_map shown_byte (take 80 line))
shown_front (Err fault) line start mid new size fits grown is = tt

-- ---- a line by its place

module _ (all left : List (List ℕ)) (before : ℕ) (so_far : (k : ℕ) → slice_get left k ≡ slice_get all (k + before)) where
  -- the lines after the next one
  pub left_next : (after : List (List ℕ)) (line : List ℕ) → left ≡ line ∷ after → (k : ℕ) → slice_get after k ≡ slice_get all (k + (before + 1))
  left_next after line is k =
      ap (λ (lines : List (List ℕ)). slice_get lines (suc k)) (sym is) ∙ so_far (suc k) ∙ ap (λ (n : ℕ). slice_get all n) (omega arith)

  -- no line is left, and so there is none at any later place
  pub left_none : (place : ℕ) → left ≡ [] → before ≤ place → None ≡ slice_get all place
  left_none place none within =
      ap (λ (lines : List (List ℕ)). slice_get lines (place - before)) (sym none) ∙ so_far (place - before)
      ∙ ap (λ (n : ℕ). slice_get all n) (omega (arith, within))

  -- the next line, if there is one, is the one at this place
  pub left_here : {A : Type 0} (line : A → List ℕ) (rest : A → List (List ℕ)) (next : Option A)
      → MatchOption next (left ≡ []) (λ found. left ≡ line found ∷ rest found) → option_map line next ≡ slice_get all before
  left_here line rest None none = left_none before none (omega arith)
  left_here line rest (Some found) is =
      ap (λ (lines : List (List ℕ)). slice_get lines zero) (sym is) ∙ so_far zero ∙ ap (λ (n : ℕ). slice_get all n) (omega arith)

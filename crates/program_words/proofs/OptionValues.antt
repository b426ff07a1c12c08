-- An option's value, from word to word.
use Rattle.std.proofs.Common.{◌≡◌, ◌≢◌, ◌++◌, ◌∷◌, [], List, ℕ, inl, inr, refl, ap, arith, length, length-append, ◌+◌, ◌∙◌}
use Rattle.program_words.specs.Words.{HasValue}

abbrev pub Text : Type 0
Text = List ℕ

cons_head : (x y : Text) (xs ys : List Text) → x ∷ xs ≡ y ∷ ys → x ≡ y
cons_head x y xs ys e = cc

cons_tail : (x y : Text) (xs ys : List Text) → x ∷ xs ≡ y ∷ ys → xs ≡ ys
cons_tail x y xs ys e = cc

not_empty : (before rest : List Text) (x : Text) → [] ≡ before ++ (x ∷ rest) → ⊥
not_empty [] rest x e = cc
not_empty (b ∷ before) rest x e = cc

not_longer : (option value : Text) → option ≢ option ++ (61 ∷ value)
not_longer option value e = let same : length option ≡ length option + length (61 ∷ value) = ap length e ∙ length-append option (61 ∷ value) in
    absurd (omega (arith, same))

-- the next word's value
pub stands-next : (option value : Text) (others : List Text) → HasValue option value (option ∷ value ∷ others)
stands-next option value others = ([], others, inl refl)

-- the value in the same word
pub stands-same : (word option value : Text) (others : List Text) → word ≡ option ++ (61 ∷ value) → HasValue option value (word ∷ others)
stands-same word option value others e = ([], others, inr (ap (λ w. w ∷ others) e))

-- an option has its value with one more word in front, too
pub stands-later : (word option value : Text) (others : List Text) → HasValue option value others → HasValue option value (word ∷ others)
stands-later word option value others (before, after, inl e) = (word ∷ before, after, inl (ap (λ ws. word ∷ ws) e))
stands-later word option value others (before, after, inr e) = (word ∷ before, after, inr (ap (λ ws. word ∷ ws) e))

-- with a word in front that is neither, it has the value that it had
pub stands-only : (word option value : Text) (others : List Text) → word ≢ option → word ≢ option ++ (61 ∷ value)
    → HasValue option value (word ∷ others) → HasValue option value others
stands-only word option value others other bare ([], after, inl e) = absurd (other (cons_head word option others (value ∷ after) e))
stands-only word option value others other bare ([], after, inr e) = absurd (bare (cons_head word (option ++ (61 ∷ value)) others after e))
stands-only word option value others other bare (b ∷ before, after, inl e) =
    (before, after, inl (cons_tail word b others (before ++ (option ∷ value ∷ after)) e))
stands-only word option value others other bare (b ∷ before, after, inr e) =
    (before, after, inr (cons_tail word b others (before ++ ((option ++ (61 ∷ value)) ∷ after)) e))

-- it has no value without words
pub stands-nowhere : (option value : Text) → ¬ (HasValue option value [])
stands-nowhere option value (before, after, inl e) = not_empty before (value ∷ after) option e
stands-nowhere option value (before, after, inr e) = not_empty before after (option ++ (61 ∷ value)) e

-- nor if it is the last word
pub stands-last : (option value : Text) → ¬ (HasValue option value (option ∷ []))
stands-last option value ([], after, inl e) =
    let tails : ◌≡◌ {A = List Text} [] (value ∷ after) = cons_tail option option [] (value ∷ after) e in
    not_empty [] after value tails
stands-last option value ([], after, inr e) = not_longer option value (cons_head option (option ++ (61 ∷ value)) [] after e)
stands-last option value (b ∷ before, after, inl e) = not_empty before (value ∷ after) option (cons_tail option b [] (before ++ (option ∷ value ∷ after)) e)
stands-last option value (b ∷ before, after, inr e)
    = not_empty before after (option ++ (61 ∷ value)) (cons_tail option b [] (before ++ ((option ++ (61 ∷ value)) ∷ after)) e)

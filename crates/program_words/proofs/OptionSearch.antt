-- The value of an option, by the first of the words.
use Rattle.std.proofs.Common.{◌≡◌, ◌≢◌, Bool, true, false, ◌++◌, ◌∷◌, [], List, String, string_bytes, map, refl, sym, ap, subst, arith, length, ◌∙◌}
use Rattle.std.specs.Str.{bytes_eq}
use Rattle.std.proofs.lemmas.Slice.Eq.{bytes_eq-Decides}
use Rattle.program_words.specs.Words.{HasValue, has_word}
use Rattle.program_words.proofs.OptionValues.{Text, stands-next, stands-same, stands-later, stands-only, stands-nowhere, stands-last}

false_unless : (b : Bool) → ¬ (b ≡ true) → b ≡ false
false_unless true wrong = absurd (wrong refl)
false_unless false wrong = refl

module _ {A : Type 0} where
  no_words : (words : List (String A)) → length words ≡ 0 → words ≡ []
  no_words [] none = refl
  no_words (w ∷ words) none = absurd (omega (arith, none))

  -- as texts
  texts : (word : String A) (rest others : List (String A)) → rest ≡ word ∷ others → map string_bytes rest ≡ string_bytes word ∷ map string_bytes others
  texts word rest others first = ap (map string_bytes) first

  pub next_word : (option value : Text) (word next : String A) (rest others more : List (String A)) → rest ≡ word ∷ others → others ≡ next ∷ more
      → string_bytes word ≡ option → value ≡ string_bytes next → HasValue option value (map string_bytes rest)
  next_word option value word next rest others more first second named is =
      let all : map string_bytes rest ≡ option ∷ value ∷ map string_bytes more = texts word rest others first
      ∙ ap (λ t. t ∷ map string_bytes others) named ∙ ap (λ ts. option ∷ ts) (texts next others more second)
      ∙ ap (λ t. option ∷ t ∷ map string_bytes more) (sym is) in
      subst (λ ws. HasValue option value ws) (sym all) (stands-next option value (map string_bytes more))

  pub same_word : (option value : Text) (word : String A) (rest others : List (String A)) → rest ≡ word ∷ others
      → string_bytes word ≡ option ++ (61 ∷ value) → HasValue option value (map string_bytes rest)
  same_word option value word rest others first named =
      subst (λ ws. HasValue option value ws) (sym (texts word rest others first)) (stands-same (string_bytes word) option value (map string_bytes others) named)

  pub later_word : (option value : Text) (word : String A) (rest others : List (String A)) → rest ≡ word ∷ others
      → HasValue option value (map string_bytes others) → HasValue option value (map string_bytes rest)
  later_word option value word rest others first stands =
      subst (λ ws. HasValue option value ws) (sym (texts word rest others first))
      (stands-later (string_bytes word) option value (map string_bytes others) stands)

  pub only_later : (option value : Text) (word : String A) (rest others : List (String A)) → rest ≡ word ∷ others
      → string_bytes word ≢ option → string_bytes word ≢ option ++ (61 ∷ value)
      → HasValue option value (map string_bytes rest) → HasValue option value (map string_bytes others)
  only_later option value word rest others first other bare stands =
      stands-only (string_bytes word) option value (map string_bytes others) other bare
      (subst (λ ws. HasValue option value ws) (texts word rest others first) stands)

  pub last_word : (option value : Text) (word : String A) (rest others : List (String A)) → rest ≡ word ∷ others → length others ≡ 0
      → string_bytes word ≡ option → ¬ (HasValue option value (map string_bytes rest))
  last_word option value word rest others first none named stands =
      let all : map string_bytes rest ≡ option ∷ [] = texts word rest others first
      ∙ ap (λ t. t ∷ map string_bytes others) named ∙ ap (λ ws. option ∷ map string_bytes ws) (no_words others none) in
      stands-last option value (subst (λ ws. HasValue option value ws) all stands)

  pub no_word : (option value : Text) (rest : List (String A)) → length rest ≡ 0 → ¬ (HasValue option value (map string_bytes rest))
  no_word option value rest none stands = stands-nowhere option value (subst (λ ws. HasValue option value (map string_bytes ws)) (no_words rest none) stands)

  -- it is the first of the words
  pub word_here : (word : Text) (first : String A) (rest others : List (String A)) → rest ≡ first ∷ others → string_bytes first ≡ word
      → has_word word (map string_bytes rest) ≡ true
  unfolding has_word
  word_here word first rest others is named =
      let same : bytes_eq (string_bytes first) word ≡ true = (bytes_eq-Decides (string_bytes first) word).1 named in
      rw (is, same) refl

  -- it isn't the first, so it is among the others or not at all
  pub word_behind : (word : Text) (first : String A) (rest others : List (String A)) → rest ≡ first ∷ others → string_bytes first ≢ word
      → has_word word (map string_bytes rest) ≡ has_word word (map string_bytes others)
  unfolding has_word
  word_behind word first rest others is other =
      let differs : bytes_eq (string_bytes first) word ≡ false = false_unless (bytes_eq (string_bytes first) word)
      (λ e. other ((bytes_eq-Decides (string_bytes first) word).0 e)) in
      rw (is, differs) refl

  pub no_words_left : (word : Text) (rest : List (String A)) → length rest ≡ 0 → has_word word (map string_bytes rest) ≡ false
  unfolding has_word
  no_words_left word [] none = refl
  no_words_left word (first ∷ rest) none = absurd cc

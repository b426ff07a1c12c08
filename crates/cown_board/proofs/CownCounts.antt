-- How many of a list of cowns pass a test, counted over all cowns.
use Rattle.std.proofs.Common.{◌≡◌, inl, inr, ℕ, zero, suc, ◌+◌, ◌<◌, Bool, true, false, ◌&&◌, ◌||◌, ◌⊎◌, Some, List, [], ◌∷◌, length, get_or, refl, sym, ap, ◌∙◌, arith}
use Rattle.std.specs.List.{cons_option}
use Rattle.std.specs.Prelude.{◌==◌, slice_get, count_by}
use Rattle.std.proofs.lemmas.Bool.{cases_order, and_left, eqb-true, eq-eqb, ne_eqb, or_cases, or_left, or_parts, or_right, eqb-false, true≢false}
use Rattle.sb_calls.proofs.CownContents.{eqb-refl}
use Rattle.sb_calls.specs.Cowns.{AreBelow, IsRising}
use Rattle.sb_calls.specs.SerialRun.{is_among}
use Rattle.cown_queue.proofs.ListChanges.{IsRising-rest, is_among-rising}
use Rattle.cown_queue.specs.Queues.{front_of, fronts_of, list_of}
use Rattle.cown_board.proofs.FrontLaws.{count-cons}
use Rattle.cown_board.proofs.PositionLaws.{one, length-positions, length-places_add, length-places_none}
use Rattle.cown_queue.specs.inner.Occurrences.{occurrences}
use Rattle.cown_board.specs.inner.Fronts.{is_first}
use Rattle.cown_board.specs.Positions.{positions}

-- one place alone
one_place : (p : ℕ → Bool) (c n : ℕ) → c < n → length (positions (λ x. (x == c) && p x) n) ≡ one (p c)
one_place p c zero lt = absurd (omega (arith, lt))
one_place p c (suc m) lt =
    let all = length-positions (λ x. (x == c) && p x) m in
    elim (cases_order c m) [
      | inl same ↦
          let before = length-places_none (λ x. (x == c) && p x) m (λ x below. and_left (x == c) (p x) (ne_eqb x c (λ e. omega (arith, e, same, below)))) in
          let here : one ((m == c) && p m) ≡ one (p c) =
          ap (λ b. one (b && p m)) (eq-eqb m c (sym same)) ∙ ap (λ x. one (p x)) (sym same) in
          omega (arith, all, before, here)
      | inr either ↦ elim either [
        | inl below ↦
            let before = one_place p c m below in
            let here : one ((m == c) && p m) ≡ 0 = ap one (and_left (m == c) (p m) (ne_eqb m c (λ e. omega (arith, e, below)))) in
            omega (arith, all, before, here)
        | inr above ↦ absurd (omega (arith, above, lt))
      ]
    ]

-- one of two tests that never hold together
split_or : (a b q : Bool) → (a ≡ true → b ≡ false) → one ((a || b) && q) ≡ one (a && q) + one (b && q)
split_or true true q apart = absurd (true≢false (apart refl))
split_or true false true apart = refl
split_or true false false apart = refl
split_or false true true apart = refl
split_or false true false apart = refl
split_or false false q apart = refl

-- a count over a rising list of cowns is the count over all cowns that are in it
pub count_by-positions : (p : ℕ → Bool) (cowns : List ℕ) (n : ℕ) → IsRising cowns → AreBelow n cowns
    → count_by p cowns ≡ length (positions (λ x. is_among x cowns && p x) n)
count_by-positions p [] n rising below = sym (length-places_none (λ x. false && p x) n (λ x lt. refl))
count_by-positions p (c ∷ cowns) n rising below =
    let all = count-cons p c cowns in
    let rest = count_by-positions p cowns n (IsRising-rest c cowns rising) below.1 in
    let first = one_place p c n below.0 in
    let both = length-places_add (λ x. ((x == c) || is_among x cowns) && p x) (λ x. (x == c) && p x) (λ x. is_among x cowns && p x) n
    (λ x lt. split_or (x == c) (is_among x cowns) (p x) (λ same. is_among-rising c cowns x rising (let e = eqb-true x c same in omega (arith, e)))) in
    omega (arith, all, rest, first, both)

-- a number occurs among the fronts of some cowns once for each cown at which it is in front
times-list : (xs : List ℕ) (rest : List ℕ) (j : ℕ) → occurrences j (cons_option (slice_get xs 0) rest) ≡ one (is_first j xs) + occurrences j rest
times-list [] rest j = omega arith
times-list (x ∷ xs) rest j = count-cons (λ n. n == j) x rest

pub occurrences-fronts : (lists : List (List ℕ)) (cowns : List ℕ) (j : ℕ)
    → occurrences j (fronts_of lists cowns) ≡ count_by (λ c. is_first j (list_of lists c)) cowns
occurrences-fronts lists [] j = refl
occurrences-fronts lists (c ∷ cowns) j =
    let all = times-list (list_of lists c) (fronts_of lists cowns) j in
    let rest = occurrences-fronts lists cowns j in
    let other = count-cons (λ c. is_first j (list_of lists c)) c cowns in
    omega (arith, all, rest, other)

-- a number among the fronts is in front at one of the cowns
front_list : (xs : List ℕ) (rest : List ℕ) (j : ℕ) → is_among j (cons_option (slice_get xs 0) rest) ≡ true
    → (slice_get xs 0 ≡ Some j) ⊎ (is_among j rest ≡ true)
front_list [] rest j among = inr among
front_list (x ∷ xs) rest j among = elim (or_cases (j == x) (is_among j rest) among) [
  | inl here ↦ inl (ap (λ y. Some y) (sym (eqb-true j x here)))
  | inr later ↦ inr later
]

pub front_among : (lists : List (List ℕ)) (cowns : List ℕ) (j : ℕ) → is_among j (fronts_of lists cowns) ≡ true
    → (c : ℕ) × (is_among c cowns ≡ true) × (front_of lists c ≡ Some j)
front_among lists [] j among = absurd (true≢false (sym among))
front_among lists (c ∷ cowns) j among = elim (front_list (list_of lists c) (fronts_of lists cowns) j among) [
  | inl here ↦ (c, or_left (c == c) (is_among c cowns) (eqb-refl c), here)
  | inr later ↦
      let found = front_among lists cowns j later in
      (found.0, or_right (found.0 == c) (is_among found.0 cowns) found.1, found.2)
]

-- a number that isn't among them occurs 0 times
pub times_none : (j : ℕ) (xs : List ℕ) → is_among j xs ≡ false → occurrences j xs ≡ 0
times_none j [] out = refl
times_none j (x ∷ xs) out =
    let parts = or_parts (j == x) (is_among j xs) out in
    let here : one (x == j) ≡ 0 = ap one (ne_eqb x j (λ same. eqb-false j x parts.0 (sym same))) in
    let rest = times_none j xs parts.1 in
    let all = count-cons (λ n. n == j) x xs in
    omega (arith, here, rest, all)

-- an element of a list is among them
pub is_among-get : (xs : List ℕ) (k d : ℕ) → k < length xs → is_among (get_or xs k d) xs ≡ true
is_among-get [] k d lt = absurd (omega (arith, lt))
is_among-get (x ∷ xs) zero d lt = or_left (x == x) (is_among x xs) (eqb-refl x)
is_among-get (x ∷ xs) (suc k) d lt = or_right (get_or xs k d == x) (is_among (get_or xs k d) xs) (is_among-get xs k d (omega (arith, lt)))

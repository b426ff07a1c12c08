-- Lists that are read by `get_elem?`, and sums over them.
use Rattle.std.proofs.Common.{◌≡◌, ◌≢◌, ℕ, zero, suc, ◌+◌, ◌<◌, ◌≤◌, List, [], ◌∷◌, ◌++◌, length, get_or, set, refl, sym, ap, ◌∙◌, subst, ⊎_elim, arith}
use mathlib.Core.Option.{some, some-injective, some-ne-none}
use lib.ListN.{get_elem?}
use Rattle.std.specs.Prelude.{sum_by}
use Rattle.std.proofs.lemmas.List.Sums.{sum_by-cons, sum_by-set, get_or-le-sum_by}
use Rattle.crossbeam_queue.proofs.Lists.{at_set, at_snoc, set_else}

module _ {A : Type 0} where
  -- what is there is below the length
  at_place : (l : List A) (i : ℕ) (a d : A) → get_elem? l i ≡ some a → (i < length l) × (get_or l i d ≡ a)
  at_place [] i a d here = absurd (some-ne-none a (sym here))
  at_place (x ∷ xs) zero a d here = (omega arith, some-injective x a here)
  at_place (x ∷ xs) (suc i) a d here = let rest = at_place xs i a d here in (omega (arith, rest.0), rest.1)

  -- the sum after a change of one
  pub sum_by-changed : (f : A → ℕ) (l : List A) (i : ℕ) (a b : A) → get_elem? l i ≡ some a → sum_by f (set l i b) + f a ≡ sum_by f l + f b
  sum_by-changed f l i a b here =
      let position = at_place l i a a here in
      subst (λ (x : A). sum_by f (set l i b) + f x ≡ sum_by f l + f b) position.1 (sum_by-set f l i b a position.0)

  -- each is 0 if the sum is
  each_none : (p : A → ℕ) (l : List A) (i : ℕ) (a : A) → sum_by p l ≡ 0 → get_elem? l i ≡ some a → p a ≡ 0
  each_none p l i a none here =
      let position = at_place l i a a here in
      let most : p (get_or l i a) ≤ sum_by p l = get_or-le-sum_by p l i a position.0 in
      let same : p (get_or l i a) ≡ p a = ap p position.1 in
      omega (arith, most, same, none)

  -- if p is 0 at each, and f is 0 wherever p is, f is 0 in all
  all_none : (p f : A → ℕ) (l : List A) → ((i : ℕ) (a : A) → get_elem? l i ≡ some a → p a ≡ 0 → f a ≡ 0) → sum_by p l ≡ 0 → sum_by f l ≡ 0
  all_none p f [] follows none = refl
  all_none p f (x ∷ xs) follows none =
      let parts = sum_by-cons p x xs in
      let first : f x ≡ 0 = follows zero x refl (omega (arith, parts, none)) in
      let rest : sum_by f xs ≡ 0 = all_none p f xs (λ i a here. follows (suc i) a here) (omega (arith, parts, none)) in
      omega (arith, sum_by-cons f x xs, first, rest)

  -- if one has all of p, the others have nothing of it
  module _ (p : A → ℕ) (l : List A) (i : ℕ) (a spent : A) (nothing : p spent ≡ 0) (here : get_elem? l i ≡ some a) (all : sum_by p l ≡ p a) where
    others_sum : sum_by p (set l i spent) ≡ 0
    others_sum = let change = sum_by-changed p l i a spent here in omega (arith, change, nothing, all)

    pub others_none : (j : ℕ) (b : A) → j ≢ i → get_elem? l j ≡ some b → p b ≡ 0
    others_none j b apart there = each_none p (set l i spent) j b others_sum (set_else l i j spent apart ∙ there)

    -- nor of whatever nobody has without p
    pub sole_sum : (f : A → ℕ) → f spent ≡ 0 → ((j : ℕ) (b : A) → get_elem? l j ≡ some b → p b ≡ 0 → f b ≡ 0) → sum_by f l ≡ f a
    sole_sum f none follows =
        let rest : sum_by f (set l i spent) ≡ 0 = all_none p f (set l i spent)
        (λ j b there. ⊎_elim (λ (x : (j ≡ i) × (spent ≡ b)). λ (_ : p b ≡ 0). ap f (sym x.1) ∙ none)
        (λ (x : (j ≢ i) × (get_elem? l j ≡ some b)). follows j b x.1)
        (at_set l i j spent b there)) others_sum in
        let change = sum_by-changed f l i a spent here in
        omega (arith, change, rest, none)

  -- what holds of each, after a change of one
  pub each_set : (F : ℕ → A → Type 0) (l : List A) (i : ℕ) (b : A) → F i b → ((j : ℕ) (c : A) → j ≢ i → get_elem? l j ≡ some c → F j c)
      → (j : ℕ) (c : A) → get_elem? (set l i b) j ≡ some c → F j c
  each_set F l i b mine others j c there =
      ⊎_elim (λ (x : (j ≡ i) × (b ≡ c)). subst (λ (y : ℕ × A). F y.0 y.1) (λ k. (sym x.0 k, x.1 k)) mine)
      (λ (x : (j ≢ i) × (get_elem? l j ≡ some c)). others j c x.0 x.1) (at_set l i j b c there)

  -- and with one more
  pub each_push : (F : ℕ → A → Type 0) (l : List A) (b : A) → ((j : ℕ) → F j b) → ((j : ℕ) (c : A) → get_elem? l j ≡ some c → F j c)
      → (j : ℕ) (c : A) → get_elem? (l ++ b ∷ []) j ≡ some c → F j c
  each_push F l b new old j c there = ⊎_elim (old j c) (λ (same : b ≡ c). subst (F j) same (new j)) (at_snoc l b c j there)

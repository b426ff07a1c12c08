-- A log run one by one.
use Rattle.std.proofs.Common.{◌≡◌, ℕ, zero, suc, ◌+◌, ◌<◌, ◌≤◌, ℤ, pos, true, false, Option, Some, None, List, [], ◌∷◌, ◌++◌, length, get_or, take, refl, sym, ap, ◌∙◌, arith}
use Rattle.std.specs.Prelude.{slice_get}
use Rattle.std.proofs.lemmas.Bool.{true≢false}
use Rattle.sb_calls.specs.Cowns.{IsContents, AreCownValues, write_cowns}
use Rattle.sb_calls.specs.SerialRun.{is_among, inputs_of, contents_after, contents_after_one, contents_after_first}
use Rattle.sb_calls.specs.declared.reply.Reply.{Reply}
use Rattle.sb_calls.proofs.CownContents.{length-write, get-write_other, AreCownValues-read, IsContents-write}
use Rattle.cown_board.specs.Readiness.{touched_by}
use Rattle.cown_board.specs.inner.BoardInvariant.{touches_at}

pub injective : {A : Type 0} {x y : A} → ◌≡◌ {A = Option A} (Some x) (Some y) → x ≡ y
injective h = cc

pub no_some : {A : Type 0} {x : A} → ◌≡◌ {A = Option A} None (Some x) → ⊥
no_some h = cc

-- there is an element at a place below the length
pub some_at : {A : Type 0} (xs : List A) (j : ℕ) → j < length xs → (x : A) × (slice_get xs j ≡ Some x)
some_at [] j lt = absurd (omega (arith, lt))
some_at (x ∷ xs) zero lt = (x, refl)
some_at (x ∷ xs) (suc j) lt = some_at xs j (omega (arith, lt))

-- one more element of a list
pub take_one_more : {A : Type 0} (xs : List A) (k : ℕ) (x : A) → slice_get xs k ≡ Some x → take (suc k) xs ≡ take k xs ++ x ∷ []
take_one_more [] k x h = absurd (no_some h)
take_one_more (y ∷ xs) zero x h = ap (λ z. z ∷ []) (injective h)
take_one_more (y ∷ xs) (suc k) x h = ap (λ t. y ∷ t) (take_one_more xs k x h)

take_none : {A : Type 0} (xs : List A) (k : ℕ) → slice_get xs k ≡ None → take (suc k) xs ≡ take k xs
take_none [] zero h = refl
take_none [] (suc k) h = refl
take_none (x ∷ xs) zero h = absurd (no_some (sym h))
take_none (x ∷ xs) (suc k) h = ap (λ t. x ∷ t) (take_none xs k h)

take_append : {A : Type 0} (xs ys : List A) (k : ℕ) → k ≤ length xs → take k (xs ++ ys) ≡ take k xs
take_append xs ys zero le = refl
take_append [] ys (suc k) le = absurd (omega (arith, le))
take_append (x ∷ xs) ys (suc k) le = ap (λ t. x ∷ t) (take_append xs ys k (omega (arith, le)))

module _ {B : Type 0} (touches : B → List ℕ) (effect : B → List ℤ → Reply × List ℤ) where
  -- one more behaviour of the log
  pub after_one_more : (opening : List ℤ) (log : List B) (k : ℕ) (b : B) → slice_get log k ≡ Some b
      → contents_after_first touches effect opening log (suc k) ≡ contents_after_one touches effect (contents_after_first touches effect opening log k) b
  after_one_more opening [] k b h = absurd (no_some h)
  after_one_more opening (x ∷ log) zero b h = ap (contents_after_one touches effect opening) (injective h)
  after_one_more opening (x ∷ log) (suc k) b h = after_one_more (contents_after_one touches effect opening x) log k b h

  pub after_no_more : (opening : List ℤ) (log : List B) (k : ℕ) → slice_get log k ≡ None
      → contents_after_first touches effect opening log (suc k) ≡ contents_after_first touches effect opening log k
  after_no_more opening log k h = ap (contents_after touches effect opening) (take_none log k h)

  -- later behaviours don't change what was left before
  pub after-append : (opening : List ℤ) (log more : List B) (k : ℕ) → k ≤ length log
      → contents_after_first touches effect opening (log ++ more) k ≡ contents_after_first touches effect opening log k
  after-append opening log more k le = ap (contents_after touches effect opening) (take_append log more k le)

  pub length-after : (opening : List ℤ) (log : List B) → length (contents_after touches effect opening log) ≡ length opening
  length-after opening [] = refl
  length-after opening (b ∷ log) = length-after (contents_after_one touches effect opening b) log
      ∙ length-write opening (touches b) (effect b (inputs_of touches effect opening b)).1

  -- a cown that a behaviour doesn't declare holds what it held
  untouched_by : (opening : List ℤ) (log : List B) (cown k : ℕ) (o : Option B) → slice_get log k ≡ o → is_among cown (touched_by touches o) ≡ false
      → get_or (contents_after_first touches effect opening log (suc k)) cown (pos 0) ≡ get_or (contents_after_first touches effect opening log k) cown (pos 0)
  untouched_by opening log cown k None e out = ap (λ held. get_or held cown (pos 0)) (after_no_more opening log k e)
  untouched_by opening log cown k (Some b) e out =
      let before = contents_after_first touches effect opening log k in
      ap (λ held. get_or held cown (pos 0)) (after_one_more opening log k b e)
      ∙ get-write_other before (touches b) (effect b (inputs_of touches effect before b)).1 cown out

  -- a cown that no behaviour from i to below k declares holds after k what it holds after i
  pub after_untouched : (opening : List ℤ) (log : List B) (cown i n k : ℕ) → k ≡ i + n
      → ((j : ℕ) → i ≤ j → j < k → touches_at touches effect log cown j ≡ false)
      → get_or (contents_after_first touches effect opening log k) cown (pos 0) ≡ get_or (contents_after_first touches effect opening log i) cown (pos 0)
  after_untouched opening log cown i zero k e h =
      let same : k ≡ i = omega (arith, e) in
      ap (λ j. get_or (contents_after_first touches effect opening log j) cown (pos 0)) same
  after_untouched opening log cown i (suc n) zero e h = absurd (omega (arith, e))
  after_untouched opening log cown i (suc n) (suc k) e h =
      untouched_by opening log cown k (slice_get log k) refl (h k (omega (arith, e)) (omega arith))
      ∙ after_untouched opening log cown i n k (omega (arith, e)) (λ j le lt. h j le (omega (arith, lt)))

  -- whatever the log, the cowns hold allowed values
  pub IsContents-after : (keeps : (b : B) (inputs : List ℤ) → AreCownValues (touches b) inputs → AreCownValues (touches b) (effect b inputs).1)
      → (opening : List ℤ) (log : List B) → IsContents opening → ((k cown : ℕ) → touches_at touches effect log cown k ≡ true → cown < length opening)
      → IsContents (contents_after touches effect opening log)
  IsContents-after keeps opening [] all in_range = all
  IsContents-after keeps opening (b ∷ log) all in_range =
      let outputs = (effect b (inputs_of touches effect opening b)).1 in
      let long : length (write_cowns opening (touches b) outputs) ≡ length opening = length-write opening (touches b) outputs in
      IsContents-after keeps (contents_after_one touches effect opening b) log
      (IsContents-write opening (touches b) outputs all
      (keeps b (inputs_of touches effect opening b) (AreCownValues-read opening (touches b) all (λ cown among. in_range 0 cown among))))
      (λ k cown among. let lt = in_range (suc k) cown among in omega (arith, lt, long))

  in_range_take : (log : List B) (n bound : ℕ) → ((k cown : ℕ) → touches_at touches effect log cown k ≡ true → cown < bound)
      → (k cown : ℕ) → touches_at touches effect (take n log) cown k ≡ true → cown < bound
  in_range_take log zero bound h k cown among = absurd (true≢false (sym among))
  in_range_take [] (suc n) bound h k cown among = absurd (true≢false (sym among))
  in_range_take (b ∷ log) (suc n) bound h zero cown among = h 0 cown among
  in_range_take (b ∷ log) (suc n) bound h (suc k) cown among = in_range_take log n bound (λ j c m. h (suc j) c m) k cown among

  pub IsContents-after_first : (keeps : (b : B) (inputs : List ℤ) → AreCownValues (touches b) inputs → AreCownValues (touches b) (effect b inputs).1)
      → (opening : List ℤ) (log : List B) (n : ℕ) → IsContents opening → ((k cown : ℕ) → touches_at touches effect log cown k ≡ true → cown < length opening)
      → IsContents (contents_after_first touches effect opening log n)
  IsContents-after_first keeps opening log n all in_range =
      IsContents-after keeps opening (take n log) all (in_range_take log n (length opening) in_range)

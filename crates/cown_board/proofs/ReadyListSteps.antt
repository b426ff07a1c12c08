-- A place that steps forward, and a place that is inserted into a rising list.
use Rattle.std.proofs.Common.{◌≡◌, ◌≢◌, inl, inr, ℕ, ◌+◌, ◌-◌, ◌<◌, ◌≤◌, Bool, true, false, ◌&&◌, List, length, get_or, set, take, refl, sym, ap, ◌∙◌, arith}
use Rattle.std.specs.List.Sorted.{IsPartitionedBy, IsPartitionPoint}
use Rattle.std.specs.Prelude.{◌==◌, count_by, insert, nat_lt, slice_get}
use Rattle.std.proofs.lemmas.Bool.{cases_eq, cases_lt, cases_order, and_right, eq-eqb, lt-ltb, ltb-true, ltb-false, ne_eqb}
use Rattle.std.proofs.lemmas.Grind.{common_steps}
use Rattle.std.proofs.lemmas.List.Sums.{count_by_more_no, count_by_more_yes}
use Rattle.std.proofs.lemmas.List.{get_or-set_same, get_or-set_other, get_or_past}
use Rattle.std.proofs.lemmas.Option.{slice_get-get_or}
use Rattle.cown_board.proofs.PositionLaws.{positions-agree, positions-insert, places_fewer, place_above, place_below}
use Rattle.cown_queue.specs.inner.Occurrences.{occurrences}
use Rattle.cown_board.specs.inner.DuePositions.{AreDue, is_due}
use Rattle.cown_board.specs.Positions.{positions}
use Rattle.cown_board.specs.inner.PositionTests.{with_position}

module _ (f : ℕ → Bool) (bound position : ℕ) (below : position < bound) (list : List ℕ) (listed : list ≡ positions f bound) where
  -- the places below it come first
  pub partitioned : IsPartitionedBy (λ other. nat_lt other position) list
  partitioned i j d le lt holds =
      let at_j : slice_get (positions f bound) j ≡ _ = ap (λ xs. slice_get xs j) (sym listed) ∙ slice_get-get_or list j d lt in
      let at_i : slice_get (positions f bound) i ≡ _ = ap (λ xs. slice_get xs i) (sym listed) ∙ slice_get-get_or list i d (omega (arith, le, lt)) in
      let first : j < length (positions f position) = elim (cases_lt j (length (positions f position))) [
        | inl within ↦ within
        | inr past ↦
            absurd (let above = place_above f bound position j (get_or list j d) past at_j in
            let under = ltb-true (get_or list j d) position holds in omega (arith, above, under))
      ] in
      lt-ltb (get_or list i d) position (place_below f bound position i (get_or list i d) (omega (arith, below)) (omega (arith, first, le)) at_i)

  -- and as many as there are
  point_is : (index : ℕ) → index ≤ length list → IsPartitionPoint (λ other. nat_lt other position ≡ true) (λ other. nat_lt other position ≡ false) list index
      → index ≡ length (positions f position)
  point_is index le point = elim (cases_order index (length (positions f position))) [
    | inl same ↦ same
    | inr either ↦ elim either [
      | inl before ↦
          let fewer = places_fewer f position bound (omega (arith, below)) in
          let lt : index < length list = omega (arith, before, fewer, ap length listed) in
          let at : slice_get (positions f bound) index ≡ _ = ap (λ xs. slice_get xs index) (sym listed) ∙ slice_get-get_or list index 0 lt in
          absurd (let under = place_below f bound position index (get_or list index 0) (omega (arith, below)) before at in
          let above = ltb-false (get_or list index 0) position (point.1 index 0 (omega arith) lt) in omega (arith, under, above))
      | inr after ↦
          let count = length (positions f position) in
          let at : slice_get (positions f bound) count ≡ _ = ap (λ xs. slice_get xs count) (sym listed)
          ∙ slice_get-get_or list count 0 (omega (arith, after, le)) in
          absurd (let above = place_above f bound position count (get_or list count 0) (omega arith) at in
          let under = ltb-true (get_or list count 0) position (point.0 count 0 (omega arith) after) in omega (arith, under, above))
    ]
  ]

  -- inserted before the others it is in order
  pub put_there : (index : ℕ) (new : List ℕ) → index ≤ length list
      → IsPartitionPoint (λ other. nat_lt other position ≡ true) (λ other. nat_lt other position ≡ false) list index
      → f position ≡ false → new ≡ insert list index position → new ≡ positions (with_position f position) bound
  put_there index new le point out put =
      put ∙ ap (λ xs. insert xs index position) listed ∙ ap (λ n. insert (positions f bound) n position) (point_is index le point)
      ∙ sym (positions-insert f bound position below out)

-- only a place of the list can be behind
pub behind_within : (behind : List ℕ) (position : ℕ) → 0 < get_or behind position 0 → position < length behind
behind_within behind position some = elim (cases_lt position (length behind)) [
  | inl lt ↦ lt
  | inr past ↦ absurd (omega (arith, some, get_or_past behind position 0 past))
]

module _ (waits : ℕ → Bool) (behind : List ℕ) (position bound : ℕ) (some : 0 < get_or behind position 0) where
  -- a place that is behind isn't due
  pub isnt_due : is_due waits behind position ≡ false
  isnt_due = and_right (waits position) (get_or behind position 0 == 0) (ne_eqb (get_or behind position 0) 0 (λ none. omega (arith, none, some)))

  -- and before that it isn't
  pub not_due_yet : (value : ℕ) (list : List ℕ) → value ≢ 0 → AreDue waits behind bound list → AreDue waits (set behind position value) bound list
  not_due_yet value list more listed =
      listed ∙ positions-agree (is_due waits behind) (is_due waits (set behind position value)) bound (λ j _. elim (cases_eq j position) [
        | inl same ↦
            ap (is_due waits behind) same ∙ isnt_due
            ∙ sym (ap (is_due waits (set behind position value)) same
            ∙ and_right (waits position) (get_or (set behind position value) position 0 == 0)
            (ne_eqb (get_or (set behind position value) position 0) 0
            (λ none. more (sym (get_or-set_same behind position value 0 (behind_within behind position some)) ∙ none))))
        | inr differs ↦ ap (λ n. waits j && (n == 0)) (sym (get_or-set_other behind position j value 0 differs))
      ])

module _ (waits : ℕ → Bool) (behind : List ℕ) (position bound value : ℕ) (within : position < length behind) (none : value ≡ 0)
    (waiting : waits position ≡ true) where
  due_as_put : (j : ℕ) → with_position (is_due waits behind) position j ≡ is_due waits (set behind position value) j
  due_as_put j = elim (cases_eq j position) [
    | inl same ↦ grind (arith, common_steps, get_or-set_same behind position value 0 within)
    | inr differs ↦ grind (arith, common_steps, get_or-set_other behind position j value 0 differs)
  ]

  -- a waiting place that is no longer behind is due
  pub due_now : (list : List ℕ) → list ≡ positions (with_position (is_due waits behind) position) bound
      → AreDue waits (set behind position value) bound list
  due_now list put =
      put ∙ positions-agree (with_position (is_due waits behind) position) (is_due waits (set behind position value)) bound (λ j _. due_as_put j)

-- fewer of the numbers before one that passes do so than of all
fewer_before : (p : ℕ → Bool) (numbers : List ℕ) (i : ℕ) → i < length numbers → p (get_or numbers i 0) ≡ true
    → count_by p (take i numbers) < count_by p numbers
fewer_before p numbers i lt passes = grind (arith, common_steps)

module _ (first behind fronts : List ℕ) (i : ℕ) (lt : i < length fronts)
    (enough : (position : ℕ) → occurrences position fronts ≤ get_or first position 0)
    (counted : (position : ℕ) → get_or behind position 0 + occurrences position (take i fronts) ≡ get_or first position 0) where
  -- the next of the fronts is still behind
  pub still_behind : 0 < get_or behind (get_or fronts i 0) 0
  still_behind =
      let front = get_or fronts i 0 in
      let fewer = fewer_before (λ n. n == front) fronts i lt (eq-eqb front front refl) in
      let all = enough front in
      let so_far = counted front in
      omega (arith, fewer, all, so_far)

  -- and after it the counts are those of the fronts up to it
  pub counted_next : (position : ℕ)
      → get_or (set behind (get_or fronts i 0) (get_or behind (get_or fronts i 0) 0 - 1)) position 0 + occurrences position (take (i + 1) fronts)
      ≡ get_or first position 0
  counted_next position =
      let front = get_or fronts i 0 in
      let value = get_or behind front 0 - 1 in
      let before = counted position in
      elim (cases_eq position front) [
        | inl same ↦
            let more = count_by_more_yes (λ n. n == position) fronts i 0 lt (eq-eqb front position (sym same)) in
            let less : get_or (set behind front value) position 0 ≡ value =
            ap (λ n. get_or (set behind front value) n 0) same ∙ get_or-set_same behind front value 0 (behind_within behind front still_behind) in
            let was : get_or behind position 0 ≡ get_or behind front 0 = ap (λ n. get_or behind n 0) same in
            omega (arith, before, more, less, was, still_behind)
        | inr differs ↦
            let more = count_by_more_no (λ n. n == position) fronts i 0 lt (ne_eqb front position (λ same. differs (sym same))) in
            let stays = get_or-set_other behind front position value 0 differs in
            omega (arith, before, more, stays)
      ]

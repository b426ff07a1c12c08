-- A list read round from a place.
use Rattle.std.proofs.Common.{◌≡◌, inl, inr, ℕ, zero, suc, ◌+◌, ◌-◌, ◌%◌, ◌<◌, ◌≤◌, ◌⊎◌, List, [], ◌∷◌, ◌++◌, length, length-append, take, drop, refl, sym, ap, ◌∙◌, arith, append_assoc, append-nil}
use Rattle.std.specs.Prelude.{replicate, slice_get, slice_set}
use Rattle.std.proofs.Math.Seq.{take-suc-set, take-set-lt, take-length}
use Rattle.std.proofs.lemmas.Bool.{cases_lt}
use Rattle.std.proofs.lemmas.List.{length-take, length-drop, length-set, drop_all, drop-append-le, drop-set-add, drop-set-lt, take-set-le, set-append_left, set-append_right, drop-replicate, take-replicate, replicate-append-replicate}
use Rattle.sb_replica.specs.inner.Rotation.{rotation_from}

pub length-round : {A : Type 0} (start : ℕ) (items : List A) → length (rotation_from start items) ≡ length items
length-round start items =
    omega (arith, length-append (drop start items) (take start items), length-drop start items, length-take start items)

-- a list of one element repeated stays as it is
pub round-replicate : {A : Type 0} (start size : ℕ) (item : A) → start ≤ size → rotation_from start (replicate size item) ≡ replicate size item
round-replicate start size item within =
    ap (λ left. left ++ take start (replicate size item)) (drop-replicate start size item)
    ∙ ap (λ right. replicate (size - start) item ++ right) (take-replicate start size item within)
    ∙ replicate-append-replicate (size - start) start item ∙ ap (λ n. replicate n item) (omega (arith, within))

-- the place that comes this many after a start, counted round
pub record ComesRound (size start more place : ℕ) : Type 0 where
  pub start_in : start < size
  pub more_in : more < size
  pub place_in : place < size
  pub is : (place ≡ start + more) ⊎ (place + size ≡ start + more)

-- by the remainders of their numbers
pub comes_round : (first more : ℕ) → more < 64 → ComesRound 64 (first % 64) more ((first + more) % 64)
comes_round first more within = record {
  start_in = omega arith;
  more_in = within;
  place_in = omega arith;
  is = elim (cases_lt (first % 64 + more) 64) [
    | inl lt ↦ inl (omega (arith, lt, within))
    | inr past ↦ inr (omega (arith, past, within))
  ];
}

module _ {A : Type 0} (items : List A) (start more place : ℕ) (round : ComesRound (length items) start more place) where
  -- what is written there comes this many after the start
  pub round-set : (item : A) → rotation_from start (slice_set items place item) ≡ slice_set (rotation_from start items) more item
  round-set item =
      let size : length (drop start items) ≡ length items - start = length-drop start items in
      elim round.is [
        | inl after ↦
            ap (λ at. rotation_from start (slice_set items at item)) after
            ∙ ap (λ left. left ++ take start (slice_set items (start + more) item)) (drop-set-add start items more item)
            ∙ ap (λ right. slice_set (drop start items) more item ++ right) (take-set-le start items (start + more) item (omega arith))
            ∙ sym (set-append_left (drop start items) (take start items) more item (omega (arith, size, after, round.place_in)))
        | inr before ↦
            ap (λ left. left ++ take start (slice_set items place item)) (drop-set-lt start items place item (omega (arith, before, round.more_in)))
            ∙ ap (λ right. drop start items ++ right) (take-set-lt start items place item (omega (arith, before, round.more_in)))
            ∙ ap (λ at. drop start items ++ slice_set (take start items) at item) (omega (arith, before, round.start_in))
            ∙ sym (set-append_right (drop start items) (take start items) (length items - start) more item size
            (omega (arith, before, round.start_in)))
      ]

slice_get-first : {A : Type 0} (items more : List A) → 0 < length items → slice_get (items ++ more) 0 ≡ slice_get items 0
slice_get-first [] more some = absurd (omega (arith, some))
slice_get-first (item ∷ items) more some = refl

slice_get-drop : {A : Type 0} (items : List A) (start : ℕ) → slice_get (drop start items) 0 ≡ slice_get items start
slice_get-drop items zero = refl
slice_get-drop [] (suc start) = refl
slice_get-drop (item ∷ items) (suc start) = slice_get-drop items start

-- the element at the start is the first
pub round-first : {A : Type 0} (items : List A) (start : ℕ) → start < length items → slice_get (rotation_from start items) 0 ≡ slice_get items start
round-first items start lt =
    slice_get-first (drop start items) (take start items) (omega (arith, length-drop start items, lt)) ∙ slice_get-drop items start

drop-one : {A : Type 0} (start : ℕ) (items : List A) → drop 1 (drop start items) ≡ drop (suc start) items
drop-one zero items = refl
drop-one (suc start) [] = refl
drop-one (suc start) (item ∷ items) = drop-one start items

-- from the next place on, after the first was overwritten: it is then the last
pub round-next : {A : Type 0} (items : List A) (start next : ℕ) (item : A) → ComesRound (length items) start 1 next
    → rotation_from next (slice_set items start item) ≡ drop 1 (rotation_from start items) ++ item ∷ []
round-next items start next item round =
    let written = slice_set items start item in
    let size : length (drop start items) ≡ length items - start = length-drop start items in
    let rest : drop 1 (rotation_from start items) ≡ drop (suc start) items ++ take start items =
    drop-append-le 1 (drop start items) (take start items) (omega (arith, size, round.start_in))
    ∙ ap (λ left. left ++ take start items) (drop-one start items) in
    let front : take (suc start) written ≡ take start items ++ item ∷ [] = take-suc-set items start item round.start_in in
    elim round.is [
      | inl after ↦
          let second : next ≡ suc start = omega (arith, after) in
          ap (λ at. rotation_from at written) second
          ∙ ap (λ left. left ++ take (suc start) written) (drop-set-lt (suc start) items start item (omega arith))
          ∙ ap (λ right. drop (suc start) items ++ right) front
          ∙ sym (ap (λ left. left ++ item ∷ []) rest ∙ append_assoc (drop (suc start) items) (take start items) (item ∷ []))
      | inr before ↦
          let last : suc start ≡ length items = omega (arith, before, round.start_in) in
          let again : next ≡ 0 = omega (arith, before, last) in
          let all : length written ≡ suc start = length-set items start item ∙ sym last in
          ap (λ at. rotation_from at written) again
          ∙ append-nil written ∙ sym (take-length written)
          ∙ ap (λ n. take n written) all ∙ front
          ∙ sym (ap (λ left. left ++ item ∷ []) (rest ∙ ap (λ left. left ++ take start items) (drop_all (suc start) items (omega (arith, last)))))
    ]

-- What the first bytes of a head state.
use Rattle.std.proofs.Common.{◌≡◌, ◌≢◌, ℕ, ◌+◌, ◌-◌, ◌<◌, ◌^◌, min, zero, suc, List, [], ◌∷◌, ◌++◌, length, get_or, take, drop, refl, sym, ap, ◌∙◌, arith, append_assoc, length-take, inl, inr}
use Rattle.std.specs.Int.{w32, from_be_bytes, to_be_bytes}
use Rattle.std.proofs.lemmas.Bool.{cases_lt}
use Rattle.std.proofs.lemmas.List.{append-nil, drop_all, get_or-append_right, get_or-drop, get_or-take, get_or_append_left, take_all, take_at, take-append-drop, take-append-le, take_min, take-take}
use Rattle.std.proofs.lemmas.Nat.{be_bytes_4}
use Rattle.sb_log.specs.Reading.{Begins}
use Rattle.sb_log.specs.Records.{size_field}
use Rattle.sb_log.proofs.Records.{field_states}

abbrev pub zeros : List ℕ
zeros = 0 ∷ 0 ∷ 0 ∷ 0 ∷ []

-- the first bytes of a head, as many as are compared
pub front_is : (head : List ℕ) (n : ℕ) → n ≡ min (length head) 8 → take n head ≡ take 8 head
front_is head n is = ap (λ k. take k head) (omega (arith, is)) ∙ take_min 8 head

pub states : (head field : List ℕ) (n : ℕ) → n ≡ min (length head) 8 → take n head ≡ take n field → Begins (take 8 head) field
states head field n is same =
    (drop n field, sym (take-append-drop n field) ∙ ap (λ (l : List ℕ). l ++ drop n field) (sym same ∙ front_is head n is))

-- a field begins with the bytes that its size was read of
field_begins : (first : List ℕ) (size : ℕ) → length first ≡ 4 → ((i : ℕ) → get_or first i 0 < 256) → size ≡ from_be_bytes w32 first
    → (more : List ℕ) × (size_field size ≡ first ++ more)
unfolding size_field
field_begins first size long bytes is =
    (to_be_bytes w32 (2 ^ 32 - 1 - size), ap (λ (l : List ℕ). l ++ to_be_bytes w32 (2 ^ 32 - 1 - size)) (be_bytes_4 first size long bytes is))

pub states_none : (head first : List ℕ) (size n : ℕ) → first ≡ take 4 head ++ drop (length head) zeros → length first ≡ 4
    → ((i : ℕ) → get_or first i 0 < 256) → size ≡ from_be_bytes w32 first → n ≡ min (length head) 8
    → take n head ≢ take n (size_field size)
    → (other : ℕ) → other < 2 ^ 32 → Begins (take 8 head) (size_field other) → ⊥
states_none head first size n first_is long bytes is n_is differs other fits begins = elim (cases_lt (length head) 4) [
  | inl lt ↦
      let field = field_begins first size long bytes is in
      let whole : first ≡ head ++ drop (length head) zeros =
      first_is ∙ ap (λ (l : List ℕ). l ++ drop (length head) zeros) (take_all 4 head (omega (arith, lt))) in
      let all : size_field size ≡ head ++ (drop (length head) zeros ++ field.0) =
      field.1 ∙ ap (λ (l : List ℕ). l ++ field.0) whole ∙ append_assoc head (drop (length head) zeros) field.0 in
      differs (take_all n head (omega (arith, n_is, lt))
      ∙ sym (ap (λ (l : List ℕ). take n l) all ∙ take_at head (drop (length head) zeros ++ field.0) n (omega (arith, n_is, lt))))
  | inr le ↦
      let first_four : first ≡ take 4 head =
      first_is ∙ ap (λ (l : List ℕ). take 4 head ++ l) (drop_all (length head) zeros (omega (arith, le))) ∙ append-nil (take 4 head) in
      let four : take 4 (size_field other ++ []) ≡ first =
      ap (λ (l : List ℕ). take 4 l) (append-nil (size_field other) ∙ begins.1)
      ∙ take-append-le 4 (take 8 head) begins.0 (omega (arith, le, length-take 8 head)) ∙ take-take 4 8 head (omega arith) ∙ sym first_four in
      let same : other ≡ size = sym (field_states other [] fits) ∙ ap (λ (l : List ℕ). from_be_bytes w32 l) four ∙ sym is in
      differs (front_is head n n_is
      ∙ sym (ap (λ (k : ℕ). take n (size_field k)) (sym same) ∙ ap (λ (l : List ℕ). take n l) begins.1
      ∙ take_at (take 8 head) begins.0 n (omega (arith, n_is, length-take 8 head))))
]

zeros_are : (n : ℕ) → get_or zeros n 0 ≡ 0
zeros_are zero = refl
zeros_are (suc zero) = refl
zeros_are (suc (suc zero)) = refl
zeros_are (suc (suc (suc zero))) = refl
zeros_are (suc (suc (suc (suc n)))) = refl

-- the first bytes are bytes
pub bytes_of_first : (head first : List ℕ) → first ≡ take 4 head ++ drop (length head) zeros → ((i : ℕ) → get_or head i 0 < 256)
    → (i : ℕ) → get_or first i 0 < 256
bytes_of_first head first is bytes i =
    let front = take 4 head in
    let tail = drop (length head) zeros in
    elim (cases_lt i (length front)) [
      | inl lt ↦
          let e : get_or first i 0 ≡ get_or head i 0 =
          ap (λ (l : List ℕ). get_or l i 0) is ∙ get_or_append_left front tail 0 i lt ∙ get_or-take 4 head i 0 (omega (arith, lt, length-take 4 head)) in
          omega (arith, e, bytes i)
      | inr le ↦
          let e : get_or first i 0 ≡ 0 =
          ap (λ (l : List ℕ). get_or l i 0) is ∙ get_or-append_right front tail (length front) i 0 refl le
          ∙ get_or-drop (length head) zeros (i - length front) 0 ∙ zeros_are (length head + (i - length front)) in
          omega (arith, e)
    ]

-- What is undone, and the first of it.
use Rattle.std.proofs.Common.{◌≡◌, ◌⊎◌, inl, inr, Bool, true, false, not, ◌&&◌, ℕ, zero, suc, ◌<◌, Option, Some, None, List, [], ◌∷◌, length, replicate, refl, sym, ap, ◌∙◌, arith}
use Rattle.std.specs.Prelude.{slice_get, slice_set, count_by, if◌then◌else◌}
use Rattle.std.proofs.lemmas.Bool.{true≢false, cases_Bool, and_from, and_left, not_from_false}
use Rattle.cown_board.proofs.PositionLaws.{none_below_at, none_below_from, place_first}
use Rattle.cown_board.specs.Positions.{none_below}
use Rattle.schedule_player.specs.Bank.{BankOf}
use Rattle.schedule_player.specs.Readiness.{stage_is, conflict_between, may_run, runnable_entries}
use Rattle.schedule_player.specs.Stage.{Stage, Waits, IsOut, IsDone, waits, is_undone}
use Rattle.cown_board.proofs.LogLaws.{no_some as none_some}
use Rattle.cown_board.proofs.LogLaws.{injective as some_is}
use Rattle.schedule_player.proofs.boards.Stages.{count_more}

-- an entry that becomes done makes one less undone
pub undone-set : (stages : List Stage) (k : ℕ) (stage : Stage) → slice_get stages k ≡ Some stage → is_undone stage ≡ true
    → suc (count_by is_undone (slice_set stages k IsDone)) ≡ count_by is_undone stages
undone-set [] k stage here undone = absurd (none_some here)
undone-set (x ∷ xs) zero stage here undone =
    let all = count_more is_undone x xs in
    let left = count_more is_undone IsDone xs in
    let one : ◌≡◌ {A = ℕ} (if is_undone x then 1 else 0) 1 = ap (λ b. if b then 1 else 0) (ap is_undone (some_is here) ∙ undone) in
    omega (arith, all, left, one)
undone-set (x ∷ xs) (suc k) stage here undone =
    let all = count_more is_undone x xs in
    let left = count_more is_undone x (slice_set xs k IsDone) in
    let rest = undone-set xs k stage here undone in
    omega (arith, all, left, rest)

-- if none is undone all are done
pub all_done : (stages : List Stage) → count_by is_undone stages ≡ 0 → stages ≡ replicate (length stages) IsDone
all_done [] none = refl
all_done (Waits ∷ stages) none = absurd (let all = count_more is_undone Waits stages in omega (arith, all, none))
all_done (IsOut ∷ stages) none = absurd (let all = count_more is_undone IsOut stages in omega (arith, all, none))
all_done (IsDone ∷ stages) none =
    ap (λ s. IsDone ∷ s) (all_done stages (let all = count_more is_undone IsDone stages in omega (arith, all, none)))

none_undone : (stages : List Stage) → ((k : ℕ) → k < length stages → stage_is is_undone (slice_get stages k) ≡ false)
    → count_by is_undone stages ≡ 0
none_undone [] none = refl
none_undone (x ∷ xs) none =
    let all = count_more is_undone x xs in
    let first : ◌≡◌ {A = ℕ} (if is_undone x then 1 else 0) 0 = ap (λ b. if b then 1 else 0) (none 0 (omega arith)) in
    let rest = none_undone xs (λ k lt. none (suc k) (omega (arith, lt))) in
    omega (arith, all, first, rest)

-- no entry is undone, or there is a first one
least : (f : ℕ → Bool) (m : ℕ) → (none_below f m ≡ true) ⊎ ((k : ℕ) × (k < m) × (f k ≡ true) × (none_below f k ≡ true))
least f zero = inl refl
least f (suc m) = elim (least f m) [
  | inl none ↦ elim (cases_Bool (f m)) [
    | inl so ↦ inr (m, omega arith, so, none)
    | inr not_so ↦ inl (and_from (none_below f m) (not (f m)) none (not_from_false (f m) not_so))
  ]
  | inr found ↦ let lt = found.1 in inr (found.0, omega (arith, lt), found.2, found.3)
]

waits_then : (stage : Option Stage) → stage_is is_undone stage ≡ true → (stage ≡ Some IsOut → ⊥) → stage ≡ Some Waits
waits_then None undone not_out = absurd (true≢false (sym undone))
waits_then (Some Waits) undone not_out = refl
waits_then (Some IsOut) undone not_out = absurd (not_out refl)
waits_then (Some IsDone) undone not_out = absurd (true≢false (sym undone))

waits_not : (stage : Option Stage) → stage_is is_undone stage ≡ false → stage_is waits stage ≡ false
waits_not None not_undone = refl
waits_not (Some Waits) not_undone = not_undone
waits_not (Some IsOut) not_undone = refl
waits_not (Some IsDone) not_undone = refl

-- if nothing is out and something is undone, the first that may run is one that waits
pub first_runs : (bank : BankOf) (stages : List Stage) → ((k : ℕ) → slice_get stages k ≡ Some IsOut → ⊥) → 0 < count_by is_undone stages
    → (k : ℕ) × (slice_get stages k ≡ Some Waits) × (slice_get (runnable_entries bank stages) 0 ≡ Some k)
unfolding runnable_entries
first_runs bank stages none_out some =
    let undone : ℕ → Bool = λ j. stage_is is_undone (slice_get stages j) in
    elim (least undone (length stages)) [
      | inl none ↦
          absurd (let no = none_undone stages (λ k lt. none_below_at undone (length stages) k none lt) in omega (arith, no, some))
      | inr found ↦
          let k = found.0 in
          let here = waits_then (slice_get stages k) found.2 (none_out k) in
          let runs : may_run bank stages k ≡ true =
          and_from (stage_is waits (slice_get stages k)) (none_below (λ j. undone j && conflict_between bank j k) k) (ap (stage_is waits) here)
          (none_below_from (λ j. undone j && conflict_between bank j k) k
          (λ j lt. and_left (undone j) (conflict_between bank j k) (none_below_at undone k j found.3 lt))) in
          let before : none_below (may_run bank stages) k ≡ true =
          none_below_from (may_run bank stages) k (λ j lt. and_left (stage_is waits (slice_get stages j))
          (none_below (λ i. undone i && conflict_between bank i j) j) (waits_not (slice_get stages j) (none_below_at undone k j found.3 lt))) in
          (k, here, place_first (may_run bank stages) (length stages) k found.1 runs before)
    ]

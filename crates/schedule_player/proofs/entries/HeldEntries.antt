-- The entries that a replica holds, compared with the log.
use Rattle.std.proofs.Common.{◌≡◌, inl, inr, ℕ, zero, suc, ◌+◌, ◌<◌, false, Option, Some, None, List, [], ◌∷◌, ◌++◌, length, map, drop, replicate, refl, sym, ap, subst, ◌∙◌, arith}
use Rattle.std.specs.Prelude.{slice_get, slice_set, is_some}
use Rattle.std.proofs.lemmas.Bool.{cases_eq}
use Rattle.std.proofs.lemmas.List.{length-set, map-append}
use Rattle.std.proofs.lemmas.Option.{slice_get_within}
use Rattle.cown_board.proofs.PositionLaws.{slice_get-left}
use Rattle.cown_board.proofs.StateChanges.{slice_get-set_same, slice_get-set_other}
use Rattle.sb_calls.specs.declared.op.Op.{Op}
use Rattle.sb_replica.specs.Log.{none_held as empty_held}
use Rattle.sb_replica.specs.declared.replica_log.TheConstants.{HELD_ENTRIES}
use Rattle.schedule_player.specs.ReplicaOfLog.{AreHeldOfLog}
use Rattle.schedule_player.specs.ReplicaMoves.{empty_buffer}
use Rattle.schedule_player.proofs.Lists.{pushed_cases}
use Rattle.cown_board.proofs.LogLaws.{no_some as none_some}
use Rattle.cown_board.proofs.LogLaws.{injective as some_is}

-- this many places without an op
nothing_held : (held : List (Option Op)) → held ≡ empty_held → held ≡ replicate HELD_ENTRIES None
unfolding empty_held
nothing_held held is = is

pub after_first : {A : Type 0} (xs : List A) (k : ℕ) → slice_get (drop 1 xs) k ≡ slice_get xs (suc k)
after_first [] k = refl
after_first (x ∷ xs) k = refl

module _ (log : List Op) where
  -- none is held
  pub none_along : (size : ℕ) (held : List (Option Op)) → held ≡ empty_held → AreHeldOfLog log size held
  none_along size held is k op here =
      absurd (nothing_at HELD_ENTRIES k (ap (λ all. slice_get all k) (sym (nothing_held held is)) ∙ here))
    where
      nothing_at : (n k : ℕ) → slice_get (replicate n None) k ≡ Some (Some op) → ⊥
      nothing_at zero k at = none_some at
      nothing_at (suc n) zero at = none_some (some_is at)
      nothing_at (suc n) (suc k) at = nothing_at n k at

  -- one more is held
  pub one_along : (size : ℕ) (held : List (Option Op)) (place : ℕ) (op : Op) → AreHeldOfLog log size held
      → slice_get log (size + place) ≡ Some op → AreHeldOfLog log size (slice_set held place (Some op))
  one_along size held place op are at k other here = elim (cases_eq place k) [
    | inl same ↦
        let within : place < length held =
        subst (λ n. n < length held) (sym same)
        (subst (λ n. k < n) (length-set held place (Some op)) (slice_get_within (slice_set held place (Some op)) k (Some other) here)) in
        let is : Some op ≡ Some other =
        some_is (sym (slice_get-set_same held place (Some op) within) ∙ ap (slice_get (slice_set held place (Some op))) same ∙ here) in
        ap (λ p. slice_get log (size + p)) (sym same) ∙ at ∙ is
    | inr differs ↦ are k other (sym (slice_get-set_other held place k (Some op) (λ e. differs (sym e))) ∙ here)
  ]

  -- the next one is accepted, and the others move up one place
  pub moved_along : (size : ℕ) (held : List (Option Op)) → AreHeldOfLog log size held → AreHeldOfLog log (size + 1) (drop 1 held ++ None ∷ [])
  moved_along size held are k op here = elim (pushed_cases (drop 1 held) None k (Some op) here) [
    | inl there ↦
        let e : size + suc k ≡ size + 1 + k = omega arith in
        subst (λ n. slice_get log n ≡ Some op) e (are (suc k) op (sym (after_first held k) ∙ there))
    | inr last ↦ absurd (none_some last.1)
  ]

  -- the log goes on
  pub held_longer : (more : List Op) (size : ℕ) (held : List (Option Op)) → AreHeldOfLog log size held → AreHeldOfLog (log ++ more) size held
  held_longer more size held are k op here =
      let at = are k op here in
      slice_get-left log more (size + k) (slice_get_within log (size + k) op at) ∙ at

-- ---- as the machine sees them

pub none_seen : (held : List (Option Op)) → held ≡ empty_held → map is_some held ≡ empty_buffer
none_seen held is = ap (map is_some) (nothing_held held is) ∙ each HELD_ENTRIES
  where
    each : (n : ℕ) → map is_some (replicate {A = Option Op} n None) ≡ replicate n false
    each zero = refl
    each (suc n) = ap (λ t. false ∷ t) (each n)

pub moved_seen : (held : List (Option Op)) → map is_some (drop 1 held ++ None ∷ []) ≡ drop 1 (map is_some held) ++ false ∷ []
moved_seen [] = refl
moved_seen (x ∷ held) = map-append is_some held (None ∷ [])

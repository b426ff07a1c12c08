-- What always holds of a replica log, after each of its steps.
use Rattle.std.proofs.Common.{◌≡◌, inl, inr, ℕ, zero, suc, ◌-◌, ◌<◌, ◌≤◌, ◌⊎◌, Option, Some, None, List, [], ◌∷◌, ◌++◌, length, length-append, drop, sym, subst, ◌∙◌, arith}
use Rattle.std.specs.Prelude.{replicate, slice_get, slice_set, IfSome}
use Rattle.std.proofs.lemmas.Bool.{cases_eq}
use Rattle.std.proofs.lemmas.List.{length-drop, length-set, length-replicate, get_or-replicate}
use Rattle.std.proofs.lemmas.Option.{get_or_from_slice_get, slice_get_within}
use Rattle.sb_calls.specs.Op.{IsOpWithin}
use Rattle.sb_calls.specs.declared.call.TheConstants.{LOG_CALLS}
use Rattle.sb_calls.specs.declared.op.Op.{Op}
use Rattle.cown_board.proofs.StateChanges.{slice_get-set_same, slice_get-set_other}
use Rattle.cown_board.specs.Board.{BoardOf, length_of}
use Rattle.sb_replica.specs.Log.{LogOf, none_held}
use Rattle.sb_replica.specs.inner.HeldOps.{IsReplicaLog}
use Rattle.sb_replica.specs.Offers.{log_with_entry, log_with_held}

-- an empty place appended at the end holds nothing
held_before : {A : Type 0} (held : List (Option A)) (place : ℕ) (op : A)
    → slice_get (held ++ None ∷ []) place ≡ Some (Some op) → slice_get held place ≡ Some (Some op)
held_before [] zero op e = absurd cc
held_before [] (suc place) op e = absurd cc
held_before (first ∷ held) zero op e = e
held_before (first ∷ held) (suc place) op e = held_before held place op e

held_one_later : {A : Type 0} (held : List (Option A)) (place : ℕ) (op : A)
    → slice_get (drop 1 held ++ None ∷ []) place ≡ Some (Some op) → slice_get held (suc place) ≡ Some (Some op)
held_one_later [] place op e = absurd (let h = held_before [] place op e in cc)
held_one_later (first ∷ held) place op e = held_before held place op e

held_nowhere : (size place : ℕ) (op : Op) → slice_get (replicate size None) place ≡ Some (Some op) → ⊥
held_nowhere size place op e =
    let none : Option Op = None in
    let within : place < size = omega (arith, slice_get_within (replicate size none) place (Some op) e, length-replicate size none) in
    let here = get_or_from_slice_get (replicate size none) place (Some op) none e in
    let missing = get_or-replicate size place none none within in
    cc

-- after one more op is held: that op, or what was held before
held_with : {A : Type 0} (held : List (Option A)) (written place : ℕ) (new op : A) → slice_get (slice_set held written (Some new)) place ≡ Some (Some op)
    → ((place ≡ written) × (op ≡ new)) ⊎ (slice_get held place ≡ Some (Some op))
held_with held written place new op e = elim (cases_eq place written) [
  | inl same ↦
      let there = slice_get_within (slice_set held written (Some new)) place (Some op) e in
      let within : written < length held = omega (arith, same, there, length-set held written (Some new)) in
      let here = slice_get-set_same held written (Some new) within in
      inl (same, cc)
  | inr differs ↦ inr (sym (slice_get-set_other held written place (Some new) differs) ∙ e)
]

pub keeps_none : (board : BoardOf Op) → IsReplicaLog (record { board = board; held = none_held })
unfolding none_held
keeps_none board = record {
  slots = length-replicate {A = Option Op} 64 None;
  numbers = λ place op e. absurd (held_nowhere 64 place op e);
  within = λ place op e. absurd (held_nowhere 64 place op e);
}

module _ (log : LogOf) (kept : IsReplicaLog log) where
  pub keeps_taken : (op : Op) → IsReplicaLog (log_with_entry log op)
  keeps_taken new = record {
    slots = omega (arith, length-append (drop 1 log.held) (None ∷ []), length-drop 1 log.held, kept.slots);
    numbers = λ place op e. omega (arith, kept.numbers (suc place) op (held_one_later log.held place op e), length-append log.board.log (new ∷ []));
    within = λ place op e. kept.within (suc place) op (held_one_later log.held place op e);
  }

  pub keeps_held : (number : ℕ) (op : Op) → suc (length_of log.board) ≤ number → number ≤ LOG_CALLS
      → IsOpWithin (length log.board.opening.savings) op → IsReplicaLog (log_with_held log number op)
  keeps_held number new after few within = record {
    slots = length-set log.held (number - length_of log.board - 1) (Some new) ∙ kept.slots;
    numbers = λ place op e. elim (held_with log.held (number - length_of log.board - 1) place new op e) [
      | inl (at, same) ↦ omega (arith, at, after, few)
      | inr before ↦ kept.numbers place op before
    ];
    within = λ place op e. elim (held_with log.held (number - length_of log.board - 1) place new op e) [
      | inl (at, same) ↦ subst (IsOpWithin (length log.board.opening.savings)) (sym same) within
      | inr before ↦ kept.within place op before
    ];
  }

  -- so the op for the next number, if there is one
  pub keeps_next : (found : Option Op) → slice_get log.held 0 ≡ Some found
      → IfSome found (IsOpWithin (length log.board.opening.savings)) × IfSome found (λ op. length_of log.board < LOG_CALLS)
  keeps_next None here = (tt, tt)
  keeps_next (Some op) here = (kept.within 0 op here, omega (arith, kept.numbers 0 op here))

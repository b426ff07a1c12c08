-- What may run by the balances is what the board has ready, moved by the number of entries before
-- the board.
use Rattle.std.proofs.Common.{◌≡◌, ◌⊎◌, get_or, inl, inr, ℕ, zero, suc, ◌+◌, ◌<◌, ◌≤◌, Bool, true, false, not, Option, Some, None, [], ◌∷◌, ◌++◌, length, map, refl, sym, ap, ◌∙◌, arith}
use Rattle.std.specs.Prelude.{◌&&◌, slice_get, option_map, if◌then◌else◌}
use Rattle.std.proofs.lemmas.List.{map-append}
use Rattle.std.proofs.lemmas.Option.{slice_get-map, slice_get_cases}
use Rattle.cown_board.proofs.PositionLaws.{append_nothing}
use Rattle.cown_board.specs.Board.{BoardOf}
use Rattle.cown_board.specs.Positions.{positions, none_below}
use Rattle.cown_board.specs.Readiness.{touched_by, conflict_at, is_ready_at, ready_positions}
use Rattle.cown_board.specs.State.{is_unfinished, is_waiting, state_is}
use Rattle.sb_calls.specs.Behaviour.{declared_cowns, effect_of}
use Rattle.sb_calls.specs.Cowns.{contents_of}
use Rattle.sb_calls.specs.SerialRun.{share_cown}
use Rattle.sb_calls.specs.Op.{op_of}
use Rattle.sb_calls.specs.declared.call.Call.{Call}
use Rattle.sb_calls.specs.declared.op.Op.{Op}
use Rattle.sb_rows.specs.Rows.{SameCustomers}
use Rattle.schedule_player.specs.ReplicaOfLog.{IsBoardOfLog}
use Rattle.schedule_player.specs.Bank.{BankOf}
use Rattle.schedule_player.specs.Readiness.{stage_is, share_balance, touched_in, conflict_between, may_run, runnable_entries}
use Rattle.schedule_player.specs.MachineView.{stages_of, ops_of}
use Rattle.schedule_player.specs.Stage.{waits, is_undone}
use Rattle.cown_board.proofs.LogLaws.{no_some as none_some}
use Rattle.schedule_player.proofs.boards.LogParts.{at_in_part}
use Rattle.schedule_player.proofs.boards.ConflictsByCowns.{shared_alike}
use Rattle.schedule_player.proofs.boards.Stages.{length_stages, stage_before, waits_at, undone_at}

-- ---- places moved by a base

none_moved : (f g : ℕ → Bool) (base m : ℕ) → ((k : ℕ) → k < base → f k ≡ false) → ((k : ℕ) → k < m → f (base + k) ≡ g k)
    → none_below f (base + m) ≡ none_below g m
none_moved f g zero zero before after = refl
none_moved f g (suc base) zero before after =
    let e : suc base + 0 ≡ suc (base + 0) = omega arith in
    let f0 : f (base + 0) ≡ false = before (base + 0) (omega arith) in
    ap (none_below f) e
    ∙ ap (λ b. none_below f (base + 0) && not b) f0
    ∙ and_true (none_below f (base + 0))
    ∙ none_moved f g base zero (λ k lt. before k (omega (arith, lt))) (λ k lt. absurd (omega (arith, lt)))
  where
    and_true : (b : Bool) → (b && true) ≡ b
    and_true true = refl
    and_true false = refl
none_moved f g base (suc m) before after =
    let e : base + suc m ≡ suc (base + m) = omega arith in
    ap (none_below f) e
    ∙ ap (λ b. b && not (f (base + m))) (none_moved f g base m before (λ k lt. after k (omega (arith, lt))))
    ∙ ap (λ b. none_below g m && not b) (after m (omega arith))

place_moved : (base m : ℕ) (b : Bool) → (if b then (base + m) ∷ [] else []) ≡ map (λ k. base + k) (if b then m ∷ [] else [])
place_moved base m true = refl
place_moved base m false = refl

places_moved : (f g : ℕ → Bool) (base m : ℕ) → ((k : ℕ) → k < base → f k ≡ false) → ((k : ℕ) → k < m → f (base + k) ≡ g k)
    → positions f (base + m) ≡ map (λ k. base + k) (positions g m)
places_moved f g zero zero before after = refl
places_moved f g (suc base) zero before after =
    let e : suc base + 0 ≡ suc (base + 0) = omega arith in
    let f0 : f (base + 0) ≡ false = before (base + 0) (omega arith) in
    ap (positions f) e
    ∙ ap (λ b. positions f (base + 0) ++ (if b then (base + 0) ∷ [] else [])) f0
    ∙ append_nothing (positions f (base + 0))
    ∙ places_moved f g base zero (λ k lt. before k (omega (arith, lt))) (λ k lt. absurd (omega (arith, lt)))
places_moved f g base (suc m) before after =
    let e : base + suc m ≡ suc (base + m) = omega arith in
    ap (positions f) e
    ∙ ap (λ ps. ps ++ (if f (base + m) then (base + m) ∷ [] else [])) (places_moved f g base m before (λ k lt. after k (omega (arith, lt))))
    ∙ ap (λ b. map (λ k. base + k) (positions g m) ++ (if b then (base + m) ∷ [] else [])) (after m (omega arith))
    ∙ ap (λ ps. map (λ k. base + k) (positions g m) ++ ps) (place_moved base m (g m))
    ∙ sym (map-append (λ k. base + k) (positions g m) (if g m then m ∷ [] else []))

-- ---- the calls of a board

-- the op at a place of the board is that of the call there
call_at_place : (bank : BankOf) (board : BoardOf Op) (consistent : IsBoardOfLog (contents_of bank.opening) (ops_of bank) board) (k : ℕ)
    → k < length board.log → (call : Call) × (slice_get bank.calls (length board.base_replies + k) ≡ Some call)
    × (slice_get board.log k ≡ Some (op_of bank.names call))
call_at_place bank board consistent k lt =
    let here : slice_get (ops_of bank) (length board.base_replies + k) ≡ slice_get board.log k =
    ap (λ ops. slice_get ops (length board.base_replies + k)) consistent.log_is
    ∙ ap (λ n. slice_get (consistent.before ++ (board.log ++ consistent.later)) (n + k)) (sym consistent.base)
    ∙ at_in_part declared_cowns effect_of consistent.before board.log consistent.later k lt in
    let mapped : slice_get (ops_of bank) (length board.base_replies + k)
    ≡ option_map (op_of bank.names) (slice_get bank.calls (length board.base_replies + k)) =
    slice_get-map (op_of bank.names) bank.calls (length board.base_replies + k) in
    by (slice_get bank.calls (length board.base_replies + k)) refl (sym here ∙ mapped)
  where
    by : (call : Option Call) → slice_get bank.calls (length board.base_replies + k) ≡ call
        → slice_get board.log k ≡ option_map (op_of bank.names) call
        → (call : Call) × (slice_get bank.calls (length board.base_replies + k) ≡ Some call) × (slice_get board.log k ≡ Some (op_of bank.names call))
    by None is e = absurd (past (slice_get_cases board.log k) e)
      where
        past : (slice_get board.log k ≡ slice_get board.log k) × (((x : Op) × (k < length board.log) × (slice_get board.log k ≡ Some x) ×
            (get_or board.log k x ≡ x))
            ⊎ ((length board.log ≤ k) × (slice_get board.log k ≡ None))) → slice_get board.log k ≡ None → ⊥
        past (e, inl found) none = none_some (sym none ∙ found.2)
        past (e, inr beyond) none = omega (arith, lt, beyond.0)
    by (Some call) is e = (call, is, e)

conflict_alike : (bank : BankOf) (board : BoardOf Op) → SameCustomers bank.names bank.opening
    → IsBoardOfLog (contents_of bank.opening) (ops_of bank) board → (j k : ℕ) → j < length board.log → k < length board.log
    → conflict_between bank (length board.base_replies + j) (length board.base_replies + k) ≡ conflict_at declared_cowns board.log j k
conflict_alike bank board same consistent j k lt_j lt_k =
    let one = call_at_place bank board consistent j lt_j in
    let other = call_at_place bank board consistent k lt_k in
    ap (λ c. share_balance (touched_in bank c) (touched_in bank (slice_get bank.calls (length board.base_replies + k)))) one.1
    ∙ ap (λ c. share_balance (touched_in bank (Some one.0)) (touched_in bank c)) other.1
    ∙ sym (shared_alike bank one.0 other.0 same)
    ∙ ap (λ c. share_cown (touched_by declared_cowns c) (declared_cowns (op_of bank.names other.0))) (sym one.2)
    ∙ ap (λ c. share_cown (touched_by declared_cowns (slice_get board.log j)) (touched_by declared_cowns c)) (sym other.2)

done_before : (bank : BankOf) (board : BoardOf Op) (k : ℕ) → k < length board.base_replies → may_run bank (stages_of board) k ≡ false
done_before bank board k lt =
    ap (λ s. stage_is waits s && none_below (λ j. stage_is is_undone (slice_get (stages_of board) j) && conflict_between bank j k) k) (stage_before board k lt)

runs_alike : (bank : BankOf) (board : BoardOf Op) → SameCustomers bank.names bank.opening
    → IsBoardOfLog (contents_of bank.opening) (ops_of bank) board → (k : ℕ) → k < length board.log
    → may_run bank (stages_of board) (length board.base_replies + k) ≡ is_ready_at declared_cowns board.log board.states k
runs_alike bank board same consistent k lt =
    let base = length board.base_replies in
    let f : ℕ → Bool = λ j. stage_is is_undone (slice_get (stages_of board) j) && conflict_between bank j (base + k) in
    let g : ℕ → Bool = λ j. state_is is_unfinished (slice_get board.states j) && conflict_at declared_cowns board.log j k in
    ap (λ b. b && none_below f (base + k)) (waits_at board k)
    ∙ ap (λ b. state_is is_waiting (slice_get board.states k) && b)
    (none_moved f g base k
    (λ j lt_j. ap (λ s. stage_is is_undone s && conflict_between bank j (base + k)) (stage_before board j lt_j))
    (λ j lt_j. ap (λ b. b && conflict_between bank (base + j) (base + k)) (undone_at board j)
    ∙ ap (λ b. state_is is_unfinished (slice_get board.states j) && b) (conflict_alike bank board same consistent j k (omega (arith, lt, lt_j)) lt)))

-- the places of what may run are those of what is ready, moved
pub runnable_alike : (bank : BankOf) (board : BoardOf Op) → SameCustomers bank.names bank.opening
    → IsBoardOfLog (contents_of bank.opening) (ops_of bank) board
    → runnable_entries bank (stages_of board) ≡ map (λ k. length board.base_replies + k) (ready_positions declared_cowns board.log board.states)
unfolding runnable_entries ready_positions
runnable_alike bank board same consistent =
    ap (positions (may_run bank (stages_of board))) (length_stages board consistent.states)
    ∙ places_moved (may_run bank (stages_of board)) (is_ready_at declared_cowns board.log board.states) (length board.base_replies) (length board.log)
    (λ k lt. done_before bank board k lt) (λ k lt. runs_alike bank board same consistent k lt)

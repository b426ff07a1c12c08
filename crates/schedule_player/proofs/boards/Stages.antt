-- The stages of a board's entries.
use Rattle.std.proofs.Common.{◌≡◌, ℕ, zero, suc, ◌+◌, ◌<◌, Bool, Option, Some, None, List, [], ◌∷◌, ◌++◌, length, map, replicate, refl, sym, ap, subst, ◌∙◌, arith}
use Rattle.std.specs.Prelude.{slice_get, slice_set, count_by, option_map, if◌then◌else◌}
use Rattle.std.proofs.lemmas.List.{length-append, length-replicate, map-append}
use Rattle.std.proofs.lemmas.List.Sums.{sum_by-cons}
use Rattle.std.proofs.lemmas.Option.{slice_get-map}
use Rattle.cown_board.proofs.PositionLaws.{slice_get-left, slice_get-right}
use Rattle.cown_board.specs.Board.{BoardOf, length_of, unfinished_of}
use Rattle.cown_board.specs.State.{is_unfinished, is_waiting, state_is}
use Rattle.cown_board.specs.declared.state.State.{State}
use Rattle.cown_board.specs.declared.state.State.TheVariants.{Waiting, Out, Finished}
use Rattle.sb_calls.specs.declared.op.Op.{Op}
use Rattle.sb_replica.specs.Offers.{board_with_entry}
use Rattle.schedule_player.specs.Readiness.{stage_is}
use Rattle.schedule_player.specs.MachineView.{stage_of, stages_of}
use Rattle.schedule_player.specs.Stage.{Stage, Waits, IsOut, IsDone, waits, is_undone}

pub length-map : {A B : Type 0} (f : A → B) (xs : List A) → length (map f xs) ≡ length xs
length-map f [] = refl
length-map f (x ∷ xs) = ap suc (length-map f xs)

pub set-map : {A B : Type 0} (f : A → B) (xs : List A) (k : ℕ) (x : A) → map f (slice_set xs k x) ≡ slice_set (map f xs) k (f x)
set-map f [] k x = refl
set-map f (y ∷ xs) zero x = refl
set-map f (y ∷ xs) (suc k) x = ap (λ t. f y ∷ t) (set-map f xs k x)

set-replicate : {A : Type 0} (n : ℕ) (x : A) (xs : List A) (k : ℕ) (y : A) → replicate n x ++ slice_set xs k y ≡ slice_set (replicate n x ++ xs) (n + k) y
set-replicate zero x xs k y = let e : k ≡ 0 + k = omega arith in ap (λ j. slice_set xs j y) e
set-replicate (suc n) x xs k y = ap (λ t. x ∷ t) (set-replicate n x xs k y) ∙ (let e : suc (n + k) ≡ suc n + k = omega arith in ap (λ j. slice_set (replicate
    (suc n) x ++ xs) j y) e)

pub get-replicate : {A : Type 0} (n : ℕ) (x : A) (k : ℕ) → k < n → slice_get (replicate n x) k ≡ Some x
get-replicate zero x k lt = absurd (omega (arith, lt))
get-replicate (suc n) x zero lt = refl
get-replicate (suc n) x (suc k) lt = get-replicate n x k (omega (arith, lt))

append-nil : {A : Type 0} (xs ys zs : List A) → (xs ++ ys) ++ zs ≡ xs ++ (ys ++ zs)
append-nil [] ys zs = refl
append-nil (x ∷ xs) ys zs = ap (λ t. x ∷ t) (append-nil xs ys zs)

undone_stage : (state : State) → is_undone (stage_of state) ≡ is_unfinished state
undone_stage Waiting = refl
undone_stage Out = refl
undone_stage (Finished reply) = refl

waits_stage : (state : State) → waits (stage_of state) ≡ is_waiting state
waits_stage Waiting = refl
waits_stage Out = refl
waits_stage (Finished reply) = refl

pub count_more : {A : Type 0} (p : A → Bool) (x : A) (xs : List A) → count_by p (x ∷ xs) ≡ (if p x then 1 else 0) + count_by p xs
count_more p x xs = sum_by-cons (λ y. if p y then 1 else 0) x xs

undone_states : (states : List State) → count_by is_undone (map stage_of states) ≡ count_by is_unfinished states
undone_states [] = refl
undone_states (Waiting ∷ states) = count_more is_undone Waits (map stage_of states) ∙ ap (λ n. 1 + n) (undone_states states) ∙ sym
    (count_more is_unfinished Waiting states)
undone_states (Out ∷ states) = count_more is_undone IsOut (map stage_of states) ∙ ap (λ n. 1 + n) (undone_states states)
    ∙ sym (count_more is_unfinished Out states)
undone_states (Finished reply ∷ states) = undone_states states

undone_after : (n : ℕ) (stages : List Stage) → count_by is_undone (replicate n IsDone ++ stages) ≡ count_by is_undone stages
undone_after zero stages = refl
undone_after (suc n) stages = undone_after n stages

-- as many are undone as are open
pub undone_in_stages : (board : BoardOf Op) → count_by is_undone (stages_of board) ≡ unfinished_of board
undone_in_stages board = undone_after (length board.base_replies) (map stage_of board.states) ∙ undone_states board.states

pub length_stages : (board : BoardOf Op) → length board.log ≡ length board.states → length (stages_of board) ≡ length_of board
length_stages board states =
    length-append (replicate (length board.base_replies) IsDone) (map stage_of board.states)
    ∙ ap (λ n. n + length (map stage_of board.states)) (length-replicate (length board.base_replies) IsDone)
    ∙ ap (λ n. length board.base_replies + n) (length-map stage_of board.states ∙ sym states)

pub stages_accepted : (board : BoardOf Op) (op : Op) → stages_of (board_with_entry board op) ≡ stages_of board ++ Waits ∷ []
stages_accepted board op =
    ap (λ s. replicate (length board.base_replies) IsDone ++ s) (map-append stage_of board.states (Waiting ∷ []))
    ∙ sym (append-nil (replicate (length board.base_replies) IsDone) (map stage_of board.states) (Waits ∷ []))

pub stages_set : (board : BoardOf Op) (place : ℕ) (state : State)
    → stages_of (record board { states = slice_set board.states place state })
    ≡ slice_set (stages_of board) (length board.base_replies + place) (stage_of state)
stages_set board place state =
    ap (λ s. replicate (length board.base_replies) IsDone ++ s) (set-map stage_of board.states place state)
    ∙ set-replicate (length board.base_replies) IsDone (map stage_of board.states) place (stage_of state)

-- entries before the board's opening are done
pub stage_before : (board : BoardOf Op) (k : ℕ) → k < length board.base_replies → slice_get (stages_of board) k ≡ Some IsDone
stage_before board k lt =
    slice_get-left (replicate (length board.base_replies) IsDone) (map stage_of board.states) k (subst (λ n. k < n) (sym (length-replicate
    (length board.base_replies) IsDone)) lt)
    ∙ get-replicate (length board.base_replies) IsDone k lt

-- the others are in the board's states
pub stage_at : (board : BoardOf Op) (k : ℕ) → slice_get (stages_of board) (length board.base_replies + k) ≡ option_map stage_of (slice_get board.states k)
stage_at board k =
    slice_get-right (replicate (length board.base_replies) IsDone) (map stage_of board.states) (length board.base_replies + k) k
    (ap (λ n. n + k) (sym (length-replicate (length board.base_replies) IsDone)))
    ∙ slice_get-map stage_of board.states k

stage_state : (test : Stage → Bool) (check : State → Bool) (same : (state : State) → test (stage_of state) ≡ check state)
    (state : Option State) → stage_is test (option_map stage_of state) ≡ state_is check state
stage_state test check same None = refl
stage_state test check same (Some state) = same state

pub waits_at : (board : BoardOf Op) (k : ℕ)
    → stage_is waits (slice_get (stages_of board) (length board.base_replies + k)) ≡ state_is is_waiting (slice_get board.states k)
waits_at board k = ap (stage_is waits) (stage_at board k) ∙ stage_state waits is_waiting waits_stage (slice_get board.states k)

pub undone_at : (board : BoardOf Op) (k : ℕ)
    → stage_is is_undone (slice_get (stages_of board) (length board.base_replies + k)) ≡ state_is is_unfinished (slice_get board.states k)
undone_at board k = ap (stage_is is_undone) (stage_at board k) ∙ stage_state is_undone is_unfinished undone_stage (slice_get board.states k)

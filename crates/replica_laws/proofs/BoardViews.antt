-- A board as the machine sees it: what is out waits.
use Rattle.std.proofs.Common.{◌≡◌, ℕ, ◌+◌, Option, Some, None, List, [], ◌∷◌, map, refl, sym, ap, ◌∙◌}
use Rattle.std.specs.Prelude.{◌&&◌, count_by, option_map, slice_get, slice_set}
use Rattle.std.proofs.lemmas.List.{map-append}
use Rattle.std.proofs.lemmas.Option.{slice_get-map}
use Rattle.cown_board.proofs.LogLaws.{no_some as none_some}
use Rattle.cown_board.proofs.LogLaws.{injective as some_is}
use Rattle.cown_board.proofs.PositionLaws.{none_below-agree}
use Rattle.cown_board.specs.Board.{BoardOf, unfinished_of}
use Rattle.cown_board.specs.Readiness.{conflict_at, is_clear_at}
use Rattle.cown_board.specs.State.{is_unfinished, state_is}
use Rattle.cown_board.specs.declared.state.State.{State}
use Rattle.cown_board.specs.declared.state.State.TheVariants.{Waiting, Out, Finished}
use Rattle.sb_calls.specs.Behaviour.{declared_cowns}
use Rattle.sb_calls.specs.Cowns.{contents_of}
use Rattle.sb_calls.specs.declared.op.Op.{Op}
use Rattle.sb_calls.specs.declared.reply.Reply.{Reply}
use Rattle.sb_replica.specs.Offers.{board_with_entry}
use Rattle.schedule_player.specs.Bank.{BankOf}
use Rattle.schedule_player.specs.MachineView.{ops_of}
use Rattle.schedule_player.specs.ReplicaOfLog.{IsBoardOfLog}
use Rattle.schedule_player.proofs.Lists.{set_here}
use Rattle.schedule_player.proofs.boards.Stages.{count_more, length-map, set-map}
use Rattle.replica_laws.specs.Node0Moves.{waits_if_out, with_none_out}

-- ---- the same is unfinished

open_view : (state : State) → is_unfinished (waits_if_out state) ≡ is_unfinished state
open_view Waiting = refl
open_view Out = refl
open_view (Finished reply) = refl

count_view : (states : List State) → count_by is_unfinished (map waits_if_out states) ≡ count_by is_unfinished states
count_view [] = refl
count_view (Waiting ∷ states) =
    count_more is_unfinished Waiting (map waits_if_out states) ∙ ap (λ n. 1 + n) (count_view states) ∙ sym (count_more is_unfinished Waiting states)
count_view (Out ∷ states) =
    count_more is_unfinished Waiting (map waits_if_out states) ∙ ap (λ n. 1 + n) (count_view states) ∙ sym (count_more is_unfinished Out states)
count_view (Finished reply ∷ states) = count_view states

pub unfinished_view : (board : BoardOf Op) → unfinished_of (with_none_out board) ≡ unfinished_of board
unfinished_view board = count_view board.states

open_at : (state : Option State) → state_is is_unfinished (option_map waits_if_out state) ≡ state_is is_unfinished state
open_at None = refl
open_at (Some state) = open_view state

unfinished_at_view : (states : List State) (k : ℕ)
    → state_is is_unfinished (slice_get (map waits_if_out states) k) ≡ state_is is_unfinished (slice_get states k)
unfinished_at_view states k = ap (state_is is_unfinished) (slice_get-map waits_if_out states k) ∙ open_at (slice_get states k)

-- so the same is clear
pub clear_view : (log : List Op) (states : List State) (k : ℕ)
    → is_clear_at declared_cowns log (map waits_if_out states) k ≡ is_clear_at declared_cowns log states k
clear_view log states k =
    none_below-agree (λ j. state_is is_unfinished (slice_get (map waits_if_out states) j) && conflict_at declared_cowns log j k)
    (λ j. state_is is_unfinished (slice_get states j) && conflict_at declared_cowns log j k) k
    (λ j lt. ap (λ b. b && conflict_at declared_cowns log j k) (unfinished_at_view states j))

-- ---- compared with the log

waiting_finished : {reply : Reply} → ◌≡◌ {A = State} Waiting (Finished reply) → ⊥
waiting_finished h = cc

finished_before : (state : Option State) (reply : Reply) → option_map waits_if_out state ≡ Some (Finished reply) → state ≡ Some (Finished reply)
finished_before None reply e = absurd (none_some e)
finished_before (Some Waiting) reply e = absurd (waiting_finished (some_is e))
finished_before (Some Out) reply e = absurd (waiting_finished (some_is e))
finished_before (Some (Finished other)) reply e = e

pub along_view : (bank : BankOf) (board : BoardOf Op) → IsBoardOfLog (contents_of bank.opening) (ops_of bank) board
    → IsBoardOfLog (contents_of bank.opening) (ops_of bank) (with_none_out board)
along_view bank board is = record {
  before = is.before;
  later = is.later;
  log_is = is.log_is;
  base = is.base;
  opening_is = is.opening_is;
  base_replies = is.base_replies;
  states = is.states ∙ sym (length-map waits_if_out board.states);
  finished = λ k reply here.
      is.finished k reply (finished_before (slice_get board.states k) reply (sym (slice_get-map waits_if_out board.states k) ∙ here));
  cut = is.cut;
}

-- ---- one state

pub state_view : (states : List State) (k : ℕ) (state : State) → slice_get states k ≡ Some state
    → slice_get (map waits_if_out states) k ≡ Some (waits_if_out state)
state_view states k state here = slice_get-map waits_if_out states k ∙ ap (option_map waits_if_out) here

-- what goes out still waits
pub taken_view : (states : List State) (k : ℕ) → slice_get states k ≡ Some Waiting
    → map waits_if_out (slice_set states k Out) ≡ map waits_if_out states
taken_view states k here =
    set-map waits_if_out states k Out ∙ set_here (map waits_if_out states) k Waiting (state_view states k Waiting here)

pub accepted_view : (board : BoardOf Op) (op : Op) → with_none_out (board_with_entry board op) ≡ board_with_entry (with_none_out board) op
accepted_view board op = ap (λ states. record (board_with_entry board op) { states = states }) (map-append waits_if_out board.states (Waiting ∷ []))

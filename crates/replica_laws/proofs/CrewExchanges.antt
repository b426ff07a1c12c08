-- An exchange with the crew, as the machine's one worker makes it.
use Rattle.std.proofs.Common.{◌≡◌, inl, inr, ℕ, zero, suc, ◌+◌, ◌<◌, Bool, true, Some, None, [], ◌∷◌, length, map, refl, sym, ap, subst, ◌∙◌, arith}
use Rattle.std.specs.Prelude.{if◌then◌else◌, option_map, slice_get, slice_set}
use Rattle.std.proofs.lemmas.Bool.{and_from, cases_eq}
use Rattle.std.proofs.lemmas.List.Elements.{All-nil}
use Rattle.std.proofs.lemmas.Option.{slice_get-map, slice_get_within}
use Rattle.cown_board.proofs.PositionLaws.{slice_get-left, slice_get-right}
use Rattle.cown_board.proofs.StateChanges.{slice_get-set_same}
use Rattle.cown_board.specs.Board.{BoardOf, length_of}
use Rattle.cown_board.specs.Board.{Takes as TakesJob, Finishes as FinishesJob}
use Rattle.cown_board.specs.Job.{DoneOf, JobOf}
use Rattle.cown_board.specs.Positions.{positions}
use Rattle.cown_board.specs.Readiness.{is_clear_at, is_ready_at, ready_positions}
use Rattle.cown_board.specs.State.{is_waiting, state_is}
use Rattle.cown_board.specs.declared.state.State.TheVariants.{Out, Finished}
use Rattle.cown_workers.specs.Draining.{CrewStep, Kept, CameBack, HandedOver, Exchange}
use Rattle.sb_calls.specs.Behaviour.{declared_cowns, effect_of}
use Rattle.sb_calls.specs.Cowns.{contents_of}
use Rattle.sb_calls.specs.declared.op.Op.{Op}
use Rattle.sb_calls.specs.declared.reply.Reply.{Reply}
use Rattle.sb_replica.specs.Replica.{ReplicaOf}
use Rattle.schedule_player.specs.Bank.{BankOf}
use Rattle.schedule_player.specs.FramesOfLog.{IsEntryOf}
use Rattle.schedule_player.specs.MachineView.{stage_of, stages_of, ops_of}
use Rattle.schedule_player.specs.OneBased.{nth_item}
use Rattle.schedule_player.specs.Readiness.{runnable_entries}
use Rattle.schedule_player.specs.ReplicaMoves.{NodeOf, take_entry, take_by_hand, take_move, with_empty_hand, finish_by_stage, finish_by_hand, finish_move}
use Rattle.schedule_player.specs.ReplicaOfLog.{AreHeldOfLog}
use Rattle.schedule_player.specs.Stage.{Waits, IsOut, IsDone}
use Rattle.schedule_player.proofs.Lists.{set_here}
use Rattle.schedule_player.proofs.boards.BoardOfLog.{along_finished, along_taken}
use Rattle.schedule_player.proofs.boards.Runnable.{runnable_alike}
use Rattle.schedule_player.proofs.boards.Stages.{set-map, stage_at, stages_set}
use Rattle.schedule_player.proofs.hands.WorkSteps.{set_twice}
use Rattle.replica_laws.specs.FollowerMoves.{Finishes, Takes, node_after}
use Rattle.replica_laws.specs.Node0Moves.{AreClear, IsNode0Of, MovesAsNode0, node0_node, waits_if_out, with_none_out}
use Rattle.bank_server.specs.NodeTurns.{ExchangesJob}
use Rattle.replica_laws.proofs.BoardViews.{along_view, clear_view, state_view, taken_view}
use Rattle.replica_laws.proofs.ClearBoards.{finished_clear, taken_clear, was_ready}
use Rattle.replica_laws.proofs.MovesInOrder.{moves_both}

-- ---- the machine's worker

-- it takes the entry at an index of those that may run, and finishes it: that entry is done
does_one : (bank : BankOf) (node : NodeOf) (index place : ℕ) → slice_get node.hands 0 ≡ Some None → slice_get node.stages place ≡ Some Waits
    → slice_get (runnable_entries bank node.stages) index ≡ Some place
    → node_after bank node (Takes index ∷ Finishes ∷ []) ≡ record node { stages = slice_set node.stages place IsDone }
does_one bank node index place empty waits runs =
    let mid : NodeOf = (take_entry node 1 (Some place)).0 in
    let takes : (take_move bank node 1 index).0 ≡ mid =
    ap (λ hand. (take_by_hand bank node 1 index hand).0) empty ∙ ap (λ found. (take_entry node 1 found).0) runs in
    let full : nth_item mid.hands 1 ≡ Some (Some (suc place)) =
    slice_get-set_same node.hands 0 (Some (suc place)) (slice_get_within node.hands 0 None empty) in
    let out : nth_item mid.stages (suc place) ≡ Some IsOut =
    slice_get-set_same node.stages place IsOut (slice_get_within node.stages place Waits waits) in
    let stages = set_twice node.stages place IsOut IsDone in
    let hands = set_twice node.hands 0 (Some (suc place)) None ∙ set_here node.hands 0 None empty in
    ap (λ one. (finish_move bank one 1).0) takes
    ∙ ap (λ hand. (finish_by_hand bank mid 1 hand).0) full
    ∙ ap (λ stage. (finish_by_stage bank (with_empty_hand mid 1) (suc place) stage).0) out
    ∙ (λ j. record node { stages = stages j; hands = hands j })

-- ---- an entry that is out may run in the machine

-- each place at which a test holds has an index among these places
index_of_place : (f : ℕ → Bool) (m k : ℕ) → k < m → f k ≡ true → (index : ℕ) × (slice_get (positions f m) index ≡ Some k)
index_of_place f zero k lt holds = absurd (omega (arith, lt))
index_of_place f (suc m) k lt holds = elim (cases_eq k m) [
  | inl same ↦ (
    length (positions f m),
    slice_get-right (positions f m) (if f m then m ∷ [] else []) (length (positions f m)) 0 (omega arith)
        ∙ ap (λ b. slice_get (if b then m ∷ [] else []) 0) (ap f (sym same) ∙ holds) ∙ ap (λ n. Some n) (sym same),
  )
  | inr differs ↦
      let found = index_of_place f m k (omega (arith, lt, differs)) holds in (
        found.0,
        slice_get-left (positions f m) (if f m then m ∷ [] else []) found.0 (slice_get_within (positions f m) found.0 k found.1) ∙ found.1,
      )
]

ready_in_view : (board : BoardOf Op) (position : ℕ) → length board.log ≡ length board.states → slice_get board.states position ≡ Some Out
    → AreClear board → (index : ℕ) × (slice_get (ready_positions declared_cowns board.log (map waits_if_out board.states)) index ≡ Some position)
unfolding ready_positions
ready_in_view board position beside out clear =
    let states = map waits_if_out board.states in
    let within = slice_get_within board.states position Out out in
    index_of_place (is_ready_at declared_cowns board.log states) (length board.log) position (omega (arith, within, beside))
    (and_from (state_is is_waiting (slice_get states position)) (is_clear_at declared_cowns board.log states position)
    (ap (state_is is_waiting) (state_view board.states position Out out)) (clear_view board.log board.states position ∙ clear position out))

may_run_out : {S : Type 0} (bank : BankOf) (replica : ReplicaOf S) (position : ℕ) → IsNode0Of bank replica
    → slice_get replica.board.states position ≡ Some Out
    → (index : ℕ) × (slice_get (runnable_entries bank (stages_of (with_none_out replica.board))) index
    ≡ Some (length replica.board.base_replies + position))
may_run_out bank replica position is out =
    let board = replica.board in
    let ready = ready_positions declared_cowns board.log (map waits_if_out board.states) in
    let found = ready_in_view board position is.board.states out is.clear in (
      found.0,
      ap (λ places. slice_get places found.0) (runnable_alike bank (with_none_out board) is.customers (along_view bank board is.board))
          ∙ slice_get-map (λ k. length board.base_replies + k) ready found.0
          ∙ ap (option_map (λ k. length board.base_replies + k)) found.1,
    )

-- ---- an op goes out

pub takes_along : {S : Type 0} (bank : BankOf) (old : ReplicaOf S) (index : ℕ) (job : JobOf Op) (board : BoardOf Op) → IsNode0Of bank old
    → TakesJob declared_cowns effect_of old.board index job board → MovesAsNode0 bank old (record old { board = board })
takes_along bank old index job board is takes =
    let ready = was_ready old.board index takes.position takes.ready in
    let seen : with_none_out board ≡ with_none_out old.board =
    ap with_none_out takes.out ∙ ap (λ states. record old.board { states = states }) (taken_view old.board.states takes.position ready.waits) in
    record {
      replica = record {
        customers = is.customers;
        few = is.few;
        board = along_taken (contents_of bank.opening) (ops_of bank) old.board index job board is.board takes;
        held = subst (λ (b : BoardOf Op). AreHeldOfLog (ops_of bank) (length_of b) old.held) (sym takes.out) is.held;
        clear = subst AreClear (sym takes.out) (taken_clear old.board takes.position ready is.clear);
      };
      moves = [];
      heard = All-nil (IsEntryOf bank);
      moved = λ inbound. ap (λ (view : BoardOf Op). record (node0_node inbound old) { stages = stages_of view; cut = view.cut }) (sym seen);
    }

-- ---- an op is finished

finished_view : (board : BoardOf Op) (position : ℕ) (reply : Reply)
    → slice_set (stages_of (with_none_out board)) (length board.base_replies + position) IsDone
    ≡ stages_of (with_none_out (record board { states = slice_set board.states position (Finished reply) }))
finished_view board position reply =
    sym (ap (λ states. stages_of (record board { states = states })) (set-map waits_if_out board.states position (Finished reply))
    ∙ stages_set (with_none_out board) position (Finished reply))

pub finishes_along : {S : Type 0} (bank : BankOf) (old : ReplicaOf S) (done : DoneOf Op) (reply : Reply) (board : BoardOf Op)
    → IsNode0Of bank old → FinishesJob declared_cowns effect_of old.board done reply board
    → MovesAsNode0 bank old (record old { board = board })
finishes_along bank old done reply board is finishes =
    let position : ℕ = finishes.position in
    let out = finishes.here.out in
    let place : ℕ = length old.board.base_replies + position in
    let runs = may_run_out bank old position is out in
    let waits : slice_get (stages_of (with_none_out old.board)) place ≡ Some Waits =
    stage_at (with_none_out old.board) position ∙ ap (option_map stage_of) (state_view old.board.states position Out out) in
    record {
      replica = record {
        customers = is.customers;
        few = is.few;
        board = along_finished (contents_of bank.opening) (ops_of bank) old.board done reply board is.board finishes;
        held = subst (λ (b : BoardOf Op). AreHeldOfLog (ops_of bank) (length_of b) old.held) (sym finishes.finished) is.held;
        clear = subst AreClear (sym finishes.finished) (finished_clear old.board position reply out is.clear);
      };
      moves = Takes runs.0 ∷ Finishes ∷ [];
      heard = All-nil (IsEntryOf bank);
      moved = λ inbound.
          does_one bank (node0_node inbound old) runs.0 place refl waits runs.1
          ∙ ap (λ stages. record (node0_node inbound old) { stages = stages }) (finished_view old.board position reply)
          ∙ ap (λ (b : BoardOf Op). node0_node inbound (record old { board = b })) (sym finishes.finished);
    }

-- ---- an exchange

board_along : {S : Type 0} (bank : BankOf) (old : ReplicaOf S) (step : CrewStep) (board : BoardOf Op) → IsNode0Of bank old
    → Exchange old.board step board → MovesAsNode0 bank old (record old { board = board })
board_along bank old (Kept job) board is takes = takes_along bank old 0 job board is takes
board_along bank old (CameBack job) board is runs =
    let mid = record old { board = runs.taken } in
    let first = takes_along bank old 0 job runs.taken is runs.takes in
    moves_both bank old mid (record old { board = board }) first (finishes_along bank mid runs.done runs.reply board first.replica runs.finishes)
board_along bank old (HandedOver None) board is exchanged = absurd exchanged
board_along bank old (HandedOver (Some done)) board is exchanged =
    finishes_along bank old done exchanged.1.0 board is exchanged.1.1

-- all but the board stays
rest_stays : {S : Type 0} (old new : ReplicaOf S) (step : CrewStep) → ExchangesJob step old new → new ≡ record old { board = new.board }
rest_stays old new step exchanges = λ j. record {
  id = (exchanges.rest j).id;
  names = (exchanges.rest j).names;
  opening = (exchanges.rest j).opening;
  board = new.board;
  held = exchanges.held j;
  store = (exchanges.rest j).store;
}

pub exchange_along : {S : Type 0} (bank : BankOf) (old new : ReplicaOf S) (step : CrewStep) → IsNode0Of bank old → ExchangesJob step old new
    → MovesAsNode0 bank old new
exchange_along bank old new step is exchanges =
    subst (MovesAsNode0 bank old) (sym (rest_stays old new step exchanges)) (board_along bank old step new.board is exchanges.exchanged)

-- A follower executes what is unfinished as the machine's one worker does.
use Rattle.std.proofs.Common.{◌≡◌, ℕ, zero, suc, Some, None, List, [], ◌∷◌, ◌++◌, length, map, replicate, refl, sym, ap, subst, ◌∙◌, arith}
use Rattle.std.specs.List.{AllByRecursion}
use Rattle.std.specs.Prelude.{slice_get, is_some}
use Rattle.cown_board.proofs.LogLaws.{no_some as none_some}
use Rattle.cown_board.proofs.LogLaws.{injective as some_is}
use Rattle.cown_board.specs.Board.{BoardOf, length_of, unfinished_of}
use Rattle.cown_board.specs.declared.state.State.{State}
use Rattle.cown_board.specs.declared.state.State.TheVariants.{Waiting, Out, Finished}
use Rattle.cown_workers.specs.Draining.{CrewStep, Kept, CameBack, HandedOver, Exchanges, KeepsNoJob}
use Rattle.sb_calls.specs.Cowns.{contents_of}
use Rattle.sb_calls.specs.Op.{op_of}
use Rattle.sb_calls.specs.declared.op.Op.{Op}
use Rattle.sb_checkpoint.specs.MemoryStore.{MemoryStoreOf}
use Rattle.sb_frames.specs.declared.frame.Frame.{Frame}
use Rattle.sb_replica.specs.Replica.{ReplicaOf}
use Rattle.sb_sequencer.specs.Sequencer.{empty_sequencer}
use Rattle.schedule_player.specs.Bank.{BankOf}
use Rattle.schedule_player.specs.OneBased.{nth_item}
use Rattle.schedule_player.specs.ReplicaMoves.{NodeOf, undone_in}
use Rattle.schedule_player.specs.Stage.{Stage, Waits, IsOut, IsDone}
use Rattle.schedule_player.specs.MachineView.{stage_of, stages_of, slot_length, ops_of}
use Rattle.schedule_player.specs.StoredOfLog.{IsStoredOfLog}
use Rattle.schedule_player.specs.ReplicaOfLog.{IsBoardOfLog, AreHeldOfLog}
use Rattle.schedule_player.specs.inner.SettlingSteps.{IsAtRest}
use Rattle.schedule_player.proofs.boards.BoardOfLog.{along_finished, along_taken}
use Rattle.schedule_player.proofs.boards.BoardReplies.{within_log}
use Rattle.schedule_player.proofs.boards.FirstUndone.{all_done}
use Rattle.schedule_player.proofs.NodeMoves.{same_node}
use Rattle.schedule_player.proofs.boards.Stages.{length-map, length_stages, undone_in_stages}
use Rattle.schedule_player.proofs.hands.WorkSteps.{worked, works, all_worked}
use Rattle.bank_server.proofs.boards.Boards.{idle_none_out}
use Rattle.replica_laws.specs.FollowerMoves.{FollowerMove, Takes, Finishes, IsFollowerOf, MovesLead, follower_node, node_after}
use Rattle.bank_server.specs.FollowerTurns.{RunsAll}

-- ---- the machine's one worker

-- it takes the first entry that may run and finishes it, so many times
abbrev pub work_moves : ℕ → List FollowerMove
work_moves zero = []
work_moves (suc n) = Takes 0 ∷ Finishes ∷ work_moves n

works_later : (bank : BankOf) (node : NodeOf) (n : ℕ) → works bank (worked bank node) n ≡ works bank node (suc n)
works_later bank node zero = refl
works_later bank node (suc n) = ap (worked bank) (works_later bank node n)

works_so : (bank : BankOf) (node : NodeOf) (n : ℕ) → node_after bank node (work_moves n) ≡ works bank node n
works_so bank node zero = refl
works_so bank node (suc n) = works_so bank (worked bank node) n ∙ works_later bank node n

-- ---- nothing is out

waits_not_out : ◌≡◌ {A = Stage} Waits IsOut → ⊥
waits_not_out h = cc

done_not_out : ◌≡◌ {A = Stage} IsDone IsOut → ⊥
done_not_out h = cc

-- nor is it for the machine
no_stage_out : (n : ℕ) (states : List State) → ((k : ℕ) → slice_get states k ≡ Some Out → ⊥)
    → (k : ℕ) → slice_get (replicate n IsDone ++ map stage_of states) k ≡ Some IsOut → ⊥
no_stage_out zero [] none k out = none_some out
no_stage_out zero (Waiting ∷ states) none zero out = waits_not_out (some_is out)
no_stage_out zero (Out ∷ states) none zero out = none 0 refl
no_stage_out zero (Finished reply ∷ states) none zero out = done_not_out (some_is out)
no_stage_out zero (state ∷ states) none (suc k) out = no_stage_out zero states (λ j. none (suc j)) k out
no_stage_out (suc n) states none zero out = done_not_out (some_is out)
no_stage_out (suc n) states none (suc k) out = no_stage_out n states none k out

follower_at_rest : (bank : BankOf) (inbound : List Frame) (replica : ReplicaOf MemoryStoreOf) → IsFollowerOf bank replica
    → IsAtRest (follower_node inbound replica)
follower_at_rest bank inbound replica is = record {
  able = record {
    out_in_hands = record {
      some = omega arith;
      few = omega arith;
      out = λ number out. absurd (numbered number out);
    };
    within =
        let size = length_stages replica.board is.board.states in
        let within = within_log (contents_of bank.opening) (ops_of bank) replica.board is.board in
        let calls = length-map (op_of bank.names) bank.calls in
        let few = is.few in
        omega (arith, size, within, calls, few);
  };
  empty = refl;
}
  where
    numbered : (number : ℕ) → nth_item (stages_of replica.board) number ≡ Some IsOut → ⊥
    numbered zero out = none_some out
    numbered (suc k) out = no_stage_out (length replica.board.base_replies) replica.board.states is.none_out k out

-- ---- the board

-- a board along the log, as long as before and with the same cut
record StaysAlong (bank : BankOf) (old new : BoardOf Op) : Type 0 where
  board : IsBoardOfLog (contents_of bank.opening) (ops_of bank) new
  size : length_of new ≡ length_of old
  cut : new.cut ≡ old.cut

in_place_along : (bank : BankOf) (steps : List CrewStep) (old new : BoardOf Op) → AllByRecursion KeepsNoJob steps → Exchanges old steps new
    → IsBoardOfLog (contents_of bank.opening) (ops_of bank) old → StaysAlong bank old new
in_place_along bank [] old new kept same is =
    record { board = subst (IsBoardOfLog (contents_of bank.opening) (ops_of bank)) (sym same) is; size = ap length_of same; cut = ap (λ b. b.cut) same }
in_place_along bank (Kept job ∷ steps) old new kept exchanged is = absurd kept.0
in_place_along bank (CameBack job ∷ steps) old new kept exchanged is =
    let o = contents_of bank.opening in
    let ops = ops_of bank in
    let mid = exchanged.0 in
    let runs = exchanged.1 in
    let taken = along_taken o ops old 0 job runs.taken is runs.takes in
    let finished = along_finished o ops runs.taken runs.done runs.reply mid taken runs.finishes in
    let rest = in_place_along bank steps mid new kept.1 exchanged.2 finished in
    record {
      board = rest.board;
      size = rest.size ∙ ap length_of runs.finishes.finished ∙ ap length_of runs.takes.out;
      cut = rest.cut ∙ ap (λ b. b.cut) runs.finishes.finished ∙ ap (λ b. b.cut) runs.takes.out;
    }
in_place_along bank (HandedOver None ∷ steps) old new kept exchanged is = absurd exchanged.1
in_place_along bank (HandedOver (Some done) ∷ steps) old new kept exchanged is = absurd kept.0

-- ---- everything unfinished

works_stay : (bank : BankOf) (old new : ReplicaOf MemoryStoreOf) → IsFollowerOf bank old → RunsAll old new → StaysAlong bank old.board new.board
    → IsFollowerOf bank new
works_stay bank old new is runs along = record {
  customers = is.customers;
  few = is.few;
  names = ap (λ r. r.names) runs.rest ∙ is.names;
  opening = ap (λ r. r.opening) runs.rest ∙ is.opening;
  board = along.board;
  held = subst (AreHeldOfLog (ops_of bank) (length_of new.board)) (sym runs.held)
      (subst (λ n. AreHeldOfLog (ops_of bank) n old.held) (sym along.size) is.held);
  stored = subst (λ (store : MemoryStoreOf). IsStoredOfLog bank store.slot) (sym (ap (λ r. r.store) runs.rest)) is.stored;
  none_out = idle_none_out new.board runs.drained.idle;
}

-- all is done, and nothing else changed
works_seen : (bank : BankOf) (old new : ReplicaOf MemoryStoreOf) → IsFollowerOf bank old → RunsAll old new → StaysAlong bank old.board new.board
    → (inbound : List Frame)
    → record (follower_node inbound old) { stages = replicate (length (stages_of old.board)) IsDone } ≡ follower_node inbound new
works_seen bank old new is runs along inbound =
    let done = all_done (stages_of new.board) (undone_in_stages new.board ∙ runs.drained.idle) in
    let size = length_stages old.board is.board.states ∙ sym along.size ∙ sym (length_stages new.board along.board.states) in
    same_node (record (follower_node inbound old) { stages = replicate (length (stages_of old.board)) IsDone }) (follower_node inbound new)
    (ap (λ n. replicate n IsDone) size ∙ sym done) refl (ap (λ r. slot_length r.store.slot) (sym runs.rest)) (sym along.cut)
    (ap (map is_some) (sym runs.held)) refl refl refl

-- the machine's worker takes and finishes as many as are unfinished
pub works_alike : (bank : BankOf) (old new : ReplicaOf MemoryStoreOf) → IsFollowerOf bank old → RunsAll old new
    → IsFollowerOf bank new × MovesLead bank old (work_moves (unfinished_of old.board)) new
works_alike bank old new is runs = (works_stay bank old new is runs along, moved)
  where
    along : StaysAlong bank old.board new.board
    along = in_place_along bank runs.steps old.board new.board runs.in_place runs.drained.exchanges is.board

    moved : MovesLead bank old (work_moves (unfinished_of old.board)) new
    moved inbound =
        let node = follower_node inbound old in
        ap (λ n. node_after bank node (work_moves n)) (sym (undone_in_stages old.board))
        ∙ works_so bank node (undone_in node)
        ∙ all_worked bank (empty_sequencer 0) node (follower_at_rest bank inbound old is)
        ∙ works_seen bank old new is runs along inbound

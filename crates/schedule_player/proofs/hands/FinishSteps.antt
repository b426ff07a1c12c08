-- A worker gives back what it has in hand.
use Rattle.std.proofs.Common.{◌≡◌, inl, inr, ℕ, zero, suc, ◌+◌, ◌-◌, Option, Some, None, List, [], ◌∷◌, length, map, refl, sym, ap, subst, ◌∙◌, arith}
use Rattle.std.specs.Prelude.{slice_get, slice_set, option_map}
use Rattle.std.proofs.lemmas.Bool.{cases_lt}
use Rattle.cown_board.specs.Board.{BoardOf, length_of, Finishes, IsOutHere}
use Rattle.cown_board.specs.Job.{JobOf, DoneOf}
use Rattle.cown_board.specs.declared.state.State.{State}
use Rattle.cown_board.specs.declared.state.State.TheVariants.{Waiting, Out, Finished}
use Rattle.sb_rows.specs.Rows.{SameCustomers}
use Rattle.sb_calls.specs.Behaviour.{declared_cowns, effect_of}
use Rattle.sb_calls.specs.Cowns.{contents_of}
use Rattle.sb_calls.specs.SerialRun.{reply_by_log}
use Rattle.sb_calls.specs.declared.op.Op.{Op}
use Rattle.sb_calls.specs.declared.reply.Reply.{Reply}
use Rattle.sb_calls.proofs.SerialRuns.{log_by_cowns}
use Rattle.sb_checkpoint.specs.Reading.{stated_reply_count}
use Rattle.schedule_player.specs.ReplicaOfLog.{IsBoardOfLog}
use Rattle.schedule_player.specs.Bank.{BankOf, log_reply}
use Rattle.schedule_player.specs.inner.NodeInvariant.{number_in, machine_node, IsHandOfLog, IsNodeAt, MovesTo}
use Rattle.schedule_player.specs.OneBased.{nth_item, with_nth, Every}
use Rattle.schedule_player.specs.ReplicaMoves.{NodeOf, note_of_reply, finish_by_stage, finish_by_hand, with_empty_hand, finish_move}
use Rattle.schedule_player.specs.MachineView.{stage_of, stages_of, ops_of}
use Rattle.schedule_player.specs.Stage.{Stage, Waits, IsOut, IsDone}
use Rattle.schedule_player.specs.declared.node.Node.{Node}
use Rattle.schedule_text.specs.declared.note.Note.TheVariants as note
use Rattle.schedule_player.proofs.boards.BoardOfLog.{out_here, reply_along, along_finished}
use Rattle.schedule_player.proofs.Lists.{every_set}
use Rattle.cown_board.proofs.LogLaws.{no_some as none_some}
use Rattle.cown_board.proofs.LogLaws.{injective as some_is}
use Rattle.schedule_player.proofs.NodeMoves.{ChangesWithin, node_within, hand_seen, kept_within, held_within, same_node}
use Rattle.schedule_player.proofs.boards.Stages.{set-map, stages_set, stage_before, stage_at}

-- the reply by cowns is the reply by names
pub reply_by_names : (bank : BankOf) (n : ℕ) → SameCustomers bank.names bank.opening
    → reply_by_log declared_cowns effect_of (contents_of bank.opening) (ops_of bank) n ≡ log_reply bank n
reply_by_names bank n same = let law = log_by_cowns bank.names bank.opening bank.calls same in law.replies n

set_same : {A : Type 0} (xs : List A) (k : ℕ) (x : A) → slice_get xs k ≡ Some x → slice_set xs k x ≡ xs
set_same [] k x here = absurd (none_some here)
set_same (y ∷ xs) zero x here = ap (λ z. z ∷ xs) (sym (some_is here))
set_same (y ∷ xs) (suc k) x here = ap (λ t. y ∷ t) (set_same xs k x here)

-- what the worker has in hand
in_hand : (bank : BankOf) (node : Node) (worker place : ℕ) (hand : Option (JobOf Op)) → worker ≡ suc place
    → slice_get node.hands.items place ≡ Some hand
    → finish_move bank (machine_node node) worker ≡ finish_by_hand bank (machine_node node) worker (Some (option_map number_in hand))
in_hand bank node worker place hand is here =
    ap (finish_by_hand bank (machine_node node) worker)
    (hand_seen bank node worker ∙ ap (λ w. option_map (option_map number_in) (nth_item node.hands.items w)) is ∙ ap (option_map (option_map number_in)) here)

-- the hand is empty after it
hands_emptied : (old new : Node) (worker place : ℕ) → worker ≡ suc place → new.hands.items ≡ slice_set old.hands.items place None
    → (machine_node new).hands ≡ with_nth (machine_node old).hands worker None
hands_emptied old new worker place is hands =
    ap (map (option_map number_in)) hands ∙ set-map (option_map number_in) old.hands.items place None
    ∙ ap (λ w. with_nth (machine_node old).hands w None) (sym is)

every_emptied : (bank : BankOf) (old new : Node) (place : ℕ) → Every (IsHandOfLog bank) old.hands.items
    → new.hands.items ≡ slice_set old.hands.items place None → Every (IsHandOfLog bank) new.hands.items
every_emptied bank old new place hands e =
    subst (Every (IsHandOfLog bank)) (sym e) (every_set (IsHandOfLog bank) old.hands.items place None hands tt)

pub finishes_nothing : (bank : BankOf) (r : ℕ) (old new : Node) (worker place : ℕ) → IsNodeAt bank r old → worker ≡ suc place
    → slice_get old.hands.items place ≡ Some None → new.replica ≡ old.replica → ChangesWithin old new
    → new.hands.items ≡ slice_set old.hands.items place None
    → MovesTo bank r new note.Nothing (finish_move bank (machine_node old) worker)
finishes_nothing bank r old new worker place is w empty replica within hands = record {
  consistent = node_within bank r old new is within
      (subst (λ rep. IsBoardOfLog (contents_of bank.opening) (ops_of bank) rep.board) (sym replica) is.board)
      (ap (λ rep. length_of rep.board) replica) (every_emptied bank old new place is.hands hands);
  move_is =
      in_hand bank old worker place None w empty
      ∙ ap (λ node. (node, note.Nothing)) (sym (same_node (machine_node new) (machine_node old) (ap (λ rep. stages_of rep.board) replica)
      (ap (map (option_map number_in)) (hands ∙ set_same old.hands.items place None empty))
      (kept_within old new within) (ap (λ rep. rep.board.cut) replica) (held_within old new within)
      within.inbound within.outbound (ap (map stated_reply_count) within.states)));
}

-- ---- whether it is out

out_state : (state : Option State) → option_map stage_of state ≡ Some IsOut → state ≡ Some Out
out_state None e = absurd (none_some e)
out_state (Some Waiting) e = absurd (waits_out (some_is e))
  where
    waits_out : ◌≡◌ {A = Stage} Waits IsOut → ⊥
    waits_out h = cc
out_state (Some Out) e = refl
out_state (Some (Finished reply)) e = absurd (done_out (some_is e))
  where
    done_out : ◌≡◌ {A = Stage} IsDone IsOut → ⊥
    done_out h = cc

done_not_out : ◌≡◌ {A = Option Stage} (Some IsDone) (Some IsOut) → ⊥
done_not_out h = cc

-- an entry that is out is out on the board
out_on_board : (board : BoardOf Op) (p : ℕ) → slice_get (stages_of board) p ≡ Some IsOut
    → (k : ℕ) × (p ≡ length board.base_replies + k) × (slice_get board.states k ≡ Some Out)
out_on_board board p out = elim (cases_lt p (length board.base_replies)) [
  | inl before ↦ absurd (done_not_out (sym (stage_before board p before) ∙ out))
  | inr after ↦
      let k = p - length board.base_replies in
      let here : length board.base_replies + (p - length board.base_replies) ≡ p = omega (arith, after) in
      (k, sym here, out_state (slice_get board.states k) (sym (stage_at board k) ∙ ap (slice_get (stages_of board)) here ∙ out))
]

stranger_unless_out : (bank : BankOf) (node : NodeOf) (n : ℕ) (stage : Option Stage) → (stage ≡ Some IsOut → ⊥)
    → finish_by_stage bank node n stage ≡ (node, note.Stranger n)
stranger_unless_out bank node n (Some IsOut) not_out = absurd (not_out refl)
stranger_unless_out bank node n (Some Waits) not_out = refl
stranger_unless_out bank node n (Some IsDone) not_out = refl
stranger_unless_out bank node n None not_out = refl

-- what a worker executed is what it had in hand
pub record IsOf (job : JobOf Op) (done : DoneOf Op) : Type 0 where
  pub number : done.number ≡ job.number
  pub behaviour : done.behaviour ≡ job.behaviour
  pub inputs : done.inputs ≡ job.inputs

pub finishes_stranger : (bank : BankOf) (r : ℕ) (old new : Node) (worker place : ℕ) (job : JobOf Op) (done : DoneOf Op)
    → IsNodeAt bank r old → worker ≡ suc place → slice_get old.hands.items place ≡ Some (Some job) → IsOf job done
    → (IsOutHere declared_cowns effect_of old.replica.board done → ⊥) → new.replica.board ≡ old.replica.board
    → ChangesWithin old new → new.hands.items ≡ slice_set old.hands.items place None
    → MovesTo bank r new (note.Stranger job.number) (finish_move bank (machine_node old) worker)
finishes_stranger bank r old new worker place job done is w here of not_out board within hands =
    let consistent = is.hands place (Some job) here in
    let absent : nth_item (stages_of old.replica.board) job.number ≡ Some IsOut → ⊥ = λ out.
    let p = consistent.place in
    let found = out_on_board old.replica.board p (ap (nth_item (stages_of old.replica.board)) (sym consistent.number) ∙ out) in
    not_out (
      found.0,
      out_here (contents_of bank.opening) (ops_of bank) old.replica.board job done found.0 is.board consistent of.number of.behaviour of.inputs
          (consistent.number ∙ ap suc found.1) found.2,
    ) in
    record {
      consistent = node_within bank r old new is within (subst (IsBoardOfLog (contents_of bank.opening) (ops_of bank)) (sym board) is.board)
          (ap length_of board) (every_emptied bank old new place is.hands hands);
      move_is =
          in_hand bank old worker place (Some job) w here
          ∙ stranger_unless_out bank (with_empty_hand (machine_node old) worker) job.number (nth_item (stages_of old.replica.board) job.number) absent
          ∙ ap (λ node. (node, note.Stranger job.number)) (sym (same_node (machine_node new) (with_empty_hand (machine_node old) worker) (ap stages_of board)
          (hands_emptied old new worker place w hands) (kept_within old new within) (ap (λ b. b.cut) board) (held_within old new within)
          within.inbound within.outbound (ap (map stated_reply_count) within.states)));
    }

pub finishes_done : (bank : BankOf) (r : ℕ) (old new : Node) (worker place : ℕ) (job : JobOf Op) (done : DoneOf Op) (reply : Reply)
    → IsNodeAt bank r old → worker ≡ suc place → slice_get old.hands.items place ≡ Some (Some job) → IsOf job done
    → Finishes declared_cowns effect_of old.replica.board done reply new.replica.board
    → ChangesWithin old new → new.hands.items ≡ slice_set old.hands.items place None
    → MovesTo bank r new (note.Finished job.number reply) (finish_move bank (machine_node old) worker)
finishes_done bank r old new worker place job done reply is w here of finishes within hands =
    let o = contents_of bank.opening in
    let ops = ops_of bank in
    let board = old.replica.board in
    let p = length board.base_replies + finishes.position in
    let number : job.number ≡ suc p = sym of.number ∙ finishes.here.number in
    let out : nth_item (stages_of board) job.number ≡ Some IsOut =
    ap (nth_item (stages_of board)) number ∙ stage_at board finishes.position ∙ ap (option_map stage_of) finishes.here.out in
    let replied : log_reply bank job.number ≡ Some reply =
    sym (reply_by_names bank job.number is.customers)
    ∙ ap (reply_by_log declared_cowns effect_of o ops) (sym of.number)
    ∙ reply_along o ops board done reply new.replica.board is.board finishes in
    let moved = record (with_empty_hand (machine_node old) worker) { stages = with_nth (stages_of board) job.number IsDone } in
    record {
      consistent =
          node_within bank r old new is within (along_finished o ops board done reply new.replica.board is.board finishes) (ap length_of finishes.finished)
          (every_emptied bank old new place is.hands hands);
      move_is =
          in_hand bank old worker place (Some job) w here
          ∙ ap (finish_by_stage bank (with_empty_hand (machine_node old) worker) job.number) out
          ∙ ap (λ answer. (moved, note_of_reply job.number answer)) replied
          ∙ ap (λ node. (node, note.Finished job.number reply)) (sym (same_node (machine_node new) moved
          (ap stages_of finishes.finished ∙ stages_set board finishes.position (Finished reply)
          ∙ ap (λ n. with_nth (stages_of board) n IsDone) (sym number))
          (hands_emptied old new worker place w hands) (kept_within old new within) (ap (λ b. b.cut) finishes.finished)
          (held_within old new within) within.inbound within.outbound (ap (map stated_reply_count) within.states)));
    }

-- A node whose board or hands change.
use Rattle.std.proofs.Common.{◌≡◌, ℕ, zero, suc, ◌+◌, ◌≤◌, Option, Some, None, List, length, map, refl, sym, ap, subst, ◌∙◌}
use Rattle.std.specs.Prelude.{slice_get, slice_set, is_some, option_map}
use Rattle.std.proofs.lemmas.Option.{slice_get-map, slice_get_past}
use Rattle.cown_board.specs.Board.{length_of, Takes}
use Rattle.cown_board.specs.Job.{JobOf}
use Rattle.cown_board.specs.Readiness.{ready_positions}
use Rattle.sb_calls.specs.Behaviour.{declared_cowns, effect_of}
use Rattle.sb_calls.specs.Cowns.{contents_of}
use Rattle.sb_calls.specs.declared.op.Op.{Op}
use Rattle.sb_checkpoint.specs.MemoryStore.{MemoryStoreOf}
use Rattle.sb_checkpoint.specs.Reading.{stated_reply_count}
use Rattle.sb_replica.specs.Replica.{ReplicaOf, RestOf, rest_of}
use Rattle.schedule_player.specs.ReplicaOfLog.{IsBoardOfLog, AreHeldOfLog}
use Rattle.schedule_player.specs.Bank.{BankOf}
use Rattle.schedule_player.specs.inner.NodeInvariant.{number_in, machine_node, IsStateOfLog, IsHandOfLog, IsNodeAt, IsUnchanged, MovesTo}
use Rattle.schedule_player.specs.StoredOfLog.{IsStoredOfLog}
use Rattle.schedule_player.specs.FramesOfLog.{IsEntryOf, IsSentBy}
use Rattle.schedule_player.specs.OneBased.{nth_item, with_nth, Every}
use Rattle.schedule_player.specs.Readiness.{runnable_entries}
use Rattle.schedule_player.specs.ReplicaMoves.{NodeOf, take_entry, take_by_hand, take_move}
use Rattle.schedule_player.specs.MachineView.{stages_of, ops_of, slot_length}
use Rattle.schedule_player.specs.declared.node.Node.{Node}
use Rattle.schedule_text.specs.declared.note.Note.{Note}
use Rattle.schedule_text.specs.declared.note.Note.TheVariants as note
use Rattle.schedule_player.proofs.boards.BoardOfLog.{job_along, along_taken}
use Rattle.schedule_player.proofs.Lists.{every_set}
use Rattle.schedule_player.proofs.boards.Runnable.{runnable_alike}
use Rattle.schedule_player.proofs.boards.Stages.{set-map, stages_set}
use Rattle.cown_board.specs.declared.state.State.TheVariants.{Out}

-- only the board, what is held and the store of the old replica changed
pub record KeepsBeside (old new : ReplicaOf MemoryStoreOf) : Type 0 where
  pub id : new.id ≡ old.id
  pub names : new.names ≡ old.names
  pub opening : new.opening ≡ old.opening

pub node_stored : (bank : BankOf) (r : ℕ) (old : Node) (new : ReplicaOf MemoryStoreOf) → IsNodeAt bank r old → KeepsBeside old.replica new
    → IsBoardOfLog (contents_of bank.opening) (ops_of bank) new.board → AreHeldOfLog (ops_of bank) (length_of new.board) new.held
    → IsStoredOfLog bank new.store.slot → IsNodeAt bank r (record old { replica = new })
node_stored bank r old new is beside board held stored = record {
  customers = is.customers;
  few = is.few;
  id = beside.id ∙ is.id;
  names = beside.names ∙ is.names;
  opening = beside.opening ∙ is.opening;
  board = board;
  held = held;
  stored = stored;
  hands = is.hands;
  inbound = is.inbound;
  outbound = is.outbound;
  states = is.states;
}

-- only the board and the hands of the old node changed
pub record ChangesWithin (old new : Node) : Type 0 where
  pub beside : ◌≡◌ {A = RestOf MemoryStoreOf × List (Option Op)} (rest_of new.replica, new.replica.held) (rest_of old.replica, old.replica.held)
  pub inbound : new.inbound ≡ old.inbound
  pub outbound : new.outbound ≡ old.outbound
  pub states : new.states ≡ old.states

pub node_within : (bank : BankOf) (r : ℕ) (old new : Node) → IsNodeAt bank r old → ChangesWithin old new
    → IsBoardOfLog (contents_of bank.opening) (ops_of bank) new.replica.board → length_of new.replica.board ≡ length_of old.replica.board
    → Every (IsHandOfLog bank) new.hands.items → IsNodeAt bank r new
node_within bank r old new is within board size hands = record {
  customers = is.customers;
  few = is.few;
  id = ap (λ b. b.0.id) within.beside ∙ is.id;
  names = ap (λ b. b.0.names) within.beside ∙ is.names;
  opening = ap (λ b. b.0.opening) within.beside ∙ is.opening;
  board = board;
  held = subst (AreHeldOfLog (ops_of bank) (length_of new.replica.board)) (sym (ap (λ b. b.1) within.beside))
      (subst (λ n. AreHeldOfLog (ops_of bank) n old.replica.held) (sym size) is.held);
  stored = subst (λ slot. IsStoredOfLog bank slot) (sym (ap (λ b. b.0.store.slot) within.beside)) is.stored;
  hands = hands;
  inbound = subst (Every (IsEntryOf bank)) (sym within.inbound) is.inbound;
  outbound = subst (Every (IsSentBy bank r)) (sym within.outbound) is.outbound;
  states = subst (Every (IsStateOfLog bank)) (sym within.states) is.states;
}

-- nothing changed
pub node_stays : (bank : BankOf) (r : ℕ) (old new : Node) (moved : NodeOf × Note) (n : Note) → IsNodeAt bank r old → new ≡ old
    → moved ≡ (machine_node old, n) → MovesTo bank r new n moved
node_stays bank r old new moved n is same e = record {
  consistent = subst (IsNodeAt bank r) (sym same) is;
  move_is = e ∙ ap (λ node. (machine_node node, n)) (sym same);
}

-- nothing changed when memory was refused
pub node_fails : {P : Type 0} (bank : BankOf) (r : ℕ) (old new : Node) → IsNodeAt bank r old → new ≡ old → P → IsUnchanged bank r old new × P
node_fails bank r old new is same wants = (record { consistent = subst (IsNodeAt bank r) (sym same) is; seen = ap machine_node same }, wants)

-- ---- taking

pub hand_seen : (bank : BankOf) (node : Node) (worker : ℕ) → nth_item (machine_node node).hands worker ≡ option_map (option_map number_in)
    (nth_item node.hands.items worker)
hand_seen bank node zero = refl
hand_seen bank node (suc k) = slice_get-map (option_map number_in) node.hands.items k

pub same_node : (a b : NodeOf) → a.stages ≡ b.stages → a.hands ≡ b.hands → a.stored ≡ b.stored → a.cut ≡ b.cut → a.held ≡ b.held
    → a.inbound ≡ b.inbound → a.outbound ≡ b.outbound → a.states ≡ b.states → a ≡ b
same_node a b s h k c e i o t =
    λ j. record { stages = s j; hands = h j; stored = k j; cut = c j; held = e j; inbound = i j; outbound = o j; states = t j }

pub kept_within : (old new : Node) → ChangesWithin old new → (machine_node new).stored ≡ (machine_node old).stored
kept_within old new within = ap (λ b. slot_length b.0.store.slot) within.beside

pub held_within : (old new : Node) → ChangesWithin old new → (machine_node new).held ≡ (machine_node old).held
held_within old new within = ap (λ b. map is_some b.1) within.beside

-- the worker's hand is empty
reaches : (bank : BankOf) (node : Node) (worker place index : ℕ) → worker ≡ suc place → slice_get node.hands.items place ≡ Some None
    → take_move bank (machine_node node) worker index
    ≡ take_entry (machine_node node) worker (slice_get (runnable_entries bank (stages_of node.replica.board)) index)
reaches bank node worker place index is empty =
    ap (take_by_hand bank (machine_node node) worker index)
    (hand_seen bank node worker ∙ ap (λ w. option_map (option_map number_in) (nth_item node.hands.items w)) is ∙ ap (option_map (option_map number_in)) empty)

pub takes_nothing : (bank : BankOf) (r : ℕ) (old new : Node) (worker place index : ℕ) → IsNodeAt bank r old → worker ≡ suc place
    → slice_get old.hands.items place ≡ Some None → ChangesWithin old new → new.hands ≡ old.hands
    → length (ready_positions declared_cowns old.replica.board.log old.replica.board.states) ≤ index
    → new.replica.board ≡ old.replica.board → MovesTo bank r new note.Nothing (take_move bank (machine_node old) worker index)
takes_nothing bank r old new worker place index is w empty within hands few board =
    let none : slice_get (runnable_entries bank (stages_of old.replica.board)) index ≡ None =
    ap (λ ks. slice_get ks index) (runnable_alike bank old.replica.board is.customers is.board)
    ∙ slice_get-map (λ k. length old.replica.board.base_replies + k) (ready_positions declared_cowns old.replica.board.log old.replica.board.states) index
    ∙ ap (option_map (λ k. length old.replica.board.base_replies + k)) (slice_get_past
    (ready_positions declared_cowns old.replica.board.log old.replica.board.states) index few) in
    record {
      consistent = node_within bank r old new is within (subst (IsBoardOfLog (contents_of bank.opening) (ops_of bank)) (sym board) is.board)
          (ap length_of board) (subst (λ h. Every (IsHandOfLog bank) h.items) (sym hands) is.hands);
      move_is =
          reaches bank old worker place index w empty ∙ ap (take_entry (machine_node old) worker) none
          ∙ ap (λ node. (node, note.Nothing)) (sym (same_node (machine_node new) (machine_node old) (ap stages_of board)
          (ap (λ h. map (option_map number_in) h.items) hands) (kept_within old new within) (ap (λ b. b.cut) board) (held_within old new within)
          within.inbound within.outbound (ap (map stated_reply_count) within.states)));
    }

pub takes_job : (bank : BankOf) (r : ℕ) (old new : Node) (worker place index : ℕ) (job : JobOf Op) → IsNodeAt bank r old → worker ≡ suc place
    → slice_get old.hands.items place ≡ Some None → ChangesWithin old new → new.hands.items ≡ slice_set old.hands.items place (Some job)
    → Takes declared_cowns effect_of old.replica.board index job new.replica.board
    → MovesTo bank r new (note.Took job.number) (take_move bank (machine_node old) worker index)
takes_job bank r old new worker place index job is w empty within hands takes =
    let o = contents_of bank.opening in
    let ops = ops_of bank in
    let board = old.replica.board in
    let base = length board.base_replies in
    let found : slice_get (runnable_entries bank (stages_of board)) index ≡ Some (base + takes.position) =
    ap (λ ks. slice_get ks index) (runnable_alike bank board is.customers is.board)
    ∙ slice_get-map (λ k. base + k) (ready_positions declared_cowns board.log board.states) index
    ∙ ap (option_map (λ k. base + k)) takes.ready in
    record {
      consistent = node_within bank r old new is within (along_taken o ops board index job new.replica.board is.board takes) (ap length_of takes.out)
          (subst (Every (IsHandOfLog bank)) (sym hands)
          (every_set (IsHandOfLog bank) old.hands.items place (Some job) is.hands (job_along o ops board index job new.replica.board is.board takes)));
      move_is =
          reaches bank old worker place index w empty ∙ ap (take_entry (machine_node old) worker) found
          ∙ ap (λ moved. (moved, note.Took (suc (base + takes.position))))
          (sym (same_node (machine_node new) (take_entry (machine_node old) worker (Some (base + takes.position))).0
          (ap stages_of takes.out ∙ stages_set board takes.position Out)
          (ap (map (option_map number_in)) hands ∙ set-map (option_map number_in) old.hands.items place (Some job)
          ∙ ap (λ n. slice_set (map (option_map number_in) old.hands.items) place (Some n)) takes.number
          ∙ ap (λ v. with_nth (map (option_map number_in) old.hands.items) v (Some (suc (base + takes.position)))) (sym w))
          (kept_within old new within) (ap (λ b. b.cut) takes.out) (held_within old new within) within.inbound within.outbound
          (ap (map stated_reply_count) within.states)))
          ∙ ap (λ n. (machine_node new, note.Took n)) (sym takes.number);
    }

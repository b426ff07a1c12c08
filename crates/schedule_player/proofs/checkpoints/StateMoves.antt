-- A replica's state goes to another one.
use Rattle.std.proofs.Common.{◌≡◌, inl, inr, Bool, true, false, ℕ, suc, ◌≤◌, Option, Some, None, List, [], ◌∷◌, ◌++◌, length, map, sym, ap, subst, ◌∙◌, arith}
use Rattle.std.specs.Prelude.{option_map, nat_le}
use Rattle.std.proofs.lemmas.Bool.{lt-leb, le-leb}
use Rattle.std.proofs.lemmas.List.{length-append, map-append}
use Rattle.cown_board.specs.Board.{BoardOf, length_of}
use Rattle.sb_rows.specs.Balances.{Balances}
use Rattle.sb_calls.specs.Op.{op_of}
use Rattle.sb_calls.specs.declared.op.Op.{Op}
use Rattle.sb_checkpoint.proofs.SpellingIsRead.{read_back}
use Rattle.sb_checkpoint.specs.Checkpoint.{Origin}
use Rattle.sb_checkpoint.specs.MemoryStore.{MemoryStoreOf}
use Rattle.sb_checkpoint.specs.Reading.{stated_reply_count}
use Rattle.sb_frames.specs.declared.frame.Frame.{Frame}
use Rattle.sb_frames.specs.declared.frame.Frame.TheVariants as frame
use Rattle.sb_replica.specs.Replica.{ReplicaOf, origin_of}
use Rattle.sb_replica.specs.Restarting.{IsBoardOn}
use Rattle.sb_replica.specs.States.{Gives, ReadsState, Adopts, state_length}
use Rattle.sb_replica.specs.declared.adopted.Adopted.TheVariants as answer
use Rattle.schedule_player.specs.Bank.{BankOf}
use Rattle.schedule_player.specs.inner.NodeInvariant.{machine_node, IsStateOfLog, HasState, IsNodeAt, MovesTo}
use Rattle.schedule_player.specs.StoredOfLog.{IsStoredOfLog}
use Rattle.schedule_player.specs.FramesOfLog.{IsSentBy}
use Rattle.schedule_player.specs.OneBased.{nth_item, Every}
use Rattle.schedule_player.specs.ReplicaMoves.{state_move, adopt_move, send_from, have_move, receive_move, length_in}
use Rattle.schedule_player.specs.MachineView.{slot_length}
use Rattle.schedule_player.specs.World.{may_take_memory}
use Rattle.schedule_player.specs.declared.node.Node.{Node}
use Rattle.schedule_text.specs.declared.note.Note.TheVariants as note
use Rattle.schedule_player.proofs.checkpoints.StatesOfLog.{nth_item-map}
use Rattle.schedule_player.proofs.Lists.{every_push, every_numbered}
use Rattle.schedule_player.proofs.NodeMoves.{node_stays}
use Rattle.schedule_player.proofs.boards.Stages.{length-map, length_stages}
use Rattle.schedule_player.proofs.checkpoints.CheckpointSteps.{Does, begins_on, kept_of}
use Rattle.schedule_player.proofs.entries.FrameSteps.{tells_frame}
use Rattle.schedule_player.proofs.events.MemoryRefusals.{state_by, adopts_so}

-- ---- what it keeps

-- reading the store changes nothing
pub keeps_same : (old new : ReplicaOf MemoryStoreOf) (state : Option (ℕ × List ℕ)) → ReadsState Does old state new → new ≡ old
keeps_same old new state keeps = let acts = keeps.got.by_model in keeps.stays ∙ ap (λ s. record old { store = s }) acts.1

gives_length : (origin : Origin) (held : Option (List ℕ)) (state : Option (ℕ × List ℕ)) → Gives origin held state → state_length state ≡ slot_length held
gives_length origin held (Some (size, bytes)) gives =
    let is = gives.1 in
    let back = read_back is.spelled.0.0 origin.opening_total is.checkpoint bytes is.spelled.0.1 in
    sym is.size_is ∙ sym back.count ∙ ap slot_length (sym gives.0)
gives_length origin held None (inl none) = ap slot_length (sym none)
gives_length origin held None (inr (bytes, here, is)) =
    let back = read_back is.spelled.0.0 origin.opening_total is.checkpoint bytes is.spelled.0.1 in
    sym is.size_is ∙ sym back.count ∙ ap slot_length (sym here)

-- the length of the state is that of what is stored
state_kept : (old new : ReplicaOf MemoryStoreOf) (state : Option (ℕ × List ℕ)) → ReadsState Does old state new
    → state_length state ≡ slot_length old.store.slot
state_kept old new state keeps =
    let acts = keeps.got.by_model in
    gives_length (origin_of old) keeps.content state keeps.gives ∙ ap slot_length acts.0

kept_in_log : (bank : BankOf) (r : ℕ) (node : Node) → IsNodeAt bank r node → slot_length node.replica.store.slot ≤ length bank.calls
kept_in_log bank r node is =
    let stored = kept_of bank node.replica.store.slot is.stored.checkpoint is.stored.stored in
    let within = is.stored.consistent.within in
    let calls = length-map (op_of bank.names) bank.calls in
    omega (arith, stored, within, calls)

-- the replica sends it
pub tells_kept : (bank : BankOf) (r : ℕ) (old : Node) (new : ReplicaOf MemoryStoreOf) (state : Option (ℕ × List ℕ)) (outbound : List Frame)
    (told : Frame) (place : ℕ) → IsNodeAt bank r old → ReadsState Does old.replica state new
    → told ≡ frame.Have old.replica.id (state_length state) → outbound ≡ old.outbound ++ told ∷ [] → place ≡ length outbound
    → MovesTo bank r (record old { replica = new; outbound = outbound }) (note.Sent place) (have_move (machine_node old) r)
tells_kept bank r old new state outbound told place is keeps t e p =
    let size = state_kept old.replica new state keeps in
    let fits : state_length state ≤ length bank.calls = let within = kept_in_log bank r old is in omega (arith, size, within) in
    subst (λ x. MovesTo bank r (record old { replica = x; outbound = outbound }) (note.Sent place) (have_move (machine_node old) r))
    (sym (keeps_same old.replica new state keeps))
    (tells_frame bank r old outbound told place (have_move (machine_node old) r) is e p
    (subst (IsSentBy bank r) (sym t) (is.id, fits))
    (ap (λ n. send_from (machine_node old) (frame.Have r n)) (sym size)
    ∙ ap (λ n. send_from (machine_node old) (frame.Have n (state_length state))) (sym is.id) ∙ ap (send_from (machine_node old)) (sym t)))

-- and others get it
pub has_state : (bank : BankOf) (r : ℕ) (old : Node) (new : ReplicaOf MemoryStoreOf) (state : Option (ℕ × List ℕ)) → IsNodeAt bank r old
    → ReadsState Does old.replica state new → HasState bank (machine_node old) (option_map (λ stored. stored.1) state)
has_state bank r old new None is keeps = sym (state_kept old.replica new None keeps)
has_state bank r old new (Some (size, bytes)) is keeps =
    let acts = keeps.got.by_model in
    let gives = keeps.gives in
    let slot : old.replica.store.slot ≡ Some bytes = sym acts.0 ∙ gives.0 in
    let some = gives.2 in
    let length_is = state_kept old.replica new (Some (size, bytes)) keeps in (
      subst (IsStoredOfLog bank) slot is.stored,
      ap slot_length (sym slot),
      (λ none. omega (arith, some, length_is, none)),
    )

-- ---- a state is sent to it

pub receives : (bank : BankOf) (r : ℕ) (old : Node) (states : List (List ℕ)) (bytes : List ℕ) (place : ℕ) → IsNodeAt bank r old
    → IsStateOfLog bank bytes → states ≡ old.states ++ bytes ∷ [] → place ≡ length states
    → MovesTo bank r (record old { states = states }) (note.Gave place) (receive_move (machine_node old) (stated_reply_count bytes))
receives bank r old states bytes place is consistent e p =
    let sizes : map stated_reply_count states ≡ map stated_reply_count old.states ++ stated_reply_count bytes ∷ [] =
    ap (map stated_reply_count) e ∙ map-append stated_reply_count old.states (bytes ∷ []) in
    let count : place ≡ suc (length (map stated_reply_count old.states)) =
    let l = length-append old.states (bytes ∷ []) in
    let m = length-map stated_reply_count old.states in
    let q = p ∙ ap length e ∙ l in omega (arith, q, m) in
    record {
      consistent = record {
        customers = is.customers;
        few = is.few;
        id = is.id;
        names = is.names;
        opening = is.opening;
        board = is.board;
        held = is.held;
        stored = is.stored;
        hands = is.hands;
        inbound = is.inbound;
        outbound = is.outbound;
        states = subst (Every (IsStateOfLog bank)) (sym e) (every_push (IsStateOfLog bank) old.states bytes is.states consistent);
      };
      move_is = λ j. (record (machine_node old) { states = sym sizes j }, note.Gave (sym count j));
    }

-- ---- it goes on from a state

state_seen : (old : Node) (place : ℕ) (bytes : List ℕ) → nth_item old.states place ≡ Some bytes
    → nth_item (machine_node old).states place ≡ Some (stated_reply_count bytes)
state_seen old place bytes here = nth_item-map stated_reply_count old.states place ∙ ap (option_map stated_reply_count) here

-- what a state does, by whether the replica's log has as many entries
state_does : (old : Node) (place : ℕ) (bytes : List ℕ) (behind : Bool) → nth_item old.states place ≡ Some bytes
    → nat_le (stated_reply_count bytes) (length_in (machine_node old)) ≡ behind
    → adopt_move (machine_node old) place ≡ state_by (machine_node old) (stated_reply_count bytes) behind
state_does old place bytes behind here is =
    ap (state_move (machine_node old)) (state_seen old place bytes here) ∙ ap (state_by (machine_node old) (stated_reply_count bytes)) is

-- a board on a state has its length
board_length : (opening : Balances) (origin : Origin) (bytes : List ℕ) (board : BoardOf Op) → IsBoardOn opening origin (Some bytes) board
    → length_of board ≡ stated_reply_count bytes
board_length opening origin bytes board on =
    let back = read_back on.is_stored.0.0 origin.opening_total on.checkpoint bytes on.is_stored.0.1 in
    let count = back.count in
    let e = ap length_of on.board_is in
    omega (arith, e, count)

pub goes_on : (bank : BankOf) (r : ℕ) (old : Node) (new : ReplicaOf MemoryStoreOf) (place : ℕ) (bytes : List ℕ) (size : ℕ) → IsNodeAt bank r old
    → nth_item old.states place ≡ Some bytes → Adopts old.replica bytes (answer.Adopted size) new
    → MovesTo bank r (record old { replica = new }) (note.Adopted size) (adopt_move (machine_node old) place)
goes_on bank r old new place bytes size is here adopts =
    let longer = adopts.0 in
    let size_is = adopts.1 in
    let on = adopts.2 in
    let stays = adopts.3 in
    let stated = board_length old.replica.opening (origin_of old.replica) bytes new.board on in
    let own = length_stages old.replica.board is.board.states in
    begins_on bank r old new (Some bytes) size note.Adopted (adopt_move (machine_node old) place) is
    (every_numbered (IsStateOfLog bank) old.states place bytes is.states here) on (sym size_is)
    (record { id = ap (λ x. x.id) stays; names = ap (λ x. x.names) stays; opening = ap (λ x. x.opening) stays })
    (ap (λ x. x.held) stays) (ap (λ x. x.store.slot) stays)
    (state_does old place bytes false here
    (lt-leb (stated_reply_count bytes) (length_in (machine_node old)) (omega (arith, longer, size_is, stated, own))))

pub stays_ahead : (bank : BankOf) (r : ℕ) (old : Node) (new : ReplicaOf MemoryStoreOf) (place : ℕ) (bytes : List ℕ) (own : ℕ) → IsNodeAt bank r old
    → nth_item old.states place ≡ Some bytes → Adopts old.replica bytes (answer.Behind own) new
    → MovesTo bank r (record old { replica = new }) (note.Behind own) (adopt_move (machine_node old) place)
stays_ahead bank r old new place bytes own is here adopts =
    let own_is = adopts.0 in
    let state = adopts.1 in
    let same = adopts.2 in
    let back = read_back state.1.spelled.0.0 (origin_of old.replica).opening_total state.1.checkpoint bytes state.1.spelled.0.1 in
    let count = back.count in
    let size_is = state.1.size_is in
    let fits = state.2 in
    let log = length_stages old.replica.board is.board.states in
    node_stays bank r old (record old { replica = new }) (adopt_move (machine_node old) place) (note.Behind own) is (ap (λ x. record old { replica = x }) same)
    (state_does old place bytes true here
    (le-leb (stated_reply_count bytes) (length_in (machine_node old)) (omega (arith, own_is, count, size_is, fits, log)))
    ∙ ap (λ n. (machine_node old, note.Behind n)) (log ∙ sym own_is))

-- memory may be refused for a state that exists
pub adopts_wanting : (old : Node) (place : ℕ) (bytes : List ℕ) → nth_item old.states place ≡ Some bytes
    → may_take_memory (adopt_move (machine_node old) place).1 ≡ true
adopts_wanting old place bytes here =
    ap (λ state. may_take_memory (state_move (machine_node old) state).1) (state_seen old place bytes here)
    ∙ adopts_so (machine_node old) (stated_reply_count bytes)

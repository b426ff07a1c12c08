-- A replica puts its checkpoint, and goes back to it.
use Rattle.std.proofs.Common.{◌≡◌, ◌⊎◌, inl, inr, true, ℕ, ◌+ℤ◌, Option, Some, None, Result, Ok, Err, List, length, map, replicate, refl, sym, ap, subst, ◌∙◌, arith}
use Rattle.std.specs.Prelude.{◌≢◌, is_some, if◌then◌else◌}
use Rattle.std.proofs.lemmas.Bool.{eq-eqb, ne_eqb}
use Rattle.cown_board.proofs.PositionLaws.{append_nothing}
use Rattle.cown_board.specs.Board.{BoardOf, length_of, unfinished_of, IsAfterAll}
use Rattle.cown_board.specs.BoardCalls.{board_at_opening}
use Rattle.sb_rows.specs.Balances.{Balances}
use Rattle.sb_rows.specs.Rows.{SameCustomers}
use Rattle.sb_calls.specs.Behaviour.{declared_cowns, effect_of}
use Rattle.sb_calls.specs.Cowns.{contents_of}
use Rattle.sb_calls.specs.declared.op.Op.{Op}
use Rattle.sb_calls.proofs.SerialRuns.{log_by_cowns}
use Rattle.lane_audit.specs.Columns.{total}
use Rattle.sb_checkpoint.proofs.Balances.{total_fits}
use Rattle.sb_checkpoint.proofs.SpellingIsRead.{read_back, one_checkpoint, spelling_has_no_fault}
use Rattle.sb_checkpoint.specs.Checkpoint.{CheckpointOf, Origin, Second, SpellsInLayout}
use Rattle.sb_checkpoint.specs.MemoryStore.{MemoryStoreOf, MemoryActs, memory_model}
use Rattle.sb_checkpoint.specs.Reading.{stated_reply_count, first_fault}
use Rattle.sb_checkpoint.specs.Stores.{StoreStep, StoreDoes, Put, Get, GetFault}
use Rattle.sb_checkpoint.specs.declared.fault.CheckpointFault.{CheckpointFault}
use Rattle.sb_checkpoint.specs.declared.memory_store.How.{How}
use Rattle.sb_checkpoint.specs.declared.store.StoreFault.{StoreFault}
use Rattle.sb_checkpoint.specs.declared.store.StoreFault.TheVariants as store
use Rattle.sb_replica.specs.Marking.{Puts, IsMarkFaultOf, up_to_cut}
use Rattle.sb_replica.specs.Replica.{ReplicaOf, origin_of, board_replies}
use Rattle.sb_replica.specs.Restarting.{IsStoredAs, IsBoardOn, Restarts, IsRestartFaultOf, IsRefusalOf, of_store_fault}
use Rattle.sb_replica.specs.declared.fault.MarkFault.TheVariants as fault
use Rattle.sb_replica.specs.declared.fault.RestartFault.{RestartFault}
use Rattle.sb_replica.specs.declared.fault.RestartFault.TheVariants as restart
use Rattle.sb_replica.proofs.IdleReplies.{length_held}
use Rattle.sb_replica.specs.Log.{none_held as empty_held}
use Rattle.schedule_player.specs.ReplicaOfLog.{IsBoardOfLog, AreHeldOfLog}
use Rattle.schedule_player.specs.Bank.{BankOf, opening_total}
use Rattle.schedule_player.specs.inner.NodeInvariant.{machine_node, IsNodeAt, IsUnchanged, MovesTo}
use Rattle.schedule_player.specs.StoredOfLog.{IsStoredBytes, IsStoredOfLog}
use Rattle.schedule_player.specs.ReplicaMoves.{NodeOf, cut_unless_pending, cut_move, put_move, mark_move, restart_at, restart_move}
use Rattle.schedule_player.specs.MachineView.{stages_of, slot_length, ops_of}
use Rattle.schedule_player.specs.Stage.{IsDone}
use Rattle.schedule_player.specs.declared.node.Node.{Node}
use Rattle.schedule_text.specs.declared.note.Note.{Note}
use Rattle.schedule_text.specs.declared.note.Note.TheVariants as note
use Rattle.schedule_player.specs.World.{may_take_memory}
use Rattle.schedule_player.proofs.boards.BoardOfLog.{along_opened}
use Rattle.schedule_player.proofs.boards.Cuts.{along_cut, along_uncut, marked_along, marks_as}
use Rattle.schedule_player.proofs.entries.HeldEntries.{none_along, none_seen}
use Rattle.cown_board.proofs.LogLaws.{no_some as none_some}
use Rattle.cown_board.proofs.LogLaws.{injective as some_is}
use Rattle.schedule_player.proofs.NodeMoves.{KeepsBeside, node_stored}
use Rattle.schedule_player.proofs.boards.BoardReplies.{checkpoint_along, columns_along}
use Rattle.schedule_player.proofs.boards.Stages.{length_stages}
use Rattle.schedule_player.proofs.events.MemoryRefusals.{puts}
use Rattle.sb_calls.proofs.CownColumns.{contents_of-injective as same_columns}

-- the columns of a board along the log, once all is done, are of the bank's customers
pub after_columns : (bank : BankOf) (board : BoardOf Op) (columns : Balances) → SameCustomers bank.names bank.opening
    → IsBoardOfLog (contents_of bank.opening) (ops_of bank) board → length columns.savings ≡ length columns.checking
    → IsAfterAll declared_cowns effect_of board columns → SameCustomers bank.names columns
after_columns bank board columns same consistent alike after =
    let law = log_by_cowns bank.names bank.opening bank.calls same in
    let rows = law.rows (length_of board) in
    let is : columns ≡ rows.0 =
    same_columns columns rows.0 alike rows.1.balances.same
    (columns_along (contents_of bank.opening) (ops_of bank) board columns consistent after ∙ sym rows.2) in
    subst (SameCustomers bank.names) (sym is) rows.1

-- ---- a replica whose store or board changes

-- the stages and what is held stay, and this is kept
storing : (bank : BankOf) (r : ℕ) (old : Node) (new : ReplicaOf MemoryStoreOf) (stored : ℕ) (n : Note) (moved : NodeOf × Note) → IsNodeAt bank r old
    → KeepsBeside old.replica new → IsBoardOfLog (contents_of bank.opening) (ops_of bank) new.board
    → length_of new.board ≡ length_of old.replica.board → stages_of new.board ≡ stages_of old.replica.board → new.held ≡ old.replica.held
    → IsStoredOfLog bank new.store.slot → slot_length new.store.slot ≡ stored
    → moved ≡ (record (machine_node old) { stored = stored; cut = new.board.cut }, n) → MovesTo bank r (record old { replica = new }) n moved
storing bank r old new stored n moved is beside board size stages held slot k e = record {
  consistent = node_stored bank r old new is beside board
      (subst (AreHeldOfLog (ops_of bank) (length_of new.board)) (sym held) (subst (λ m. AreHeldOfLog (ops_of bank) m old.replica.held) (sym size) is.held))
      slot;
  move_is =
      e ∙ ap (λ x. (record (machine_node old) { stored = x; cut = new.board.cut }, n)) (sym k)
      ∙ ap (λ s. (record (machine_node old) { stages = s; stored = slot_length new.store.slot; cut = new.board.cut }, n)) (sym stages)
      ∙ ap (λ h.
      (record (machine_node old) { stages = stages_of new.board; stored = slot_length new.store.slot; cut = new.board.cut; held = map is_some h }, n))
      (sym held);
}

-- ---- cutting

cutting : (bank : BankOf) (r : ℕ) (old : Node) (new : ReplicaOf MemoryStoreOf) (cut : Option ℕ) (n : Note) → IsNodeAt bank r old
    → new ≡ record old.replica { board = record old.replica.board { cut = cut } }
    → IsBoardOfLog (contents_of bank.opening) (ops_of bank) (record old.replica.board { cut = cut })
    → cut_move (machine_node old) ≡ (record (machine_node old) { cut = cut }, n)
    → MovesTo bank r (record old { replica = new }) n (cut_move (machine_node old))
cutting bank r old new cut n is same board e =
    storing bank r old new (slot_length old.replica.store.slot) n (cut_move (machine_node old)) is
    (record { id = ap (λ x. x.id) same; names = ap (λ x. x.names) same; opening = ap (λ x. x.opening) same })
    (subst (λ x. IsBoardOfLog (contents_of bank.opening) (ops_of bank) x.board) (sym same) board)
    (ap (λ x. length_of x.board) same) (ap (λ x. stages_of x.board) same) (ap (λ x. x.held) same)
    (subst (λ x. IsStoredOfLog bank x.store.slot) (sym same) is.stored)
    (ap (λ x. slot_length x.store.slot) same)
    (e ∙ ap (λ x. (record (machine_node old) { cut = x.board.cut }, n)) (sym same))

pub cuts_now : (bank : BankOf) (r : ℕ) (old : Node) (new : ReplicaOf MemoryStoreOf) (size : ℕ) → IsNodeAt bank r old
    → size ≡ length_of old.replica.board → old.replica.board.cut ≡ None
    → new ≡ record old.replica { board = record old.replica.board { cut = Some (length_of old.replica.board) } }
    → MovesTo bank r (record old { replica = new }) (note.Cut size) (cut_move (machine_node old))
cuts_now bank r old new size is s none same =
    let board = old.replica.board in
    subst (λ n. MovesTo bank r (record old { replica = new }) (note.Cut n) (cut_move (machine_node old))) (sym s)
    (cutting bank r old new (Some (length_of board)) (note.Cut (length_of board)) is same
    (along_cut (contents_of bank.opening) (ops_of bank) board is.board)
    (ap (cut_unless_pending (machine_node old)) none
    ∙ ap (λ n. (record (machine_node old) { cut = Some n }, note.Cut n)) (length_stages board is.board.states)))

pub cuts_pending : (bank : BankOf) (r : ℕ) (old : Node) (new : ReplicaOf MemoryStoreOf) (size : ℕ) → IsNodeAt bank r old
    → old.replica.board.cut ≡ Some size → new ≡ old.replica
    → MovesTo bank r (record old { replica = new }) (note.Pending size) (cut_move (machine_node old))
cuts_pending bank r old new size is here same =
    cutting bank r old new old.replica.board.cut (note.Pending size) is same is.board (ap (cut_unless_pending (machine_node old)) here)

-- ---- marking

abbrev pub told_of : ReplicaOf MemoryStoreOf → How → ReplicaOf MemoryStoreOf
told_of old end = record old { store = record old.store { next = end } }

abbrev pub Does : MemoryStoreOf → StoreStep → MemoryStoreOf → Type 0
Does = StoreDoes memory_model

-- what was put is a checkpoint along the log
kept_now : (bank : BankOf) (r : ℕ) (old : Node) (end : How) (answer : Result (Unit {0}) StoreFault) (new : ReplicaOf MemoryStoreOf) → IsNodeAt bank r old
    → (puts : Puts Does (told_of old.replica end) answer new) → IsStoredOfLog bank (Some puts.bytes)
kept_now bank r old end answer new is puts =
    let part = up_to_cut old.replica.board in
    let consistent = marked_along (contents_of bank.opening) (ops_of bank) old.replica.board is.board in
    let valid = puts.spelled.valid in
    let customers = after_columns bank part puts.columns is.customers consistent valid.balances.same puts.after in
    let checkpoint : CheckpointOf = record { columns = puts.columns; replies = board_replies part } in
    let spelled : SpellsInLayout Second (opening_total bank) checkpoint puts.bytes =
    subst (λ (o : Balances). SpellsInLayout Second (total o.savings +ℤ total o.checking) checkpoint puts.bytes) is.opening puts.spelled in
    record {
      checkpoint = checkpoint;
      stored = (spelled, customers.same_length);
      consistent = checkpoint_along (contents_of bank.opening) (ops_of bank) part puts.columns consistent puts.idle puts.after;
    }

kept_length : (bank : BankOf) (r : ℕ) (old : Node) (end : How) (answer : Result (Unit {0}) StoreFault) (new : ReplicaOf MemoryStoreOf) → IsNodeAt bank r old
    → (puts : Puts Does (told_of old.replica end) answer new) → stated_reply_count puts.bytes ≡ length_of (up_to_cut old.replica.board)
kept_length bank r old end answer new is puts =
    let part = up_to_cut old.replica.board in
    let consistent = marked_along (contents_of bank.opening) (ops_of bank) old.replica.board is.board in
    let back = read_back Second _ (record { columns = puts.columns; replies = board_replies part }) puts.bytes puts.spelled in
    back.count ∙ length_held part puts.idle consistent.states

idle_marks : (bank : BankOf) (r : ℕ) (old : Node) (end : How) → IsNodeAt bank r old → unfinished_of (up_to_cut old.replica.board) ≡ 0
    → mark_move (machine_node old) end ≡ put_move (machine_node old) (length_of (up_to_cut old.replica.board)) end
idle_marks bank r old end is idle =
    let part = up_to_cut old.replica.board in
    marks_as bank r old end is
    ∙ ap (λ b. if b then put_move (machine_node old) (length_of part) end else (machine_node old, note.Unfinished)) (eq-eqb (unfinished_of part) 0 idle)

busy_marks : (bank : BankOf) (r : ℕ) (old : Node) (end : How) → IsNodeAt bank r old → unfinished_of (up_to_cut old.replica.board) ≢ 0
    → mark_move (machine_node old) end ≡ (machine_node old, note.Unfinished)
busy_marks bank r old end is busy =
    let part = up_to_cut old.replica.board in
    marks_as bank r old end is
    ∙ ap (λ b. if b then put_move (machine_node old) (length_of part) end else (machine_node old, note.Unfinished)) (ne_eqb (unfinished_of part) 0 busy)

beside_stays : (old : ReplicaOf MemoryStoreOf) (end : How) (answer : Result (Unit {0}) StoreFault) (new : ReplicaOf MemoryStoreOf)
    → Puts Does (told_of old end) answer new → KeepsBeside old new
beside_stays old end answer new puts = record {
  id = ap (λ x. x.id) puts.stays;
  names = ap (λ x. x.names) puts.stays;
  opening = ap (λ x. x.opening) puts.stays;
}

-- the cut is gone
pub marks_well : (bank : BankOf) (r : ℕ) (old : Node) (end : How) (new : ReplicaOf MemoryStoreOf) (size : ℕ) → IsNodeAt bank r old
    → size ≡ length_of (up_to_cut old.replica.board) → Puts Does (told_of old.replica end) (Ok tt) new
    → MovesTo bank r (record old { replica = new }) (note.Marked size) (mark_move (machine_node old) end)
marks_well bank r old end new size is s puts =
    let acts = puts.put.by_model in
    let slot : new.store.slot ≡ Some puts.bytes = ap (λ x. x.slot) acts.1 in
    let board : new.board ≡ record old.replica.board { cut = None } = ap (λ x. x.board) puts.stays in
    storing bank r old new size (note.Marked size) (mark_move (machine_node old) end) is
    (beside_stays old.replica end (Ok tt) new puts)
    (subst (IsBoardOfLog (contents_of bank.opening) (ops_of bank)) (sym board)
    (along_uncut (contents_of bank.opening) (ops_of bank) old.replica.board is.board))
    (ap length_of board) (ap stages_of board) (ap (λ x. x.held) puts.stays)
    (subst (IsStoredOfLog bank) (sym slot) (kept_now bank r old end (Ok tt) new is puts))
    (ap slot_length slot ∙ kept_length bank r old end (Ok tt) new is puts ∙ sym s)
    (idle_marks bank r old end is puts.idle ∙ ap (put_move (machine_node old) (length_of (up_to_cut old.replica.board))) acts.0
    ∙ ap (λ n. (record (machine_node old) { stored = n; cut = None }, note.Marked n)) (sym s)
    ∙ ap (λ b. (record (machine_node old) { stored = size; cut = b.cut }, note.Marked size)) (sym board))

pub marks_badly : (bank : BankOf) (r : ℕ) (old : Node) (end : How) (new : ReplicaOf MemoryStoreOf) → IsNodeAt bank r old
    → Puts Does (told_of old.replica end) (Err store.Device) new
    → MovesTo bank r (record old { replica = new }) note.StoreFault (mark_move (machine_node old) end)
marks_badly bank r old end new is puts = by puts.put.by_model
  where
    size : ℕ
    size = length_of (up_to_cut old.replica.board)

    board : new.board ≡ old.replica.board
    board = ap (λ x. x.board) puts.stays

    -- with this kept
    with_slot : (stored : ℕ) → IsStoredOfLog bank new.store.slot → slot_length new.store.slot ≡ stored
        → put_move (machine_node old) size end ≡ (record (machine_node old) { stored = stored }, note.StoreFault)
        → MovesTo bank r (record old { replica = new }) note.StoreFault (mark_move (machine_node old) end)
    with_slot stored slot is_kept e =
        storing bank r old new stored note.StoreFault (mark_move (machine_node old) end) is
        (beside_stays old.replica end (Err store.Device) new puts)
        (subst (IsBoardOfLog (contents_of bank.opening) (ops_of bank)) (sym board) is.board) (ap length_of board) (ap stages_of board)
        (ap (λ x. x.held) puts.stays) slot is_kept
        (idle_marks bank r old end is puts.idle ∙ e ∙ ap (λ b. (record (machine_node old) { stored = stored; cut = b.cut }, note.StoreFault)) (sym board))

    by : MemoryActs (told_of old.replica end).store (Put puts.bytes (Err store.Device)) new.store
        → MovesTo bank r (record old { replica = new }) note.StoreFault (mark_move (machine_node old) end)
    by (inl left) =
        let slot : new.store.slot ≡ old.replica.store.slot = ap (λ x. x.slot) left.1 in
        with_slot (slot_length old.replica.store.slot) (subst (IsStoredOfLog bank) (sym slot) is.stored) (ap slot_length slot)
        (ap (put_move (machine_node old) size) left.0)
    by (inr right) =
        let slot : new.store.slot ≡ Some puts.bytes = ap (λ x. x.slot) right.1 in
        with_slot size (subst (IsStoredOfLog bank) (sym slot) (kept_now bank r old end (Err store.Device) new is puts))
        (ap slot_length slot ∙ kept_length bank r old end (Err store.Device) new is puts)
        (ap (put_move (machine_node old) size) right.0)

pub marks_busy : (bank : BankOf) (r : ℕ) (old : Node) (end : How) (new : ReplicaOf MemoryStoreOf) → IsNodeAt bank r old
    → IsMarkFaultOf Does (told_of old.replica end) fault.Busy new
    → MovesTo bank r (record old { replica = new }) note.Unfinished (mark_move (machine_node old) end)
marks_busy bank r old end new is (busy, same) =
    storing bank r old new (slot_length old.replica.store.slot) note.Unfinished (mark_move (machine_node old) end) is
    (record { id = ap (λ x. x.id) same; names = ap (λ x. x.names) same; opening = ap (λ x. x.opening) same })
    (subst (λ x. IsBoardOfLog (contents_of bank.opening) (ops_of bank) x.board) (sym same) is.board) (ap (λ x. length_of x.board) same)
    (ap (λ x. stages_of x.board) same) (ap (λ x. x.held) same)
    (subst (λ x. IsStoredOfLog bank x.store.slot) (sym same) is.stored) (ap (λ x. slot_length x.store.slot) same)
    (busy_marks bank r old end is busy ∙ ap (λ x. (record (machine_node old) { cut = x.board.cut }, note.Unfinished)) (sym same))

-- memory may be refused only for a checkpoint that is put
wants_marked : (bank : BankOf) (r : ℕ) (old : Node) (end : How) (new : ReplicaOf MemoryStoreOf) → IsNodeAt bank r old
    → IsMarkFaultOf Does (told_of old.replica end) fault.OutOfMemory new → may_take_memory (mark_move (machine_node old) end).1 ≡ true
wants_marked bank r old end new is refused =
    ap (λ moved. may_take_memory moved.1) (idle_marks bank r old end is refused.0)
    ∙ puts (machine_node old) (length_of (up_to_cut old.replica.board)) end

-- if memory was refused nothing that the machine sees changed
pub mark_refused : (bank : BankOf) (r : ℕ) (old : Node) (end : How) (new : ReplicaOf MemoryStoreOf) → IsNodeAt bank r old
    → IsMarkFaultOf Does (told_of old.replica end) fault.OutOfMemory new
    → IsUnchanged bank r old (record old { replica = new }) × (may_take_memory (mark_move (machine_node old) end).1 ≡ true)
mark_refused bank r old end new is refused = (by refused.1, wants_marked bank r old end new is refused)
  where
    told : IsNodeAt bank r (record old { replica = told_of old.replica end })
    told = node_stored bank r old (told_of old.replica end) is (record { id = refl; names = refl; opening = refl }) is.board is.held is.stored

    stays : new ≡ told_of old.replica end → IsUnchanged bank r old (record old { replica = new })
    stays e = subst (λ x. IsUnchanged bank r old (record old { replica = x })) (sym e) (record { consistent = told; seen = refl })

    by : ((new ≡ told_of old.replica end) ⊎ Puts Does (told_of old.replica end) (Err store.OutOfMemory) new)
        → IsUnchanged bank r old (record old { replica = new })
    by (inl e) = stays e
    by (inr puts) = stays (puts.stays ∙ ap (λ s. record (told_of old.replica end) { store = s }) puts.put.by_model)

-- ---- going back

one_kept : (bank : BankOf) (origin : Origin) (slot : Option (List ℕ)) (a b : CheckpointOf) → IsStoredBytes bank slot a
    → IsStoredAs bank.opening origin slot b → a ≡ b
one_kept bank origin None a b is_a is_b = is_a ∙ sym is_b
one_kept bank origin (Some bytes) a b is_a is_b =
    let one = one_checkpoint Second is_b.0.0 (opening_total bank) origin.opening_total a b bytes is_a.0 is_b.0.1 in one.1

pub kept_of : (bank : BankOf) (slot : Option (List ℕ)) (checkpoint : CheckpointOf) → IsStoredBytes bank slot checkpoint
    → slot_length slot ≡ length checkpoint.replies
kept_of bank None checkpoint is = ap (λ c. length c.replies) (sym is)
kept_of bank (Some bytes) checkpoint is = let back = read_back Second (opening_total bank) checkpoint bytes is.0 in back.count

-- a new board on what is stored, or on a state, with no op held: the replica begins at that length
pub begins_on : (bank : BankOf) (r : ℕ) (old : Node) (new : ReplicaOf MemoryStoreOf) (slot : Option (List ℕ)) (size : ℕ)
    (noted : ℕ → Note) (moved : NodeOf × Note) → IsNodeAt bank r old → IsStoredOfLog bank slot
    → IsBoardOn old.replica.opening (origin_of old.replica) slot new.board → size ≡ length_of new.board → KeepsBeside old.replica new
    → new.held ≡ empty_held → new.store.slot ≡ old.replica.store.slot → moved
    ≡ (restart_at (machine_node old) (slot_length slot), noted (slot_length slot)) → MovesTo bank r (record old { replica = new }) (noted size) moved
begins_on bank r old new slot size noted moved is consistent on size_is beside held store e =
    let made = consistent.checkpoint in
    let read = on.checkpoint in
    let origin = origin_of old.replica in
    let stored : IsStoredAs bank.opening origin slot read = subst (λ o. IsStoredAs o origin slot read) is.opening on.is_stored in
    let same : made ≡ read = one_kept bank origin slot made read consistent.stored stored in
    let board : new.board ≡ board_at_opening made.columns made.replies = on.board_is ∙ ap (λ c. board_at_opening c.columns c.replies) (sym same) in
    let stored : slot_length slot ≡ length made.replies = kept_of bank slot made consistent.stored in
    let length_is : size ≡ length made.replies = let e = size_is ∙ ap length_of board in omega (arith, e) in
    let stages : replicate (slot_length slot) IsDone ≡ stages_of new.board =
    ap (λ n. replicate n IsDone) stored ∙ sym (append_nothing (replicate (length made.replies) IsDone)) ∙ ap stages_of (sym board) in
    record {
      consistent = node_stored bank r old new is beside
          (subst (IsBoardOfLog (contents_of bank.opening) (ops_of bank)) (sym board)
          (along_opened (contents_of bank.opening) (ops_of bank) made consistent.consistent))
          (none_along (ops_of bank) (length_of new.board) new.held held)
          (subst (IsStoredOfLog bank) (sym store) is.stored);
      move_is = e ∙ (λ j. (
        record (machine_node old) {
          stages = stages j;
          stored = slot_length (sym store j);
          cut =
              sym (ap (λ b. b.cut) board) j;
          held = sym (none_seen new.held held) j;
        },
        noted ((stored ∙ sym length_is) j),
      ));
    }

pub goes_back : (bank : BankOf) (r : ℕ) (old : Node) (new : ReplicaOf MemoryStoreOf) (size : ℕ) → IsNodeAt bank r old
    → Restarts Does old.replica size new
    → MovesTo bank r (record old { replica = new }) (note.Restarted size) (restart_move (machine_node old))
goes_back bank r old new size is restarts =
    let acts = restarts.got.by_model in
    begins_on bank r old new old.replica.store.slot size note.Restarted (restart_move (machine_node old)) is is.stored
    (subst (λ held. IsBoardOn old.replica.opening (origin_of old.replica) held new.board) acts.0 restarts.board) restarts.length_is
    (record {
      id = ap (λ x. x.id) restarts.stays;
      names = ap (λ x. x.names) restarts.stays;
      opening = ap (λ x. x.opening) restarts.stays;
    })
    (ap (λ x. x.held) restarts.stays) (ap (λ x. x.slot) acts.1) refl

-- what is kept is never refused
not_bad : (fault : StoreFault) (bad : CheckpointFault) → restart.BadCheckpoint bad ≡ of_store_fault fault → ⊥
not_bad store.Device bad e = bad_device e
  where
    bad_device : ◌≡◌ {A = RestartFault} (restart.BadCheckpoint bad) restart.Device → ⊥
    bad_device h = cc
not_bad store.OutOfMemory bad e = bad_memory e
  where
    bad_memory : ◌≡◌ {A = RestartFault} (restart.BadCheckpoint bad) restart.OutOfMemory → ⊥
    bad_memory h = cc

abbrev origin_at : List (List ℕ) → Balances → Origin
origin_at names opening = record { customers = length names; opening_total = total opening.savings +ℤ total opening.checking }

kept_taken : (bank : BankOf) (slot : Option (List ℕ)) (checkpoint : CheckpointOf) (bytes : List ℕ) (fault : CheckpointFault)
    → SameCustomers bank.names bank.opening → IsStoredBytes bank slot checkpoint → slot ≡ Some bytes
    → first_fault bytes (origin_at bank.names bank.opening) ≡ Some fault → ⊥
kept_taken bank None checkpoint bytes fault same is e refused = none_some e
kept_taken bank (Some held) checkpoint bytes fault same is e refused =
    let read = spelling_has_no_fault Second (opening_total bank) checkpoint held (total_fits bank.opening same.balances) is.0 in
    let of_bank = ap (λ n. first_fault held (record { customers = n; opening_total = opening_total bank })) is.1 in
    none_some (sym read ∙ of_bank ∙ ap (λ b. first_fault b (origin_at bank.names bank.opening)) (some_is e) ∙ refused)

pub never_bad : (bank : BankOf) (r : ℕ) (old : Node) (new : ReplicaOf MemoryStoreOf) (bad : CheckpointFault) → IsNodeAt bank r old
    → IsRestartFaultOf Does old.replica (restart.BadCheckpoint bad) new → ⊥
never_bad bank r old new bad is (same, inl failed) = not_bad failed.0 bad failed.2
never_bad bank r old new bad is (same, inr refused) =
    let acts = refused.1.by_model in
    let why = refused.2 in
    kept_taken bank old.replica.store.slot is.stored.checkpoint why.0 bad is.customers is.stored.stored (sym acts.0 ∙ why.1)
    (subst (λ opening. first_fault why.0 (origin_at bank.names opening) ≡ Some bad) is.opening
    (subst (λ names. first_fault why.0 (origin_at names old.replica.opening) ≡ Some bad) is.names why.3))

-- if a restart, or a read of what is stored, fails, nothing changed
pub restart_same : (old new : ReplicaOf MemoryStoreOf) (fault : RestartFault) → IsRestartFaultOf Does old fault new → new ≡ old
restart_same old new fault refused = refused.0 ∙ ap (λ s. record old { store = s }) (by refused.1)
  where
    by : (((failed : StoreFault) × Does old.store (GetFault failed) new.store × (fault ≡ of_store_fault failed))
        ⊎ ((held : Option (List ℕ)) × Does old.store (Get held) new.store × IsRefusalOf (origin_of old) held fault))
        → new.store ≡ old.store
    by (inl (store.Device, acts, why)) = absurd acts.by_model
    by (inl (store.OutOfMemory, acts, why)) = acts.by_model.1
    by (inr (held, acts, why)) = acts.by_model.1

pub restart_refused : (bank : BankOf) (r : ℕ) (old : Node) (new : ReplicaOf MemoryStoreOf) → IsNodeAt bank r old
    → IsRestartFaultOf Does old.replica restart.OutOfMemory new
    → IsUnchanged bank r old (record old { replica = new }) × (may_take_memory (restart_move (machine_node old)).1 ≡ true)
restart_refused bank r old new is refused =
    let same = restart_same old.replica new restart.OutOfMemory refused in (
      record {
        consistent = subst (λ x. IsNodeAt bank r (record old { replica = x })) (sym same) is;
        seen = ap (λ x. machine_node (record old { replica = x })) same;
      },
      refl,
    )

use Rattle.std.proofs.Common.{◌≡◌, true, Some, length, take, sym, ap, subst, ◌∙◌, arith}
use Rattle.std.specs.Prelude.{slice_get}
use Rattle.cown_board.specs.Board.{length_of}
use Rattle.sb_calls.specs.Cowns.{contents_of}
use Rattle.sb_calls.specs.Log.{replies_to}
use Rattle.sb_calls.specs.Op.{op_of}
use Rattle.sb_replica.specs.Replica.{board_replies}
use Rattle.schedule_player.specs.Bank.{opening_rows}
use Rattle.schedule_player.specs.Books.{IsRowsAt}
use Rattle.schedule_player.specs.inner.NodeInvariant.{machine_node}
use Rattle.schedule_player.specs.ReplicaMoves.{NodeOf}
use Rattle.schedule_player.specs.MachineView.{ops_of}
use Rattle.schedule_player.specs.World.{audit_if, bank_of, audit_result, may_take_memory}
use Rattle.schedule_player.proofs.observers.Books.{idle_rows, same_rows, idle_replies, length_replies}
use Rattle.schedule_player.proofs.observers.AuditResults.{LookedUp, looked_up, seen_as, busy_first, busy_second, apart, same_length, adds_books}
use Rattle.cown_board.proofs.LogLaws.{no_some as none_some}
use Rattle.schedule_player.proofs.events.WorldStep.{on_err}
use Rattle.schedule_player.proofs.boards.BoardReplies.{within_log}
use Rattle.schedule_player.proofs.boards.Stages.{length-map}
use Rattle.schedule_player.proofs.world.World.audit.Goals as goal
use Rattle.schedule_player.proofs.world.World.audit.Goals.{After-index-2, Else-length, After-deref}

-- ---- the two replicas, as they were looked up

look_one : (c : After-index-2) → LookedUp c.args.self.now c.args.first c.index.result.now
look_one c =
    let w = c.self.inside in
    looked_up w.directory w.opening w.sequencer w.nodes.items c.args.self.now c.args.first c.index.result.now c.self.view_is c.self.invariant
    c.requires.replicas.0 c.index.ensures

look_other : (c : After-index-2) → LookedUp c.args.self.now c.args.second c.index-2.result.now
look_other c =
    let w = c.self.inside in
    looked_up w.directory w.opening w.sequencer w.nodes.items c.args.self.now c.args.second c.index-2.result.now c.self.view_is c.self.invariant
    c.requires.replicas.1 c.index-2.ensures

-- the caller sees them so
as_seen : (c : After-index-2) (one other : NodeOf) → slice_get c.args.self.now.nodes c.args.first ≡ Some one
    → slice_get c.args.self.now.nodes c.args.second ≡ Some other
    → audit_result (bank_of c.args.self.now) c.args.first c.args.second (machine_node c.index.result.now) (machine_node c.index-2.result.now)
    ≡ audit_result (bank_of c.args.self.now) c.args.first c.args.second one other
as_seen c one other seen_one seen_other = λ j.
    audit_result (bank_of c.args.self.now) c.args.first c.args.second
    (seen_as c.args.self.now c.args.first c.index.result.now one (look_one c) seen_one j)
    (seen_as c.args.self.now c.args.second c.index-2.result.now other (look_other c) seen_other j)

-- ---- the answer at each return

pub returns-in_default-clause-value : goal.returns-in_default-clause-value
returns-in_default-clause-value c one other seen_one seen_other =
    let looks = (goal.at.returns-in_default-clause-value c).After-index-2 in
    busy_first (bank_of c.args.self.now) c.args.first c.args.second c.index.result.now c.index-2.result.now
    (look_one looks).consistent (look_other looks).consistent
    c.in_default.ensures.value ∙ as_seen looks one other seen_one seen_other

pub returns-in_default-final_columns-clause-value : goal.returns-in_default-final_columns-clause-value
returns-in_default-final_columns-clause-value c one other seen_one seen_other =
    let looks = (goal.at.returns-in_default-final_columns-clause-value c).After-index-2 in
    busy_second (bank_of c.args.self.now) c.args.first c.args.second c.index.result.now c.index-2.result.now (look_one looks).consistent
    (look_other looks).consistent c.in-Some.ensures.value.0 c.in_default-final_columns.ensures.value ∙ as_seen looks one other seen_one seen_other

pub returns-then-length-clause-value : goal.returns-then-length-clause-value
returns-then-length-clause-value c one other seen_one seen_other =
    let looks = (goal.at.returns-then-length-clause-value c).After-index-2 in
    let one_length = c.length-then-length in
    let other_length = c.length-then-length-2 in
    apart (bank_of c.args.self.now) c.args.first c.args.second c.index.result.now c.index-2.result.now (look_one looks).consistent (look_other looks).consistent
    one_length.result other_length.result c.in-Some.ensures.value.0 c.in-Some-final_columns.ensures.value.0 one_length.ensures.value
    other_length.ensures.value
    (λ e. c.if-length.true (c.length.ensures.value ∙ sym one_length.ensures.value ∙ e ∙ other_length.ensures.value ∙ sym c.length-2.ensures.value))
    ∙ as_seen looks one other seen_one seen_other

-- ---- two idle replicas of one length

alike : (c : Else-length) → length_of c.index.result.now.replica.board ≡ length_of c.index-2.result.now.replica.board
alike c = sym c.length.ensures.value ∙ c.if-length.false ∙ c.length-2.ensures.value

-- their columns are the same
same_columns : (c : Else-length) → c.in-Some.left.now ≡ c.in-Some-final_columns.right.now
same_columns c =
    let looks = (goal.at.first_place-requires-clause-savings c).After-index-2 in
    same_rows (bank_of c.args.self.now) c.args.first c.args.second c.index.result.now c.index-2.result.now c.in-Some.left.now
    c.in-Some-final_columns.right.now (look_one looks).consistent (look_other looks).consistent c.in-Some.ensures.bank c.in-Some-final_columns.ensures.bank
    c.in-Some.ensures.value.1 c.in-Some-final_columns.ensures.value.1 (alike c)

pub first_place-requires-clause-savings : goal.first_place-requires-clause-savings
first_place-requires-clause-savings c = ap (λ b. length b.savings) (same_columns c)

pub first_place-requires-clause-checking : goal.first_place-requires-clause-checking
first_place-requires-clause-checking c = ap (λ b. length b.checking) (same_columns c)

-- so no place differs
pub returns-in-Some-first_place-clause-value : goal.returns-in-Some-first_place-clause-value
returns-in-Some-first_place-clause-value c one other seen_one seen_other =
    absurd (none_some (sym (c.first_place.ensures.1 (same_columns (goal.at.returns-in-Some-first_place-clause-value c).Else-length))
    ∙ c.in-Some-first_place.is))

-- memory may be refused for the replies, and for the books
wants : (c : Else-length) → let now = c.args.self.now in
    may_take_memory (audit_if (bank_of now) c.args.first c.args.second (slice_get now.nodes c.args.first) (slice_get now.nodes c.args.second)) ≡ true
wants c =
    let looks = (goal.at.first_place-requires-clause-savings c).After-index-2 in
    adds_books c.args.self.now c.args.first c.args.second c.index.result.now c.index-2.result.now (look_one looks) (look_other looks)
    c.in-Some.ensures.value.0 c.in-Some-final_columns.ensures.value.0 (alike c)

pub returns-in_err-replies-clause-wanted : goal.returns-in_err-replies-clause-wanted
returns-in_err-replies-clause-wanted c =
    on_err c.from_residual.result (wants (goal.at.returns-in_err-replies-clause-wanted c).Else-length)

-- ---- the books

-- the replies are those of the first replica's whole log
held : (c : After-deref) → c.deref.result.now ≡ board_replies c.index.result.now.replica.board
held c = c.deref.ensures.value ∙ c.in_ok-replies.ensures.value

size : (c : After-deref) → length c.deref.result.now ≡ length_of c.index.result.now.replica.board
size c =
    let looks = (goal.at.books-requires-clause-limit c).After-index-2 in
    ap length (held c)
    ∙ length_replies (bank_of c.args.self.now) c.args.first c.index.result.now (look_one looks).consistent c.in-Some.ensures.value.0

pub books-requires-clause-limit : goal.books-requires-clause-limit
books-requires-clause-limit c =
    let looks = (goal.at.books-requires-clause-limit c).After-index-2 in
    let now = c.args.self.now in
    let bank = bank_of now in
    let count = size c in
    let within = within_log (contents_of bank.opening) (ops_of bank) c.index.result.now.replica.board (look_one looks).consistent.board in
    let ops = length-map (op_of bank.names) bank.calls in
    let calls = length-map (λ entry. entry.1) now.sequencer.synced.log in
    omega (arith, count, within, ops, calls)

pub books-requires-clause-rows : goal.books-requires-clause-rows
books-requires-clause-rows c =
    let looks = (goal.at.books-requires-clause-rows c).After-index-2 in
    let bank = bank_of c.args.self.now in
    subst (λ n. IsRowsAt bank n c.in-Some.left.now) (sym (size c))
    (idle_rows bank c.args.first c.index.result.now c.in-Some.left.now (look_one looks).consistent c.in-Some.ensures.bank c.in-Some.ensures.value.1)

pub books-requires-clause-replies : goal.books-requires-clause-replies
books-requires-clause-replies c =
    let looks = (goal.at.books-requires-clause-replies c).After-index-2 in
    let bank = bank_of c.args.self.now in
    subst (λ replies. replies ≡ take (length replies) (replies_to (opening_rows bank) bank.calls)) (sym (held c))
    (idle_replies bank c.args.first c.index.result.now c.in-Some.left.now (look_one looks).consistent c.in-Some.ensures.value.0 c.in-Some.ensures.value.1)

pub returns-clause-value : goal.returns-clause-value
returns-clause-value c one other seen_one seen_other =
    let looks = (goal.at.returns-clause-value c).After-index-2 in
    c.books.ensures
    ∙ same_length (bank_of c.args.self.now) c.args.first c.args.second c.index.result.now c.index-2.result.now (look_one looks).consistent
    (look_other looks).consistent (length c.deref.result.now) c.in-Some.ensures.value.0 c.in-Some-final_columns.ensures.value.0
    (size (goal.at.returns-clause-value c).After-deref) (alike (goal.at.returns-clause-value c).Else-length)
    ∙ as_seen looks one other seen_one seen_other

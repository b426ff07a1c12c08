use Rattle.std.proofs.Common.{◌≡◌, ◌+◌, arith, ap, subst, ◌∙◌}
use Rattle.std.specs.Prelude.{slice_get}
use Rattle.sb_calls.specs.declared.op.Op.{Op}
use Rattle.cown_board.specs.Board.{BoardOf, length_of}
use Rattle.cown_workers.specs.Draining.{PreservesLog}
use Rattle.sb_replica.specs.Replica.{ReplicaOf, log_of}
use Rattle.sb_replica.specs.Offers.{after_offer}
use Rattle.sb_replica.specs.declared.offered.Offered.{Offered}
use Rattle.bank_server.proofs.boards.Boards.{put_after, put_after_run, idle_none_out}
use Rattle.bank_server.proofs.boards.NodeTurns.{goes_on, offers_next, same_length, stays_so}
use Rattle.bank_server.proofs.node0.execution.submit_op.Goals as goal

pub returns-in-Next-clause-put : goal.returns-in-Next-clause-put
returns-in-Next-clause-put g c =
    let op = c.args.op.now in
    let board_of : ReplicaOf g.row.S.Denot → BoardOf Op = λ r. r.board in
    let after : Offered → BoardOf Op = λ answer. (after_offer (log_of c.args.replica.now) op answer).board in
    put_after op c.args.replica.now.board c.offer_entry.new.self.board
    (ap board_of c.in_ok-offer_entry.ensures.state ∙ ap after c.in-Next.is)

pub returns-clause-put : goal.returns-clause-put
returns-clause-put g c =
    let op = c.args.op.now in
    let old = c.args.replica.now.board in
    let mid = c.execute_unfinished.new.replica.board in
    let board_of : ReplicaOf g.row.S.Denot → BoardOf Op = λ r. r.board in
    let before : Offered → BoardOf Op = λ answer. (after_offer (log_of c.args.replica.now) op answer).board in
    let after : Offered → BoardOf Op = λ answer. (after_offer (log_of c.execute_unfinished.new.replica) op answer).board in
    let same : c.offer_entry.new.self.board ≡ old = ap board_of c.in_ok-offer_entry.ensures.state ∙ ap before c.in-Busy.is in
    put_after_run op old mid c.offer_entry-2.new.self.board (subst (λ (b : BoardOf Op). PreservesLog b mid) same c.execute_unfinished.ensures.log)
    (idle_none_out mid c.in_ok-execute_unfinished-in-Busy.ensures.idle)
    (ap board_of c.in_ok-offer_entry-2.ensures.state ∙ ap after c.in-Next-2.is)

pub returns-in-Next-clause-none_out : goal.returns-in-Next-clause-none_out
returns-in-Next-clause-none_out g c = λ e none. (returns-in-Next-clause-put g c).none_out none

pub returns-clause-none_out : goal.returns-clause-none_out
returns-clause-none_out g c = λ e none. (returns-clause-put g c).none_out none

pub returns-in-Next-clause-turns : goal.returns-in-Next-clause-turns
returns-in-Next-clause-turns g c log next =
    offers_next log c.args.replica.now c.offer_entry.new.self c.args.op.now (c.length-number.result + 1) c.in_ok-offer_entry.field-0 next
    (omega (arith, c.length-number.ensures.value)) c.in_ok-offer_entry.ensures.answer c.in_ok-offer_entry.ensures.state

pub returns-in_err-execute_unfinished-in-Busy-clause-turns : goal.returns-in_err-execute_unfinished-in-Busy-clause-turns
returns-in_err-execute_unfinished-in-Busy-clause-turns g c log next =
    goes_on log
    (offers_next log c.args.replica.now c.offer_entry.new.self c.args.op.now (c.length-number.result + 1) c.in_ok-offer_entry.field-0 next
    (omega (arith, c.length-number.ensures.value)) c.in_ok-offer_entry.ensures.answer c.in_ok-offer_entry.ensures.state)
    (c.execute_unfinished.ensures.turns log)

pub returns-in_err-offer_entry-2-clause-turns : goal.returns-in_err-offer_entry-2-clause-turns
returns-in_err-offer_entry-2-clause-turns g c log next =
    goes_on log
    (offers_next log c.args.replica.now c.offer_entry.new.self c.args.op.now (c.length-number.result + 1) c.in_ok-offer_entry.field-0 next
    (omega (arith, c.length-number.ensures.value)) c.in_ok-offer_entry.ensures.answer c.in_ok-offer_entry.ensures.state)
    (goes_on log (c.execute_unfinished.ensures.turns log) (stays_so log c.in_err-offer_entry-2.ensures.state))

pub returns-clause-turns : goal.returns-clause-turns
returns-clause-turns g c log next =
    let op = c.args.op.now in
    let old = c.args.replica.now in
    let executed = c.execute_unfinished.new.replica in
    let board_of : ReplicaOf g.row.S.Denot → BoardOf Op = λ r. r.board in
    let before : Offered → BoardOf Op = λ answer. (after_offer (log_of old) op answer).board in
    let same : c.offer_entry.new.self.board ≡ old.board = ap board_of c.in_ok-offer_entry.ensures.state ∙ ap before c.in-Busy.is in
    let size : length_of executed.board ≡ length_of old.board = same_length c.execute_unfinished.ensures.log ∙ ap length_of same in
    goes_on log
    (offers_next log old c.offer_entry.new.self op (c.length-number.result + 1) c.in_ok-offer_entry.field-0 next
    (omega (arith, c.length-number.ensures.value)) c.in_ok-offer_entry.ensures.answer c.in_ok-offer_entry.ensures.state)
    (goes_on log (c.execute_unfinished.ensures.turns log)
    (offers_next log executed c.offer_entry-2.new.self op (c.length-number.result + 1) c.in_ok-offer_entry-2.field-0
    (ap (slice_get log) size ∙ next) (omega (arith, c.length-number.ensures.value, size))
    c.in_ok-offer_entry-2.ensures.answer c.in_ok-offer_entry-2.ensures.state))

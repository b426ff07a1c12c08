use Rattle.std.proofs.Common.{arith, ◌≡◌, length, ap, subst}
use Rattle.std.specs.Io.KnownBytes.{Appends}
use Rattle.std.proofs.lemmas.List.{take_all}
use Rattle.std.proofs.lemmas.Result.{err_from_is_err_and}
use Rattle.sb_rows.specs.Rows.{Rows}
use Rattle.bank_server.specs.Clients.{piece_of}
use Rattle.bank_server.specs.Primary.{PreservesBank, opening_rows_of}
use Rattle.bank_server.specs.SessionFaults.{as_session, session_of_turn_fault}
use Rattle.bank_server.specs.inner.ClientTurns.{TellsClient}
use Rattle.bank_server.proofs.boards.WholeReplies.{after_ok, err_always, same_opening}
use Rattle.bank_server.proofs.clients.ClientTurns.{stops_behind}
use Rattle.bank_server.proofs.clients.OneClient.{flush_of_crew, flush_of_turn, piece_heard, piece_told}
use Rattle.bank_server.proofs.sessions.FrameSteps.{keeps_on}
use Rattle.bank_server.proofs.sessions.Serving.{serves_numbered}
use Rattle.bank_server.proofs.session.single_session.serve_piece.Goals as goal

pub returns-then-not-branch-clause-served : goal.returns-then-not-branch-clause-served
returns-then-not-branch-clause-served g c =
    let old = c.args.primary.now in
    (piece_heard (opening_rows_of old) old.log c.args.client.now (g.W.Write.contents c.args.writer.now.writer.now)
    (piece_of c.args.chunk.now c.args.read) c.stir.new.primary.log c.offer_rest.new.self.log c.stir.new.client c.in_ok-stir.ensures.heard
    (ap (λ p. p.log) c.offer_rest.ensures.unchanged))

pub returns-in_err-offer_rest-clause-stopped : goal.returns-in_err-offer_rest-clause-stopped
returns-in_err-offer_rest-clause-stopped g c =
    let old = c.args.primary.now in
    err_always _ (stops_behind (opening_rows_of old) old.log c.args.client.now (piece_of c.args.chunk.now c.args.read) c.stir.new.primary.log
    c.stir.new.client c.offer_rest.new.self.log c.in_ok-stir.ensures.heard (ap (λ p. p.log) c.offer_rest.ensures.unchanged))

pub returns-in_err-offer_rest-clause-serves : goal.returns-in_err-offer_rest-clause-serves
returns-in_err-offer_rest-clause-serves g c =
    let p = err_from_is_err_and c.from_residual-in_err-offer_rest.result c.from_residual-in_err-offer_rest.ensures.1 in
    rw (p.1, p.2) (serves_numbered _ c.args.primary.now c.stir.new.primary c.offer_rest.new.self c.stir.ensures.numbered c.in_err-offer_rest.ensures.serves)

pub returns-in_err-offer_rest-clause-fault : goal.returns-in_err-offer_rest-clause-fault
returns-in_err-offer_rest-clause-fault g c =
    let p = err_from_is_err_and c.from_residual-in_err-offer_rest.result c.from_residual-in_err-offer_rest.ensures.1 in
    rw (p.1, p.2) (flush_of_crew c.in_err-offer_rest.field-0.0)

pub returns-then-not-branch-clause-serves : goal.returns-then-not-branch-clause-serves
returns-then-not-branch-clause-serves g c =
    serves_numbered _ c.args.primary.now c.stir.new.primary c.offer_rest.new.self c.stir.ensures.numbered c.in_ok-offer_rest.ensures.serves

pub returns-in_err-settle_and_keep-clause-fault : goal.returns-in_err-settle_and_keep-clause-fault
returns-in_err-settle_and_keep-clause-fault g c =
    let p = err_from_is_err_and c.from_residual-in_err-settle_and_keep.result c.from_residual-in_err-settle_and_keep.ensures.1 in
    rw (p.1, p.2) (flush_of_turn c.in_err-settle_and_keep.field-0.0)

pub returns-in_err-settle_and_keep-clause-stopped : goal.returns-in_err-settle_and_keep-clause-stopped
returns-in_err-settle_and_keep-clause-stopped g c =
    let old = c.args.primary.now in
    err_always _ (stops_behind (opening_rows_of old) old.log c.args.client.now (piece_of c.args.chunk.now c.args.read) c.stir.new.primary.log
    c.stir.new.client c.settle_and_keep.new.primary.log c.in_ok-stir.ensures.heard c.settle_and_keep.ensures.log)

pub returns-in_err-settle_and_keep-clause-serves : goal.returns-in_err-settle_and_keep-clause-serves
returns-in_err-settle_and_keep-clause-serves g c =
    let p = err_from_is_err_and c.from_residual-in_err-settle_and_keep.result c.from_residual-in_err-settle_and_keep.ensures.1 in
    rw (p.1, p.2) (serves_numbered _ c.args.primary.now c.stir.new.primary c.settle_and_keep.new.primary c.stir.ensures.numbered
    c.in_err-settle_and_keep.ensures.serves)

pub returns-in_err-tell_client-clause-stopped : goal.returns-in_err-tell_client-clause-stopped
returns-in_err-tell_client-clause-stopped g c =
    let old = c.args.primary.now in
    err_always _ (stops_behind (opening_rows_of old) old.log c.args.client.now (piece_of c.args.chunk.now c.args.read) c.stir.new.primary.log
    c.stir.new.client c.settle_and_keep.new.primary.log c.in_ok-stir.ensures.heard c.settle_and_keep.ensures.log)

pub returns-in_err-tell_client-clause-serves : goal.returns-in_err-tell_client-clause-serves
returns-in_err-tell_client-clause-serves g c =
    let p = err_from_is_err_and c.from_residual-in_err-tell_client.result c.from_residual-in_err-tell_client.ensures.1 in
    let step = serves_numbered (as_session session_of_turn_fault c.settle_and_keep.result) c.args.primary.now c.stir.new.primary
    c.settle_and_keep.new.primary c.stir.ensures.numbered c.settle_and_keep.ensures.serves in
    rw (p.1, p.2) (record { bank = step.bank; none_out = step.none_out; crew_lost = tt; log_lost = tt })

pub returns-then-is_err-clause-stopped : goal.returns-then-is_err-clause-stopped
returns-then-is_err-clause-stopped g c =
    let old = c.args.primary.now in
    stops_behind (opening_rows_of old) old.log c.args.client.now (piece_of c.args.chunk.now c.args.read) c.stir.new.primary.log
    c.stir.new.client c.settle_and_keep.new.primary.log c.in_ok-stir.ensures.heard c.settle_and_keep.ensures.log

pub returns-then-is_err-clause-serves : goal.returns-then-is_err-clause-serves
returns-then-is_err-clause-serves g c =
    let step = serves_numbered (as_session session_of_turn_fault c.settle_and_keep.result) c.args.primary.now c.stir.new.primary
    c.settle_and_keep.new.primary c.stir.ensures.numbered c.settle_and_keep.ensures.serves in
    record { bank = step.bank; none_out = step.none_out; crew_lost = tt; log_lost = tt }

pub returns-clause-served : goal.returns-clause-served
returns-clause-served g c =
    let old = c.args.primary.now in
    let mid = c.settle_and_keep.new.primary in
    let start = g.W.Write.contents c.args.writer.now.writer.now in
    let written = g.W.Write.contents c.write_outcomes.new.self.writer.now in
    let told = c.tell_client.new.client in
    let count = length c.outcomes-told.result.now in
    let all : count ≡ length told.outcomes = ap length c.outcomes-told.ensures in
    let bank : PreservesBank g.K.Keeper.model old mid =
    keeps_on old c.stir.new.primary mid c.stir.ensures.numbered.bank c.settle_and_keep.ensures.serves.bank in
    let tells : TellsClient (opening_rows_of old) mid.log c.stir.new.client told =
    subst (λ (rows : Rows). TellsClient rows mid.log c.stir.new.client told) (same_opening old mid bank) c.in_ok-tell_client.ensures.told in
    piece_told (opening_rows_of old) old.log c.args.client.now start (piece_of c.args.chunk.now c.args.read) c.stir.new.primary.log c.stir.new.client
    mid.log told c.sent.new.self written count c.in_ok-stir.ensures.heard c.settle_and_keep.ensures.log tells
    (subst (Appends start written) c.outcomes.ensures (after_ok c.write_outcomes.result c.if-is_err.ensures.value c.write_outcomes.ensures.written))
    (take_all count told.outcomes (omega (arith, all))) c.sent.ensures

pub returns-clause-serves : goal.returns-clause-serves
returns-clause-serves g c =
    let step = serves_numbered (as_session session_of_turn_fault c.settle_and_keep.result) c.args.primary.now c.stir.new.primary
    c.settle_and_keep.new.primary c.stir.ensures.numbered c.settle_and_keep.ensures.serves in
    record { bank = step.bank; none_out = step.none_out; crew_lost = tt; log_lost = tt }

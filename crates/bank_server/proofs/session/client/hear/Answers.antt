use Rattle.std.proofs.Common.{rules, ◌≡◌, Some, sym, ap, subst, take, ◌∙◌}
use Rattle.std.specs.Prelude.{OnErr, OnOk}
use Rattle.bank_server.specs.Clients.{Piece, piece_of}
use Rattle.bank_server.specs.Primary.{opening_rows_of}
use Rattle.bank_server.specs.inner.ClientTurns.{HearsClient, StopsHearing}
use Rattle.bank_server.proofs.clients.ClientTurns.{hears_deaf, hears_ending, hears_failure}
use Rattle.bank_server.proofs.sessions.Keeping.{numbers_nothing}
use Rattle.bank_server.proofs.session.client.hear.Goals as goal

pub returns-in-None-clause-heard : goal.returns-in-None-clause-heard
returns-in-None-clause-heard g c =
    let opening = opening_rows_of c.args.primary.now in
    let log = c.args.primary.now.log in
    subst (λ (p : Piece). HearsClient opening log c.args.client.now p log c.hear_failure.new.client) (sym (ap (piece_of c.args.chunk.now) c.in-None.is))
    (hears_failure opening log c.args.client.now c.hear_failure.new.client c.hear_failure.ensures)

pub returns-in-None-clause-numbered : goal.returns-in-None-clause-numbered
returns-in-None-clause-numbered g c = numbers_nothing c.args.primary.now

pub returns-in-Some-clause-heard : goal.returns-in-Some-clause-heard
returns-in-Some-clause-heard g c =
    let opening = opening_rows_of c.args.primary.now in
    let log = c.args.primary.now.log in
    subst (λ (p : Piece). HearsClient opening log c.args.client.now p log c.args.client.now) (sym (ap (piece_of c.args.chunk.now) c.in-Some.is))
    (hears_deaf opening log c.args.client.now (take c.in-Some.field-0 c.args.chunk.now) (sym c.has_ended.ensures ∙ c.if-has_ended.true))

pub returns-in-Some-clause-numbered : goal.returns-in-Some-clause-numbered
returns-in-Some-clause-numbered g c = numbers_nothing c.args.primary.now

pub returns-in-Some-eq0-clause-heard : goal.returns-in-Some-eq0-clause-heard
returns-in-Some-eq0-clause-heard g c =
    let opening = opening_rows_of c.args.primary.now in
    let log = c.args.primary.now.log in
    let none : c.in-Some-eq0.field-0 ≡ 0 = search rules in
    subst (λ (p : Piece). HearsClient opening log c.args.client.now p log c.hear_end.new.client)
    (sym (ap (piece_of c.args.chunk.now) (c.in-Some-eq0.is ∙ ap Some none)))
    (hears_ending opening log c.args.client.now c.hear_end.new.client (sym c.has_ended.ensures ∙ c.if-has_ended.false) c.hear_end.ensures)

pub returns-in-Some-eq0-clause-numbered : goal.returns-in-Some-eq0-clause-numbered
returns-in-Some-eq0-clause-numbered g c = numbers_nothing c.args.primary.now

pub returns-in-Some-2-clause-heard : goal.returns-in-Some-2-clause-heard
returns-in-Some-2-clause-heard g c =
    subst (λ (p : Piece). OnOk c.hear_bytes.result
    (HearsClient (opening_rows_of c.args.primary.now) c.args.primary.now.log c.args.client.now p c.hear_bytes.new.primary.log c.hear_bytes.new.client))
    (sym (ap (piece_of c.args.chunk.now) c.in-Some-2.is)) c.hear_bytes.ensures.heard

pub returns-in-Some-2-clause-stopped : goal.returns-in-Some-2-clause-stopped
returns-in-Some-2-clause-stopped g c =
    subst (λ (p : Piece). OnErr c.hear_bytes.result
    (StopsHearing (opening_rows_of c.args.primary.now) c.args.primary.now.log c.args.client.now p c.hear_bytes.new.primary.log))
    (sym (ap (piece_of c.args.chunk.now) c.in-Some-2.is)) c.hear_bytes.ensures.stopped

use Rattle.std.proofs.Common.{◌∙◌, ap, sym}
use Rattle.bank_server.specs.Clients.{ClientsOf}
use Rattle.bank_program.proofs.serving.serve_bank.Goals as goal

pub returns-clause-served : goal.returns-clause-served
returns-clause-served g c =
    let opened = c.in_ok-sessions.ensures in
    rw (sym opened.connections, c.places_of-places.ensures ∙ sym (ap (λ (clients : ClientsOf). clients.all) opened.clients), sym c.into_inner-primary.ensures)
    c.serve.ensures.served

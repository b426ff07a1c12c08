use Rattle.std.proofs.Common.{refl, ap, ◌∙◌, ◌++◌, ◌∷◌, [], List}
use Rattle.bank_server.specs.Primary.{opening_rows_of}
use Rattle.bank_server.specs.declared.session.inbox.PendingAsk.{PendingAsk}
use Rattle.bank_server.proofs.clients.ClientSteps.{ask_leads_client}
use Rattle.bank_server.proofs.sessions.Keeping.{numbers_nothing}
use Rattle.bank_server.proofs.session.inbox.number_ask.Goals as goal

pub returns-clause-leads : goal.returns-clause-leads
returns-clause-leads g c due outcomes =
    let ask : PendingAsk = record { key = c.args.key; standing = c.in_ok-standing.standing } in
    ask_leads_client (opening_rows_of c.args.primary.now)
    (record { log = c.args.primary.now.log; pending = c.args.pending.now.items; due = due; outcomes = outcomes })
    (record { log = c.ask.new.self.log; pending = c.push_reserved.new.self.items; due = due; outcomes = outcomes })
    c.args.key c.args.call.now c.in_ok-standing.standing c.in_ok-standing.ensures.asked
    (c.push_reserved.ensures.items ∙ ap (λ (l : List PendingAsk). l ++ ask ∷ []) c.in_ok-reserve.ensures.items) refl refl

pub returns-in_err-reserve-clause-numbered : goal.returns-in_err-reserve-clause-numbered
returns-in_err-reserve-clause-numbered g c = numbers_nothing c.args.primary.now

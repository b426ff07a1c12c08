use Rattle.std.proofs.Common.{rules, ◌≡◌, length, refl, sym, subst, ◌∷◌, []}
use Rattle.sb_frames.specs.declared.frame.Frame.{Frame}
use Rattle.bank_server.specs.inner.ClientSteps.{ClientState, LeadsClient, inbox_state}
use Rattle.bank_server.specs.Primary.{opening_rows_of}
use Rattle.bank_server.proofs.clients.ClientSteps.{flush_leads_client}
use Rattle.bank_server.proofs.sessions.Keeping.{numbers_nothing}
use Rattle.bank_server.proofs.session.inbox.take_frame.Goals as goal

pub returns-in-Flush-clause-leads : goal.returns-in-Flush-clause-leads
returns-in-Flush-clause-leads g c outcomes =
    let opening = opening_rows_of c.args.primary.now in
    let old = inbox_state c.args.primary.now.log c.args.inbox.now outcomes in
    let new : ClientState = record old { due = c.len-inbox.result } in
    let all : c.len-inbox.result ≡ length c.args.inbox.now.pending.items = search rules in
    subst (λ (frame : Frame). LeadsClient opening old (frame ∷ []) new) (sym c.in-Flush.is) (flush_leads_client opening old new refl refl all refl)

pub returns-then-len-inbox-clause-numbered : goal.returns-then-len-inbox-clause-numbered
returns-then-len-inbox-clause-numbered g c = numbers_nothing c.args.primary.now

pub returns-in-Flush-clause-numbered : goal.returns-in-Flush-clause-numbered
returns-in-Flush-clause-numbered g c = numbers_nothing c.args.primary.now

pub returns-in_default-clause-numbered : goal.returns-in_default-clause-numbered
returns-in_default-clause-numbered g c = numbers_nothing c.args.primary.now

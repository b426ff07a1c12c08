use Rattle.std.proofs.Common.{◌≡◌, ◌++◌, None, Some, Err, refl, sym, ap, subst, ◌∙◌}
use Rattle.bank_server.specs.Clients.{ClientOf}
use Rattle.bank_server.specs.Primary.{opening_rows_of}
use Rattle.bank_server.specs.inner.ClientSteps.{StopsClient, inbox_state}
use Rattle.bank_server.specs.inner.ClientTurns.{HearsClient, StopsHearing, client_of, state_of_client}
use Rattle.bank_server.specs.declared.session.session_fault.SessionFault.{SessionFault}
use Rattle.bank_server.proofs.clients.ClientTurns.{has_bytes, hears_fault, hears_well, none_on, stops_hearing}
use Rattle.bank_server.proofs.boards.WholeReplies.{err_always}
use Rattle.bank_server.proofs.session.client.hear_bytes.Goals as goal

pub returns-in-Ok-clause-heard : goal.returns-in-Ok-clause-heard
returns-in-Ok-clause-heard g c =
    let inside = c.client.inside in
    let now = c.take_bytes-taken.new.inbox in
    let old = client_of inside.inbox inside.outcomes.items inside.counts inside.limits inside.ending inside.broken in
    let new = client_of now inside.outcomes.items c.add.new.self inside.limits inside.ending inside.broken in
    let same : old ≡ c.args.client.now = c.client.view_is in
    let on : old.ending ≡ None = ap (λ (x : ClientOf). x.ending) same ∙ c.requires.on in
    subst (λ (x : ClientOf). HearsClient (opening_rows_of c.args.primary.now) c.args.primary.now.log x (Some c.args.bytes.now)
    c.take_bytes-taken.new.primary.log new)
    same
    (hears_well (opening_rows_of c.args.primary.now) c.args.primary.now.log old c.args.bytes.now c.take_bytes-taken.new.primary.log new
    (none_on old.ending on) (has_bytes c.args.bytes.now c.requires.some) refl refl c.in-Ok.ensures.short (c.in-Ok.ensures.handles inside.outcomes.items))

pub returns-in_ok-own_fault-in-Err-clause-heard : goal.returns-in_ok-own_fault-in-Err-clause-heard
returns-in_ok-own_fault-in-Err-clause-heard g c =
    let opening = opening_rows_of c.args.primary.now in
    let inside = c.client.inside in
    let now = c.take_bytes-taken.new.inbox in
    let own = c.in_ok-own_fault-in-Err.field-0 in
    let why = c.in_ok-own_fault-in-Err.ensures.own in
    let old = client_of inside.inbox inside.outcomes.items inside.counts inside.limits inside.ending inside.broken in
    let new = client_of now inside.outcomes.items c.add.new.self inside.limits (Some (Err own)) inside.broken in
    let same : old ≡ c.args.client.now = c.client.view_is in
    let on : old.ending ≡ None = ap (λ (x : ClientOf). x.ending) same ∙ c.requires.on in
    subst (λ (x : ClientOf). HearsClient opening c.args.primary.now.log x (Some c.args.bytes.now) c.take_bytes-taken.new.primary.log new) same
    (hears_fault opening c.args.primary.now.log old c.args.bytes.now c.take_bytes-taken.new.primary.log new own
    (none_on old.ending on) (has_bytes c.args.bytes.now c.requires.some) refl refl (λ short. why.1 (sym why.0 ∙ short))
    (subst (λ (fault : SessionFault). StopsClient opening inside.limits.asks (state_of_client c.args.primary.now.log old)
    (old.stream.unread ++ c.args.bytes.now) fault (state_of_client c.take_bytes-taken.new.primary.log new)) (sym why.0)
    (c.in-Err.ensures.stops inside.outcomes.items)))

pub returns-in_err-own_fault-in-Err-clause-stopped : goal.returns-in_err-own_fault-in-Err-clause-stopped
returns-in_err-own_fault-in-Err-clause-stopped g c =
    let opening = opening_rows_of c.args.primary.now in
    let inside = c.client.inside in
    let log = c.take_bytes-taken.new.primary.log in
    let old = client_of inside.inbox inside.outcomes.items inside.counts inside.limits inside.ending inside.broken in
    let same : old ≡ c.args.client.now = c.client.view_is in
    let on : old.ending ≡ None = ap (λ (x : ClientOf). x.ending) same ∙ c.requires.on in
    err_always _ (subst (λ (x : ClientOf). StopsHearing opening c.args.primary.now.log x (Some c.args.bytes.now) log) same
    (stops_hearing opening c.args.primary.now.log old c.args.bytes.now inside.limits.asks _
    (inbox_state log c.take_bytes-taken.new.inbox inside.outcomes.items) (none_on old.ending on)
    (c.in-Err.ensures.stops inside.outcomes.items)))

use Rattle.std.proofs.Common.{rules, ◌≡◌, ◌<◌, None, Some, Err, ℕ, length, refl, subst}
use Rattle.std.specs.Prelude.{◌⊎◌}
use Rattle.bank_server.specs.Clients.{ClientOf}
use Rattle.bank_server.specs.Primary.{opening_rows_of}
use Rattle.bank_server.specs.declared.session.session_fault.SessionFault.TheVariants.{Device}
use Rattle.bank_server.specs.inner.ClientTurns.{TellsClient, client_of}
use Rattle.bank_server.proofs.clients.ClientTurns.{tells_client}
use Rattle.bank_server.proofs.session.client.tell_client.Goals as goal

pub returns-clause-told : goal.returns-clause-told
returns-clause-told g c =
    let primary = c.args.primary.now in
    let inside = c.client.inside in
    let now = c.push_due.new.self in
    let out = c.push_due.new.out.items in
    let told = c.in_ok-push_due.ensures in
    let old = client_of inside.inbox inside.outcomes.items inside.counts inside.limits inside.ending inside.broken in
    let new = client_of now out inside.counts inside.limits c.ending_by-client-inside.result inside.broken in
    let len : c.len.result ≡ length out = search rules in
    subst (λ (x : ClientOf). TellsClient (opening_rows_of primary) primary.log x new) c.client.view_is
    (tells_client (opening_rows_of primary) primary.log old new told.behind.0 refl told.stream refl told.tells told.behind.1
    (subst (λ (n : ℕ). (new.ending ≡ old.ending) ⊎ ((old.ending ≡ None) × (new.ending ≡ Some (Err Device)) × (inside.limits.unread < n))) len
    c.ending_by-client-inside.ensures.ends))

use Rattle.std.proofs.Common.{◌≡◌, ◌++◌, ◌∷◌, [], List, length, sym, ap, subst, ◌∙◌}
use Rattle.bank_server.specs.Clients.{ClientOf, StaysReady, StaysServed, fresh_client, no_past, past_with}
use Rattle.bank_server.proofs.clients.ClientPlaces.{joins_ready, joins_served}
use Rattle.bank_server.proofs.session.places.add_client.Goals as goal

pub returns-clause-ready : goal.returns-clause-ready
returns-clause-ready c =
    let old = c.args.all.now.items in
    let items : c.push.new.self.items ≡ old ++ fresh_client c.args.limits ∷ [] =
    c.in_ok-push.ensures.items ∙ ap (λ (x : ClientOf). old ++ x ∷ []) c.new.ensures in
    subst (λ (l : List ClientOf). StaysReady old l) (sym items) (joins_ready c.args.limits old)

pub returns-clause-served : goal.returns-clause-served
returns-clause-served c =
    let old = c.args.all.now.items in
    let items : c.push.new.self.items ≡ old ++ fresh_client c.args.limits ∷ [] =
    c.in_ok-push.ensures.items ∙ ap (λ (x : ClientOf). old ++ x ∷ []) c.new.ensures in
    subst (λ (l : List ClientOf). StaysServed (past_with (length old) no_past) old l) (sym items) (joins_served c.args.limits old)

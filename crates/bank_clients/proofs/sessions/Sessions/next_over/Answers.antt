use Rattle.std.proofs.Common.{◌≡◌, ℕ, ◌≤◌, ◌<◌, List, All, length, get_or, ap, subst, ◌∙◌}
use Rattle.std.proofs.lemmas.List.{take_all}
use Rattle.std.proofs.lemmas.List.Elements.{All-more}
use Rattle.bank_server.specs.Clients.{End}
use Rattle.bank_clients.specs.Sessions.{SessionsOf}
use Rattle.bank_clients.specs.inner.Rounds.{IsOverAlone}
use Rattle.bank_clients.proofs.Leaving.{none_over}
use Rattle.bank_clients.proofs.sessions.Sessions.next_over.Goals as goal

pub loop-place-preserved : goal.loop-place-preserved
loop-place-preserved g c =
    let leaving = c.args.self.now.leaving in
    let index = c.loop-place.place-index in
    let clients = c.args.self.now.clients.all in
    let items : c.deref-place-items.result.now ≡ leaving =
    c.deref-place-items.ensures.value ∙ ap (λ (s : SessionsOf g.row.A.Denot). s.leaving) c.self.view_is in
    let within : index < length leaving = subst (λ (l : List ℕ). index < length l) items c.loop-place-test.true in
    let none : (end : End) → ¬ IsOverAlone clients (get_or leaving index 0) end =
    subst (λ (l : List ℕ). (end : End) → ¬ IsOverAlone clients (get_or l index 0) end) items c.in_default.ensures.none in
    All-more (λ (place : ℕ). (end : End) → ¬ IsOverAlone clients place end) leaving index 0 within c.loop-place.invariant none

pub returns-in_err-place-clause-none : goal.returns-in_err-place-clause-none
returns-in_err-place-clause-none g c =
    let leaving = c.args.self.now.leaving in
    let index = c.loop-place.place-index in
    let clients = c.args.self.now.clients.all in
    let items : c.deref-place-items.result.now ≡ leaving =
    c.deref-place-items.ensures.value ∙ ap (λ (s : SessionsOf g.row.A.Denot). s.leaving) c.self.view_is in
    let past : length leaving ≤ index = subst (λ (l : List ℕ). length l ≤ index) items c.loop-place-test.false in
    rw c.from_residual.ensures (none_over clients leaving c.requires
    (subst (λ (l : List ℕ). All (λ (place : ℕ). (end : End) → ¬ IsOverAlone clients place end) l) (take_all index leaving past) c.loop-place.invariant)
    c.in_err-place.ensures.few)

use Rattle.std.proofs.Common.{ℕ, All, take}
use Rattle.bank_server.specs.Clients.{End}
use Rattle.bank_clients.specs.inner.Rounds.{IsOverAlone}
use Rattle.bank_clients.proofs.sessions.Sessions.next_over.Given as goal

-- none of those so far is over
abbrev pub invariant-loop-place : goal.invariant-loop-place
invariant-loop-place g l =
    All (λ (place : ℕ). (end : End) → ¬ IsOverAlone l.self.clients.all place end) (take l.place-index l.self.leaving)

use Rattle.std.proofs.Common.{◌≡◌, [], replicate}
use Rattle.bank_server.specs.Clients.{fresh_client}
use Rattle.bank_clients.proofs.sessions.Sessions.open.Given as goal

-- so many joined, within these limits
abbrev pub invariant-loop : goal.invariant-loop
invariant-loop g l = record {
  limits : l.clients.limits ≡ l.fn.limits;
  all : l.clients.all ≡ replicate l.counter (fresh_client l.fn.limits);
  stirred : l.clients.stirred ≡ [];
}

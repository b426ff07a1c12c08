use Rattle.std.proofs.Common.{drop}
use Rattle.bank_clients.specs.inner.Rounds.{AreToBeListed}
use Rattle.bank_clients.proofs.sessions.list_leaving.Given as goal

-- those so far are listed, if they have ended
abbrev pub invariant-loop-place : goal.invariant-loop-place
invariant-loop-place l = AreToBeListed l.leaving.items (drop l.place-index l.clients.stirred) l.clients.all

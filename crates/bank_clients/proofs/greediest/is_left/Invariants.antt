use Rattle.std.proofs.Common.{take}
use Rattle.bank_clients.specs.inner.Rounds.{HaveNoneUnread}
use Rattle.bank_clients.proofs.greediest.is_left.Given as goal

-- nothing is left for those so far
abbrev pub invariant-loop-place : goal.invariant-loop-place
invariant-loop-place l = HaveNoneUnread (take l.place-index l.clients.stirred) l.clients.all

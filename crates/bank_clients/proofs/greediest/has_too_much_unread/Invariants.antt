use Rattle.std.proofs.Common.{◌≡◌, ◌+◌, take}
use Rattle.std.specs.List.{sum_by}
use Rattle.bank_clients.specs.History.{unread_limit}
use Rattle.bank_clients.proofs.UnreadByAll.{unread}
use Rattle.bank_clients.proofs.greediest.has_too_much_unread.Given as goal

-- so much more may be unread
abbrev pub invariant-loop-place : goal.invariant-loop-place
invariant-loop-place l = l.left + sum_by unread (take l.place l.clients.all) ≡ unread_limit

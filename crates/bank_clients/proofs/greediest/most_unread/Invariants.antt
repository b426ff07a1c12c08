use Rattle.std.proofs.Common.{ℕ, ◌≤◌, ◌<◌, length}
use Rattle.bank_clients.proofs.UnreadByAll.{unread_at}
use Rattle.bank_clients.proofs.greediest.most_unread.Given as goal

-- nobody so far has more unread
abbrev pub invariant-loop-place : goal.invariant-loop-place
invariant-loop-place l = record {
  within : l.most < length l.clients.all;
  most : (i : ℕ) → i < l.place → unread_at l.clients.all i ≤ unread_at l.clients.all l.most;
}

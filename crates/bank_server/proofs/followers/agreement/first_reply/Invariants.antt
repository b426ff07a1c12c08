use Rattle.std.proofs.Common.{◌≡◌, ℕ, ◌+◌, ◌<◌, ◌≤◌}
use Rattle.cown_board.specs.Board.{reply_in}
use Rattle.bank_server.proofs.followers.agreement.first_reply.Given as goal

-- the replies so far are the same
abbrev pub invariant-loop-index : goal.invariant-loop-index
invariant-loop-index g l = record {
  begun : l.initial.index ≤ l.index;
  same : (k : ℕ) → l.initial.index ≤ k → k < l.index → reply_in l.first.board (k + 1) ≡ reply_in l.second.board (k + 1);
}

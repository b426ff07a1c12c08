use Rattle.std.proofs.Common.{◌≡◌, ◌≤◌, ◌⊎◌, ◌-◌}
use Rattle.bank_server.proofs.followers.started_followers.Followers.feed.Given as goal

-- only the number of entries that they were sent grows, up to the log's length
abbrev pub invariant-loop-self : goal.invariant-loop-self
invariant-loop-self g l = record {
  stays : l.self ≡ record l.fn.self { sent = l.self.sent };
  grows : l.fn.self.sent ≤ l.self.sent;
  within : (l.self.sent ≡ l.fn.self.sent) ⊎ (l.self.sent ≤ l.length);
}

abbrev pub decreases-loop-self : goal.decreases-loop-self
decreases-loop-self g l = l.length - l.self.sent

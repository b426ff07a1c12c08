use Rattle.std.proofs.Common.{false, length, not, refl, sym, ap, ◌∙◌, arith, inl, rules}
use Rattle.sb_log.proofs.durable_log.DurableLog.sync.Goals as goal

pub returns-in-Ok-clause-life : goal.returns-in-Ok-clause-life
returns-in-Ok-clause-life g c = rw (← c.self.view_is) (λ honest l life.
    let done = c.in-Ok.ensures.ok honest in
    let healthy = life.healthy_is ∙ ap not c.if-self.false in
    let reached = life.file.syncable_in healthy in (
      record l { synced = length l.content; told = l.given },
      (healthy, refl),
      record {
        file = record {
          content_is = life.file.content_is ∙ sym done.content_is;
          synced_in = omega (arith, ap length life.file.content_is, reached, done.reached);
          syncable_in = λ again. omega (arith, ap length done.content_is, reached, done.syncable_in);
        };
        healthy_is = life.healthy_is;
        holds = life.holds;
      },
    ))

pub returns-in-Err-clause-life : goal.returns-in-Err-clause-life
returns-in-Err-clause-life g c = rw (← c.self.view_is) (λ honest l life. (
  record l { healthy = false },
  inl (life.healthy_is ∙ ap not c.if-self.false, refl),
  record {
    file = record {
      content_is = life.file.content_is ∙ sym (c.in-Err.ensures.err honest).content_is;
      synced_in = omega (arith, life.file.synced_in, (c.in-Err.ensures.err honest).synced_in);
      syncable_in = λ again. absurd (search (rules, again));
    };
    healthy_is = refl;
    holds = λ again. absurd (search (rules, again));
  },
))

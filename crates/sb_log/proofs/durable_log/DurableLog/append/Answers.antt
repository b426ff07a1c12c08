use Rattle.std.proofs.Common.{◌≡◌, ◌++◌, ◌∷◌, [], false, not, refl, sym, ap, subst, ◌∙◌, arith, inl, rules, List, ℕ, take, drop}
use Rattle.sha2.specs.Hashers.{Holds256}
use Rattle.sb_log.specs.Records.{body_bytes, record_after}
use Rattle.sb_log.proofs.Records.{joined_push, longer_holds}
use Rattle.sb_log.proofs.durable_log.DurableLog.append.Goals as goal

pub returns-in-Ok-clause-life : goal.returns-in-Ok-clause-life
returns-in-Ok-clause-life g c = rw (← c.self.view_is) (λ honest l life.
    let body = drop 40 c.args.buffer.now in
    let last = record_after (body_bytes l.given) body in
    let holds = longer_holds c.args.buffer.now c.with_body-longer.result (body_bytes l.given) (c.with_body-longer.ensures (body_bytes l.given)
    (life.holds c.if-self.false)) in
    let bytes : c.write_head.new.bytes ≡ last = c.write_head.ensures.record (body_bytes l.given) holds in (
      record l { content = l.content ++ last; given = l.given ++ body ∷ [] },
      (life.healthy_is ∙ ap not c.if-self.false, c.requires.body, refl),
      record {
        file = record {
          content_is = ap (λ (c : List ℕ). c ++ last) life.file.content_is
              ∙ sym ((c.in-Ok.ensures.ok honest).content_is
              ∙ ap (λ (r : List ℕ). (g.F.LogFile.model c.self.inside.file).content ++ r) bytes);
          synced_in = omega (arith, life.file.synced_in, (c.in-Ok.ensures.ok honest).synced_in);
          syncable_in = λ healthy. (c.in-Ok.ensures.ok honest).syncable_in (life.file.syncable_in healthy);
        };
        healthy_is = life.healthy_is;
        holds = λ again. subst (Holds256 c.with_body-longer.result) (sym (joined_push l.given body)) holds;
      },
    ))

pub returns-in-Ok-clause-hasher : goal.returns-in-Ok-clause-hasher
returns-in-Ok-clause-hasher g c = rw (← c.self.view_is) (λ m h. longer_holds c.args.buffer.now c.with_body-longer.result m (c.with_body-longer.ensures m h))

pub returns-in-Err-clause-life : goal.returns-in-Err-clause-life
returns-in-Err-clause-life g c = rw (← c.self.view_is) (λ honest l life.
    let body = drop 40 c.args.buffer.now in
    let last = record_after (body_bytes l.given) body in
    let holds = longer_holds c.args.buffer.now c.with_body-longer.result (body_bytes l.given) (c.with_body-longer.ensures (body_bytes l.given)
    (life.holds c.if-self.false)) in
    let bytes : c.write_head.new.bytes ≡ last = c.write_head.ensures.record (body_bytes l.given) holds in
    let torn = c.in-Err.ensures.err honest in (
      record l { content = l.content ++ take torn.kept last; given = l.given ++ body ∷ []; healthy = false },
      inl (torn.kept, (life.healthy_is ∙ ap not c.if-self.false, c.requires.body, refl)),
      record {
        file = record {
          content_is = ap (λ (c : List ℕ). c ++ take torn.kept last) life.file.content_is
              ∙ sym (torn.content_is ∙ ap (λ (r : List ℕ). (g.F.LogFile.model c.self.inside.file).content ++ take torn.kept r) bytes);
          synced_in = omega (arith, life.file.synced_in, torn.synced_in);
          syncable_in = λ again. absurd (search (rules, again));
        };
        healthy_is = refl;
        holds = λ again. absurd (search (rules, again));
      },
    ))

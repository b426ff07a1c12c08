use Rattle.std.proofs.Common.{◌≡◌, ◌≤◌, ◌<◌, ◌+◌, ◌↔◌, ℕ, IsTrue, true≢false, length, drop, sym, ap, subst, ◌∙◌, arith, length-append, inl, inr}
use Rattle.std.proofs.lemmas.Bool.{cases_lt, eqb-true, eqb-false}
use Rattle.sb_log.proofs.Counts.{Counted, IsBlank, all_counted, one_more, piece_is}
use Rattle.sb_log.proofs.Staying.{stays_then}
use Rattle.sb_log.proofs.front.count_rest.Goals as goal
use Rattle.sb_log.proofs.front.count_rest.Goals.{then-blank, else-blank}

pub returns-then-is_empty-clause-size : goal.returns-then-is_empty-clause-size
returns-then-is_empty-clause-size g c honest =
    let content = (g.F.LogFile.model c.args.file.now).content in
    let here = c.loop.invariant.file.honest.0 honest in
    let piece = piece_is (g.F.LogFile.model c.loop.file).content content c.clear.new.self.items c.read_at.new.out.items c.args.at c.loop.size 65536
    (c.loop.invariant.file.content_is honest) c.clear.ensures.items (c.in_ok-read_at.ensures.read here) in
    let none : c.read_at.new.out.len ≡ 0 = eqb-true _ _ (sym c.is_empty.ensures ∙ c.if-is_empty.true) in
    (all_counted (drop c.args.at content) c.loop.size 65536 c.loop.blank (c.loop.invariant.counted honest) (omega arith)
    (ap length (sym piece) ∙ sym c.read_at.new.out.ok.0 ∙ none)).0

pub returns-then-is_empty-clause-blank : goal.returns-then-is_empty-clause-blank
returns-then-is_empty-clause-blank g c honest =
    let content = (g.F.LogFile.model c.args.file.now).content in
    let here = c.loop.invariant.file.honest.0 honest in
    let piece = piece_is (g.F.LogFile.model c.loop.file).content content c.clear.new.self.items c.read_at.new.out.items c.args.at c.loop.size 65536
    (c.loop.invariant.file.content_is honest) c.clear.ensures.items (c.in_ok-read_at.ensures.read here) in
    let none : c.read_at.new.out.len ≡ 0 = eqb-true _ _ (sym c.is_empty.ensures ∙ c.if-is_empty.true) in
    (all_counted (drop c.args.at content) c.loop.size 65536 c.loop.blank (c.loop.invariant.counted honest) (omega arith)
    (ap length (sym piece) ∙ sym c.read_at.new.out.ok.0 ∙ none)).1

pub loop-preserved : goal.loop-preserved
loop-preserved g c =
    let most = c.in_ok-read_at.ensures.most in
    let some : 0 < c.read_at.new.out.len = elim (cases_lt 0 c.read_at.new.out.len) [
      | inl lt ↦ lt
      | inr le ↦ absurd (eqb-false _ _ (sym c.is_empty.ensures ∙ c.if-is_empty.false) (omega (arith, le)))
    ] in
    let len : length c.read_at.new.out.items ≡ c.len-size.result = sym c.read_at.new.out.ok.0 ∙ sym c.len-size.ensures in
    let few : c.len-size.result ≤ 65536 =
    omega (arith, most.1, ap length most.2, length-append c.clear.new.self.items most.0, ap length c.clear.ensures.items, len) in
    record {
      file = stays_then g.F.LogFile.IsHonest g.F.LogFile.model c.args.file.now c.loop.file c.read_at.new.self
          c.loop.invariant.file c.read_at.ensures.file;
      counter = omega (arith, some, len, c.read_at.new.out.ok.0);
      bound = omega (arith, few);
      counted = λ honest.
          let content = (g.F.LogFile.model c.args.file.now).content in
          let here = c.loop.invariant.file.honest.0 honest in
          let piece = piece_is (g.F.LogFile.model c.loop.file).content content c.clear.new.self.items c.read_at.new.out.items c.args.at c.loop.size 65536
          (c.loop.invariant.file.content_is honest) c.clear.ensures.items (c.in_ok-read_at.ensures.read here) in
          let both : IsTrue c.if-blank.blank ↔ (IsTrue c.loop.blank × IsBlank c.read_at.new.out.items) = elim c.if-blank.branch [
            | then-blank w ↦ (
              (λ yes. (w.if-blank.true, subst IsBlank w.deref.ensures.value (w.is_blank-blank.ensures.0 (sym w.blank-is ∙ yes)))),
              (λ parts. w.blank-is ∙ w.is_blank-blank.ensures.1 (subst IsBlank (sym w.deref.ensures.value) parts.1)),
            )
            | else-blank w ↦ (
              (λ yes. absurd (true≢false (sym yes ∙ w.blank-is ∙ w.if-blank.false))),
              (λ parts. absurd (true≢false (sym parts.0 ∙ w.if-blank.false))),
            )
          ] in
          subst (λ (n : ℕ). Counted (drop c.args.at content) (c.loop.size + n) c.if-blank.blank) len
          (one_more (drop c.args.at content) c.read_at.new.out.items c.loop.size 65536 c.loop.blank c.if-blank.blank
          (c.loop.invariant.counted honest) piece both);
    }

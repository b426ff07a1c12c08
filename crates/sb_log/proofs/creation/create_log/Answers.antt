use Rattle.std.proofs.Common.{◌≡◌, ◌++◌, ◌∷◌, [], List, ℕ, Result, Err, length, length-drop, drop, take, refl, sym, ap, subst, ◌∙◌, arith, rules, inl, inr, true, false}
use Rattle.sb_log.specs.Lives.{Life}
use Rattle.sb_log.specs.LogCalls.{DoesCreate}
use Rattle.sb_log.specs.Records.{record_after}
use Rattle.sb_log.specs.declared.log_end.LogEnd.{LogEnd}
use Rattle.sb_log.specs.declared.log_fault.LogFault.{LogFault}
use Rattle.sb_log.specs.declared.log_fault.LogFault.TheVariants.{Device}
use Rattle.sb_log.proofs.Failures.{err_is, on_err, on_ok}
use Rattle.sb_log.proofs.Records.{length-record, longer_holds}
use Rattle.sb_log.proofs.creation.create_log.Goals as goal

-- a file to which the first record was appended
abbrev first_appended : List ℕ → Life
first_appended body = record { content = record_after [] body; synced = 0; given = body ∷ []; told = []; healthy = true }

-- what stands in a file that was empty
behind_nothing : (old new bytes last : List ℕ) → old ≡ [] → bytes ≡ last → new ≡ old ++ bytes → new ≡ last
behind_nothing old new bytes last empty is more = more ∙ ap (λ (l : List ℕ). l ++ bytes) empty ∙ is

pub returns-then-is_err-clause-life : goal.returns-then-is_err-clause-life
returns-then-is_err-clause-life g c honest =
    let body = drop 40 c.args.buffer.now in
    let holds = longer_holds c.args.buffer.now c.with_body-hasher.result [] (c.with_body-hasher.ensures [] c.new.ensures) in
    let bytes : c.write_head.new.bytes ≡ record_after [] body = c.write_head.ensures.record [] holds in
    let torn = on_err c.append.result _ (sym c.is_err.ensures.value ∙ c.if-is_err.true) (c.append.ensures.err honest) in
    let left : Life = record { content = take torn.kept (record_after [] body); synced = 0; given = body ∷ []; told = []; healthy = false } in (
      left,
      inl (torn.kept, (left, (refl, c.requires.body, refl), refl)),
      record {
        content_is = sym (behind_nothing (g.F.LogFile.model c.args.file.now).content (g.F.LogFile.model c.append.new.self).content
            (take torn.kept c.write_head.new.bytes) (take torn.kept (record_after [] body)) (c.requires.empty honest)
            (ap (λ (l : List ℕ). take torn.kept l) bytes) torn.content_is);
        synced_in = omega arith;
        syncable_in = λ again. absurd (search (rules, again));
      },
    )

pub returns-in_err-sync_all-clause-life : goal.returns-in_err-sync_all-clause-life
returns-in_err-sync_all-clause-life g c honest =
    let body = drop 40 c.args.buffer.now in
    let holds = longer_holds c.args.buffer.now c.with_body-hasher.result [] (c.with_body-hasher.ensures [] c.new.ensures) in
    let bytes : c.write_head.new.bytes ≡ record_after [] body = c.write_head.ensures.record [] holds in
    let there = c.append.ensures.honest.0 honest in
    let whole = on_ok c.append.result _ (sym c.is_err.ensures.value ∙ c.if-is_err.false) (c.append.ensures.ok honest) in
    let failed = c.in_err-sync_all.ensures.err there in
    let fault = c.in_err-sync_all.field-0.0 in
    let known : c.from_residual.result ≡ Err fault = err_is _ fault c.from_residual.ensures.0 c.from_residual.ensures.1 in
    let device : c.from_residual.result ≡ Err Device = known ∙ ap (λ (f : LogFault). Err f) c.in_err-sync_all.ensures.fault in
    let left : Life = record (first_appended body) { healthy = false } in (
      left,
      subst (λ (r : Result LogEnd LogFault). DoesCreate body r left) (sym device)
          (inr (first_appended body, (refl, c.requires.body, refl), (left, (refl, refl), refl))),
      record {
        content_is = sym (failed.content_is ∙ behind_nothing (g.F.LogFile.model c.args.file.now).content (g.F.LogFile.model c.append.new.self).content
            c.write_head.new.bytes (record_after [] body) (c.requires.empty honest) bytes whole.content_is);
        synced_in = omega arith;
        syncable_in = λ again. absurd (search (rules, again));
      },
    )

pub returns-clause-life : goal.returns-clause-life
returns-clause-life g c honest =
    let body = drop 40 c.args.buffer.now in
    let holds = longer_holds c.args.buffer.now c.with_body-hasher.result [] (c.with_body-hasher.ensures [] c.new.ensures) in
    let bytes : c.write_head.new.bytes ≡ record_after [] body = c.write_head.ensures.record [] holds in
    let there = c.append.ensures.honest.0 honest in
    let whole = on_ok c.append.result _ (sym c.is_err.ensures.value ∙ c.if-is_err.false) (c.append.ensures.ok honest) in
    let done = c.in_ok-sync_all.ensures.ok there in
    let empty = c.requires.empty honest in
    let content : (g.F.LogFile.model c.append.new.self).content ≡ record_after [] body =
    behind_nothing (g.F.LogFile.model c.args.file.now).content (g.F.LogFile.model c.append.new.self).content c.write_head.new.bytes
    (record_after [] body) empty bytes whole.content_is in
    let reached = whole.syncable_in (omega (arith, ap length empty)) in
    let told : Life = record (first_appended body) { synced = length (record_after [] body); told = body ∷ [] } in (
      told,
      (first_appended body, (refl, c.requires.body, refl), (told, (refl, refl), refl)),
      record {
        content_is = sym (done.content_is ∙ content);
        synced_in = omega (arith, ap length content, reached, done.reached);
        syncable_in = λ healthy. omega (arith, ap length done.content_is, reached, done.syncable_in);
      },
    )

pub returns-clause-end : goal.returns-clause-end
returns-clause-end g c =
    let body = drop 40 c.args.buffer.now in
    let holds = longer_holds c.args.buffer.now c.with_body-hasher.result [] (c.with_body-hasher.ensures [] c.new.ensures) in
    let bytes : c.write_head.new.bytes ≡ record_after [] body = c.write_head.ensures.record [] holds in
    (omega (arith, ap length bytes, length-record [] body, length-drop 40 c.args.buffer.now, c.requires.head), refl, holds)

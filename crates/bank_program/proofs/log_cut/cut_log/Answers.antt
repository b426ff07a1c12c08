use Rattle.std.proofs.Common.{◌≡◌, ◌⊎◌, ◌∙◌, ℕ, List, ap, arith, inl, length, inr, subst, sym}
use Rattle.std.specs.Prelude.{IfErr, OnOk, take}
use Rattle.std.proofs.lemmas.Result.{IfErr-weaker, err_from_is_err_and}
use Rattle.bank_service.specs.ListFaults.{IsListFault}
use Rattle.bank_service.specs.declared.list_fault.ListFault.{ListFault}
use Rattle.bank_program.specs.CutLogs.{IsCutFault, ListsCheck}
use Rattle.bank_program.proofs.CutRests.{cut_fault, cuts_off, ends_within, if_so, rest_is_kept}
use Rattle.bank_program.proofs.log_cut.cut_log.Goals as goal

pub truncate_and_sync-requires : goal.truncate_and_sync-requires
truncate_and_sync-requires g c still =
    let second = c.move_rest.ensures.file in
    let h1 = second.honest.1 still in
    let first = c.end_of_records.ensures.file in
    let honest = first.honest.1 h1 in
    let within = ends_within (g.F.LogFile.model c.args.file.now).content c.in_ok-end.end c.in_ok-end.behind (c.in_ok-end.ensures.end honest) in
    omega (arith, within, ap length (second.content_is h1 ∙ first.content_is honest))

pub returns-in_err-truncate_and_sync-clause-kept : goal.returns-in_err-truncate_and_sync-clause-kept
returns-in_err-truncate_and_sync-clause-kept g c honest =
    let old = (g.F.LogFile.model c.args.file.now).content in
    let first = c.end_of_records.ensures.file in
    let second = c.move_rest.ensures.file in
    let h1 = first.honest.0 honest in
    let h2 = second.honest.0 h1 in
    let same = second.content_is h1 ∙ first.content_is honest in
    elim (c.in_err-truncate_and_sync.ensures.err h2) [
      | inl stays ↦ inl (stays.content_is ∙ same)
      | inr cut ↦ rest_is_kept old (g.F.LogFile.model c.end_of_records.new.file).content (g.F.LogFile.model c.truncate_and_sync.new.file).content
          c.in_ok-end.end c.in_ok-end.behind c.in-Ok.moved (g.R.Write.contents c.args.rest.now) (g.R.Write.contents c.move_rest.new.rest)
          (g.R.RestFile.kept c.move_rest.new.rest) (c.in_ok-end.ensures.end honest) (first.content_is honest) c.if-moved-behind.true
          (c.in-Ok.ensures.moved h1) c.in-Ok.ensures.kept (cut.content_is ∙ ap (take c.in_ok-end.end) same)
    ]

pub returns-in_err-truncate_and_sync-clause-fault : goal.returns-in_err-truncate_and_sync-clause-fault
returns-in_err-truncate_and_sync-clause-fault g c honest =
    let p = err_from_is_err_and c.from_residual-in_err-truncate_and_sync.result c.from_residual-in_err-truncate_and_sync.ensures.1 in
    rw (p.1, p.2) (inl (cut_fault (g.F.LogFile.model c.args.file.now).content c.in_err-truncate_and_sync.field-0.0 c.in_err-truncate_and_sync.ensures.fault))

-- what the file has, once it is cut and listed
is_cut : (g : _) (c : goal.After-list_log g) → g.F.LogFile.IsHonest c.args.file.now
    → (g.F.LogFile.model c.list_log.new.file).content ≡ take c.in_ok-end.end (g.F.LogFile.model c.args.file.now).content
is_cut g c honest =
    let first = c.end_of_records.ensures.file in
    let second = c.move_rest.ensures.file in
    let h1 = first.honest.0 honest in
    let h2 = second.honest.0 h1 in
    c.list_log.ensures.file.content_is (c.truncate_and_sync.ensures.honest.0 h2) ∙ (c.in_ok-truncate_and_sync.ensures.ok h2).content_is
    ∙ ap (take c.in_ok-end.end) (second.content_is h1 ∙ first.content_is honest)

pub returns-clause-cut : goal.returns-clause-cut
returns-clause-cut g c honest =
    let first = c.end_of_records.ensures.file in
    if_so c.list_log.result (cuts_off (g.F.LogFile.model c.args.file.now).content (g.F.LogFile.model c.end_of_records.new.file).content
    (g.F.LogFile.model c.list_log.new.file).content c.in_ok-end.end c.in_ok-end.behind c.in-Ok.moved (g.R.Write.contents c.args.rest.now)
    (g.R.Write.contents c.move_rest.new.rest) (c.in_ok-end.ensures.end honest) (first.content_is honest) c.if-moved-behind.true
    (c.in-Ok.ensures.moved (first.honest.0 honest)) (is_cut g c honest))

pub returns-clause-listed : goal.returns-clause-listed
returns-clause-listed g c honest =
    let h3 = c.truncate_and_sync.ensures.honest.0 (c.move_rest.ensures.file.honest.0 (c.end_of_records.ensures.file.honest.0 honest)) in
    subst (λ (bytes : List ℕ). OnOk c.list_log.result
    (ListsCheck bytes (g.W.Write.contents c.args.writer.now) (g.W.Write.contents c.list_log.new.writer)))
    (sym (c.list_log.ensures.file.content_is h3)) (c.list_log.ensures.listed h3)

pub returns-clause-kept : goal.returns-clause-kept
returns-clause-kept g c honest =
    let first = c.end_of_records.ensures.file in
    rest_is_kept (g.F.LogFile.model c.args.file.now).content (g.F.LogFile.model c.end_of_records.new.file).content
    (g.F.LogFile.model c.list_log.new.file).content c.in_ok-end.end c.in_ok-end.behind c.in-Ok.moved (g.R.Write.contents c.args.rest.now)
    (g.R.Write.contents c.move_rest.new.rest) (g.R.RestFile.kept c.move_rest.new.rest) (c.in_ok-end.ensures.end honest) (first.content_is honest)
    c.if-moved-behind.true (c.in-Ok.ensures.moved (first.honest.0 honest)) c.in-Ok.ensures.kept (is_cut g c honest)

pub returns-clause-synced : goal.returns-clause-synced
returns-clause-synced g c honest =
    let h2 = c.move_rest.ensures.file.honest.0 (c.end_of_records.ensures.file.honest.0 honest) in
    let stays = c.list_log.ensures.file in
    let h3 = c.truncate_and_sync.ensures.honest.0 h2 in
    if_so c.list_log.result
    (omega (arith, (c.in_ok-truncate_and_sync.ensures.ok h2).synced_in, ap length (stays.content_is h3), stays.synced_in h3))

pub returns-clause-fault : goal.returns-clause-fault
returns-clause-fault g c honest =
    let h3 = c.truncate_and_sync.ensures.honest.0 (c.move_rest.ensures.file.honest.0 (c.end_of_records.ensures.file.honest.0 honest)) in
    let old = (g.F.LogFile.model c.args.file.now).content in
    let new = (g.F.LogFile.model c.list_log.new.file).content in
    IfErr-weaker c.list_log.result (IsListFault new) (λ (fault : ListFault). IsCutFault old fault ⊎ IsListFault new fault) (λ fault is. inr is)
    (subst (λ (bytes : List ℕ). IfErr c.list_log.result (IsListFault bytes)) (sym (c.list_log.ensures.file.content_is h3)) (c.list_log.ensures.fault h3))

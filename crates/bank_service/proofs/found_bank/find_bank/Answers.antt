use Rattle.std.proofs.Common.{inl, inr, refl, sym, ◌∙◌}
use Rattle.std.proofs.lemmas.Result.{err_from_is_err_and}
use Rattle.sb_log.specs.declared.log_fault.LogFault.TheVariants.{Device}
use Rattle.bank_service.proofs.FoundBanks.{creates_not, log_again, matches_not, none_if_empty, recover_fault, some_if_filled}
use Rattle.bank_service.proofs.found_bank.find_bank.Goals as goal

pub returns-in_err-found-clause-device : goal.returns-in_err-found-clause-device
returns-in_err-found-clause-device g c =
    let p = err_from_is_err_and c.from_residual.result c.from_residual.ensures.1 in
    rw (p.1, p.2) (λ e. c.in_err-found.ensures.device (log_again c.in_err-found.field-0.0 Device e))

pub returns-in_err-found-clause-file : goal.returns-in_err-found-clause-file
returns-in_err-found-clause-file g c honest =
    let p = err_from_is_err_and c.from_residual.result c.from_residual.ensures.1 in
    rw (p.1, p.2) (recover_fault (g.F.LogFile.model c.args.file.now) (g.F.LogFile.model c.recover_asks.new.file) c.args.input.now
    c.in_err-found.field-0.0 (c.in_err-found.ensures.file honest))

pub create-requires : goal.create-requires
create-requires g c = record {
  empty = λ still.
      let found = c.in_ok-found.found in
      let none = none_if_empty found.text.items found.text.len found.text.ok.0 (sym c.is_empty.ensures ∙ c.if-is_empty.true) in
      ((c.in_ok-found.ensures.file (c.recover_asks.ensures.honest.1 still)).empty none).0;
}

pub returns-in_err-log-clause-file : goal.returns-in_err-log-clause-file
returns-in_err-log-clause-file g c honest =
    let found = c.in_ok-found.found in
    let is = c.in_ok-found.ensures.file honest in
    let none = none_if_empty found.text.items found.text.len found.text.ok.0 (sym c.is_empty.ensures ∙ c.if-is_empty.true) in
    let p = err_from_is_err_and c.from_residual-in_err-log.result c.from_residual-in_err-log.ensures.1 in
    rw (p.1, p.2)
    (creates_not (g.F.LogFile.model c.args.file.now).content c.args.input.now found.text.items (g.F.LogFile.model c.create.new.file).content found.log.value.log
    is.rest c.in_err-log.field-0.0 none (is.empty none).1 is.read (c.in_err-log.ensures.fault (c.recover_asks.ensures.honest.0 honest)))

pub returns-then-is_empty-clause-file : goal.returns-then-is_empty-clause-file
returns-then-is_empty-clause-file g c honest =
    let found = c.in_ok-found.found in
    let is = c.in_ok-found.ensures.file honest in (
      found.text.items,
      found.log.value.log,
      is.rest,
      is.read,
      is.torn_is,
      inl (
        none_if_empty found.text.items found.text.len found.text.ok.0 (sym c.is_empty.ensures ∙ c.if-is_empty.true),
        c.in_ok-log.ensures.log.0,
        c.in_ok-log.ensures.log.1,
      ),
    )

pub returns-clause-file : goal.returns-clause-file
returns-clause-file g c honest =
    let found = c.in_ok-found.found in
    let is = c.in_ok-found.ensures.file honest in (
      found.text.items,
      found.log.value.log,
      is.rest,
      is.read,
      is.torn_is,
      inr (
        some_if_filled found.text.items found.text.len found.text.ok.0 (sym c.is_empty.ensures ∙ c.if-is_empty.false),
        c.in_ok-opening.ensures.same,
        refl,
        refl,
      ),
    )

pub returns-clause-resumes : goal.returns-clause-resumes
returns-clause-resumes g c =
    let found = c.in_ok-found.found in
    c.in_ok-found.ensures.resumes
    (some_if_filled found.text.items found.text.len found.text.ok.0 (sym c.is_empty.ensures ∙ c.if-is_empty.false))

pub returns-in_err-opening-clause-file : goal.returns-in_err-opening-clause-file
returns-in_err-opening-clause-file g c honest =
    let found = c.in_ok-found.found in
    let is = c.in_ok-found.ensures.file honest in
    let p = err_from_is_err_and c.from_residual-in_err-opening.result c.from_residual-in_err-opening.ensures.1 in
    rw (p.1, p.2)
    (matches_not (g.F.LogFile.model c.args.file.now).content c.args.input.now (g.F.LogFile.model c.recover_asks.new.file).content
    found.text.items found.log.value.log is.rest c.in_err-opening.field-0.0 is.read is.cut
    (some_if_filled found.text.items found.text.len found.text.ok.0 (sym c.is_empty.ensures ∙ c.if-is_empty.false)) c.in_err-opening.ensures.fault)

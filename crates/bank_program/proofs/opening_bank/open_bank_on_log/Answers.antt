use Rattle.std.proofs.Common.{inl, refl}
use Rattle.std.proofs.lemmas.Result.{err_from_is_err_and}
use Rattle.bank_program.proofs.opening_bank.open_bank_on_log.Goals as goal

pub returns-in_err-primary-clause-fault : goal.returns-in_err-primary-clause-fault
returns-in_err-primary-clause-fault g c honest =
    let p = err_from_is_err_and c.from_residual-in_err-primary.result c.from_residual-in_err-primary.ensures.1 in
    rw (p.1, p.2) ((g.F.LogFile.model c.args.file).content, inl (inl refl))

pub returns-in_err-new-clause-fault : goal.returns-in_err-new-clause-fault
returns-in_err-new-clause-fault g c honest =
    let p = err_from_is_err_and c.from_residual-in_err-new.result c.from_residual-in_err-new.ensures.1 in
    rw (p.1, p.2) ((g.F.LogFile.model c.args.file).content, inl (inl refl))

pub returns-clause-opened : goal.returns-clause-opened
returns-clause-opened g c =
    let found = c.in_ok-found.found in
    record {
      text = found.log.text.items;
      log = found.log.log.value.log;
      cut = found.cut;
      found = c.in_ok-found.ensures.file;
      opening = found.opening;
      opening_is = c.in_ok-found.ensures.opening;
      now = c.find_bank.new.file;
      bank_is = rw c.in_ok-new.ensures.ok c.in_ok-primary.ensures.opened;
    }

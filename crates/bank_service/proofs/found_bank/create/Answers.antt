use Rattle.std.proofs.lemmas.Result.{err_from_is_err_and}
use Rattle.bank_service.proofs.FoundBanks.{create_fault, device_failed, opening_text}
use Rattle.bank_service.proofs.found_bank.create.Goals as goal

pub create_asks-requires-clause-opening : goal.create_asks-requires-clause-opening
create_asks-requires-clause-opening g c =
    opening_text c.args.input.now c.in_ok-text.text.items _ c.in_ok-text.ensures (rw c.deref.ensures.value at c.in_ok-opening.ensures.whole)

pub returns-in_err-log-clause-fault : goal.returns-in_err-log-clause-fault
returns-in_err-log-clause-fault g c honest =
    let p = err_from_is_err_and c.from_residual-in_err-log.result c.from_residual-in_err-log.ensures.1 in
    rw (p.1, p.2) (create_fault (g.F.LogFile.has_failed c.create_asks.new.file) (g.F.LogFile.IsHonest c.create_asks.new.file) c.in_ok-text.text.items _
    (g.F.LogFile.model c.create_asks.new.file).content c.in_err-log.field-0.0 c.in_ok-text.ensures c.in_err-log.ensures.fault
    (c.create_asks.ensures.honest.0 honest))

pub returns-in_err-log-clause-device : goal.returns-in_err-log-clause-device
returns-in_err-log-clause-device g c =
    let p = err_from_is_err_and c.from_residual-in_err-log.result c.from_residual-in_err-log.ensures.1 in
    let file = c.create_asks.new.file in
    rw (p.1, p.2) (device_failed _ (g.F.LogFile.IsHonest file) c.in_ok-text.text.items (g.F.LogFile.model file).content c.in_err-log.field-0.0
    c.in_err-log.ensures.fault)

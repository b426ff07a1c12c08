use Rattle.std.proofs.Common.{Ok, Err, refl}
use Rattle.std.proofs.lemmas.Result.{err_from_is_err_and}
use Rattle.sb_log.specs.declared.log_fault.LogFault.TheVariants.{Device}
use Rattle.sb_ask_log.specs.inner.Replaying.{AskReplayOf}
use Rattle.sb_ask_log.proofs.Recovering.{err_again, read_at, read_fault, read_holds, read_is}
use Rattle.sb_ask_log.proofs.log_in_file.read_asks.Goals as goal

pub returns-in_err-end-clause-fault : goal.returns-in_err-end-clause-fault
returns-in_err-end-clause-fault g c honest =
    let p = err_from_is_err_and c.from_residual-in_err-end.result c.from_residual-in_err-end.ensures.1 in
    rw (p.1, p.2)
    (read_fault (g.F.LogFile.model c.args.file.now).content c.in_err-end.field-0.0 c.read_log.new.replay
    (read_at (g.F.LogFile.model c.args.file.now).content c.in_ok-replay.replay c.read_log.new.replay c.read_log.new.replay (Err c.in_err-end.field-0.0)
    c.in_ok-replay.ensures refl (c.in_err-end.ensures.read honest)))

pub returns-in_err-end-clause-device : goal.returns-in_err-end-clause-device
returns-in_err-end-clause-device g c =
    let p = err_from_is_err_and c.from_residual-in_err-end.result c.from_residual-in_err-end.ensures.1 in
    rw (p.1, p.2) (λ e. c.in_err-end.ensures.device (err_again c.in_err-end.field-0.0 Device e))

pub returns-clause-read : goal.returns-clause-read
returns-clause-read g c honest =
    let content = (g.F.LogFile.model c.args.file.now).content in
    let new : AskReplayOf = record { text = c.replay.inside.text.items; log = c.replay.inside.log.value.log } in
    let r = read_at content c.in_ok-replay.replay c.read_log.new.replay new (Ok c.in_ok-end.end)
    c.in_ok-replay.ensures c.replay.view_is (c.in_ok-end.ensures.read honest) in
    read_is content r.0 r.1 c.in_ok-end.end new r.2

pub returns-clause-holds : goal.returns-clause-holds
returns-clause-holds g c =
    let new : AskReplayOf = record { text = c.replay.inside.text.items; log = c.replay.inside.log.value.log } in
    read_holds c.in_ok-replay.replay c.read_log.new.replay new c.in_ok-end.end.hasher c.in_ok-replay.ensures c.replay.view_is c.in_ok-end.ensures.replayed

use Rattle.std.proofs.Common.{Ok, Err, refl}
use Rattle.std.proofs.lemmas.Result.{err_from_is_err_and}
use Rattle.sb_log.specs.declared.log_fault.LogFault.TheVariants.{Device}
use Rattle.sb_ask_log.specs.inner.Replaying.{AskReplayOf}
use Rattle.sb_ask_log.proofs.Recovering.{err_again, is_life_of, life_of, read_holds, recovered_at, recovered_is, recovered_tells, unrecovered}
use Rattle.sb_ask_log.proofs.log_in_file.recover_asks.Goals as goal

pub returns-in_err-end-clause-file : goal.returns-in_err-end-clause-file
returns-in_err-end-clause-file g c honest =
    let before = g.F.LogFile.model c.args.file.now in
    let life = c.in_err-end.ensures.life honest (life_of before) (is_life_of before) in
    let r = recovered_at (life_of before) life.0 c.in_ok-replay.replay c.recover.new.replay c.recover.new.replay (Err c.in_err-end.field-0.0)
    c.in_ok-replay.ensures refl life.1 in
    let p = err_from_is_err_and c.from_residual-in_err-end.result c.from_residual-in_err-end.ensures.1 in
    rw (p.1, p.2) (unrecovered before (g.F.LogFile.model c.recover.new.file) c.in_err-end.field-0.0 c.recover.new.replay life.0 r life.2)

pub returns-in_err-end-clause-device : goal.returns-in_err-end-clause-device
returns-in_err-end-clause-device g c =
    let p = err_from_is_err_and c.from_residual-in_err-end.result c.from_residual-in_err-end.ensures.1 in
    rw (p.1, p.2) (λ e. c.in_err-end.ensures.device (err_again c.in_err-end.field-0.0 Device e))

pub returns-clause-file : goal.returns-clause-file
returns-clause-file g c honest =
    let before = g.F.LogFile.model c.args.file.now in
    let life = c.in_ok-end.ensures.life honest (life_of before) (is_life_of before) in
    let new : AskReplayOf = record { text = c.replay.inside.text.items; log = c.replay.inside.log.value.log } in
    let r = recovered_at (life_of before) life.0 c.in_ok-replay.replay c.recover.new.replay new (Ok c.in_ok-end.end)
    c.in_ok-replay.ensures c.replay.view_is life.1 in
    recovered_is before.content (g.F.LogFile.model c.recover.new.file) r.0 r.1 c.in_ok-end.end new (life_of before) life.0 r.2 r.3 life.2

pub returns-clause-resumes : goal.returns-clause-resumes
returns-clause-resumes g c some =
    let new : AskReplayOf = record { text = c.replay.inside.text.items; log = c.replay.inside.log.value.log } in
    record {
      some = some;
      holds = read_holds c.in_ok-replay.replay c.recover.new.replay new c.in_ok-end.end.hasher c.in_ok-replay.ensures c.replay.view_is
          c.in_ok-end.ensures.replayed some;
      told = λ still.
          let before = g.F.LogFile.model c.args.file.now in
          let life = c.in_ok-end.ensures.life (c.recover.ensures.honest.1 still) (life_of before) (is_life_of before) in
          let r = recovered_at (life_of before) life.0 c.in_ok-replay.replay c.recover.new.replay new (Ok c.in_ok-end.end)
          c.in_ok-replay.ensures c.replay.view_is life.1 in
          recovered_tells before.content (g.F.LogFile.model c.recover.new.file) r.0 r.1 c.in_ok-end.end new (life_of before) life.0 r.2 r.3 life.2 some;
    }

use Rattle.std.proofs.Common.{ℕ, List, ◌-◌, take, drop, length, refl, sym, subst, rules}
use Rattle.sb_log.specs.inner.Refusals.{IsRefusalAt}
use Rattle.sb_log.specs.declared.log_fault.LogFault.{LogFault}
use Rattle.sb_log.specs.Replaying.{IsReplayFault}
use Rattle.sb_log.proofs.Records.{behind_is}
use Rattle.sb_log.proofs.reading.replay_record.Goals as goal

pub returns-in_err-behind-in-Err-Refused-clause-device : goal.returns-in_err-behind-in-Err-Refused-clause-device
returns-in_err-behind-in-Err-Refused-clause-device g c err = c.in_err-behind-in-Err-Refused.ensures.device (search (rules, err))

pub returns-in-Ok-clause-replayed : goal.returns-in-Ok-clause-replayed
returns-in-Ok-clause-replayed g c =
    subst (λ (l : List ℕ). g.T.Replay.Replays c.args.replay.now l c.replay.new.self)
    (behind_is c.deref.result.now c.args.buffer.now.items c.deref.ensures.value) c.in-Ok.ensures

pub returns-in_ok-behind-in-Err-Refused-clause-fault : goal.returns-in_ok-behind-in-Err-Refused-clause-fault
returns-in_ok-behind-in-Err-Refused-clause-fault g c =
    let content = (g.F.LogFile.model c.args.file.now).content in
    let Refusal = g.T.Replay.Refuses c.args.replay.now (drop 40 c.args.buffer.now.items) in
    subst (λ (fault : LogFault). IsRefusalAt (g.F.LogFile.IsHonest c.args.file.now) content c.args.at Refusal fault) (sym c.damage.ensures) (
      subst (λ (l : List ℕ). g.T.Replay.Refuses c.args.replay.now l)
          (behind_is c.deref.result.now c.args.buffer.now.items c.deref.ensures.value)
          (subst (IsReplayFault (g.T.Replay.Refuses c.args.replay.now (take (length c.deref.result.now - 40) (drop 40 c.deref.result.now))))
          c.in-Err-Refused.field-0-is c.in-Err-Refused.ensures),
      refl,
      c.in_ok-behind-in-Err-Refused.ensures.size,
    )

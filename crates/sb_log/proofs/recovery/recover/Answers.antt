use Rattle.std.proofs.Common.{◌≡◌, List, ℕ, refl, sym, subst, rules, Result, Err}
use Rattle.sb_log.specs.Lives.{Life}
use Rattle.sb_log.specs.LogCalls.{IsFileOf, Recovers}
use Rattle.sb_log.specs.Reading.{ReadsRecords}
use Rattle.sb_log.specs.declared.log_end.LogEnd.{LogEnd}
use Rattle.sb_log.specs.declared.log_fault.LogFault.{LogFault}
use Rattle.sb_log.proofs.Failures.{err_is, failed_before}
use Rattle.sb_log.proofs.Recoveries.{is_read_back, life_read_back, not_read, not_truncated}
use Rattle.sb_log.proofs.recovery.recover.Goals as goal

pub returns-in_err-end-clause-device : goal.returns-in_err-end-clause-device
returns-in_err-end-clause-device g c err = c.in_err-end.ensures.device (search (rules, err))

pub returns-in_err-truncate_and_sync-clause-device : goal.returns-in_err-truncate_and_sync-clause-device
returns-in_err-truncate_and_sync-clause-device g c err =
    failed_before _ _ _ c.read_log.ensures.file.honest.0 c.read_log.ensures.file.content_is
    (c.in_err-truncate_and_sync.ensures.device (search (rules, err)))

pub returns-in_err-end-clause-life : goal.returns-in_err-end-clause-life
returns-in_err-end-clause-life g c honest l life =
    let fault = c.in_err-end.field-0.0 in
    let known : c.from_residual.result ≡ Err fault = err_is _ fault c.from_residual.ensures.0 c.from_residual.ensures.1 in
    let stays = c.read_log.ensures.file in
    subst (λ (r : Result LogEnd LogFault). (m : Life) × Recovers g.T.Replay.Replays g.T.Replay.Refuses l c.args.replay.now r c.read_log.new.replay m
    × IsFileOf (g.F.LogFile.model c.read_log.new.file) m) (sym known)
    (not_read g.T.Replay.Replays g.T.Replay.Refuses l c.args.replay.now c.read_log.new.replay (g.F.LogFile.model c.args.file.now)
    (g.F.LogFile.model c.read_log.new.file) fault life
    (record { content_is = stays.content_is honest; synced_in = stays.synced_in honest }) (stays.syncable_in honest)
    (c.in_err-end.ensures.read honest))

pub returns-in_err-truncate_and_sync-clause-life : goal.returns-in_err-truncate_and_sync-clause-life
returns-in_err-truncate_and_sync-clause-life g c honest l life =
    let fault = c.in_err-truncate_and_sync.field-0.0 in
    let known : c.from_residual-in_err-truncate_and_sync.result ≡ Err fault =
    err_is _ fault c.from_residual-in_err-truncate_and_sync.ensures.0 c.from_residual-in_err-truncate_and_sync.ensures.1 in
    let stays = c.read_log.ensures.file in
    let read = c.in_ok-end.ensures.read honest in
    let to = read.2 in
    subst (λ (r : Result LogEnd LogFault). (m : Life) × Recovers g.T.Replay.Replays g.T.Replay.Refuses l c.args.replay.now r c.read_log.new.replay m
    × IsFileOf (g.F.LogFile.model c.truncate_and_sync.new.file) m) (sym known)
    (not_truncated g.T.Replay.Replays g.T.Replay.Refuses l c.args.replay.now c.read_log.new.replay (g.F.LogFile.model c.args.file.now)
    (g.F.LogFile.model c.read_log.new.file) (g.F.LogFile.model c.truncate_and_sync.new.file) fault c.in_ok-end.end.records read.0 read.1
    c.in_err-truncate_and_sync.ensures.fault life
    (record { content_is = stays.content_is honest; synced_in = stays.synced_in honest }) to.reads to.torn to.records_is
    (c.in_err-truncate_and_sync.ensures.err (stays.honest.0 honest)))

pub returns-clause-life : goal.returns-clause-life
returns-clause-life g c honest l life =
    let there = c.read_log.ensures.file.honest.0 honest in
    let read = c.in_ok-end.ensures.read honest in
    let to = read.2 in (
      life_read_back read.0,
      (
        read.0,
        read.1,
        record {
          reads = subst (λ (b : List ℕ). ReadsRecords b read.0 read.1) (sym life.content_is) to.reads;
          torn = to.torn;
          replayed = to.replayed;
          records_is = to.records_is;
          torn_is = to.torn_is;
          holds = to.holds;
        },
        (subst (λ (b : List ℕ). ReadsRecords b read.0 read.1) (sym life.content_is) to.reads, to.torn, refl),
      ),
      is_read_back (g.F.LogFile.model c.args.file.now) (g.F.LogFile.model c.read_log.new.file) (g.F.LogFile.model c.truncate_and_sync.new.file)
          c.in_ok-end.end.records read.0 read.1 (c.read_log.ensures.file.content_is honest) to.reads to.records_is
          (c.in_ok-truncate_and_sync.ensures.ok there),
    )

use Rattle.std.proofs.Common.{◌≡◌, ◌+◌, ℕ, List, drop, length, sym, inl, ap, subst, ◌∙◌, arith, rules, Result, Err}
use Rattle.sb_log.specs.inner.Front.{HashesFront, HasNoRecord, IsFront}
use Rattle.sb_log.specs.Reading.{IsTorn}
use Rattle.sb_log.specs.LogCalls.{ReadsLog}
use Rattle.sb_log.specs.inner.Refusals.{IsRefusalAt}
use Rattle.sb_log.specs.declared.front.Front.{Front}
use Rattle.sb_log.specs.declared.log_end.LogEnd.{LogEnd}
use Rattle.sb_log.specs.declared.log_fault.LogFault.{LogFault}
use Rattle.sb_log.specs.Records.{body_bytes}
use Rattle.sb_log.proofs.Failures.{err_is, failed_before}
use Rattle.sb_log.proofs.Fronts.{body_in}
use Rattle.sb_log.proofs.SoFar.{ReadSoFar, holds_one_more, one_read, reads_all, refused}
use Rattle.sb_log.proofs.Staying.{stays_then}
use Rattle.sb_log.proofs.reading.read_log.Goals as goal

pub returns-in_err-read_front-clause-device : goal.returns-in_err-read_front-clause-device
returns-in_err-read_front-clause-device g c err =
    failed_before _ _ _ c.loop.invariant.file.honest.0 c.loop.invariant.file.content_is (c.in_err-read_front.ensures.device (search (rules, err)))

pub returns-in_err-replay_record-in-Record-clause-device : goal.returns-in_err-replay_record-in-Record-clause-device
returns-in_err-replay_record-in-Record-clause-device g c err =
    failed_before _ _ _ c.loop.invariant.file.honest.0 c.loop.invariant.file.content_is
    (failed_before _ _ _ c.read_front.ensures.file.honest.0 c.read_front.ensures.file.content_is
    (c.in_err-replay_record-in-Record.ensures.device (search (rules, err))))

pub returns-in_err-replay_record-in-Record-clause-read : goal.returns-in_err-replay_record-in-Record-clause-read
returns-in_err-replay_record-in-Record-clause-read g c honest =
    let content = (g.F.LogFile.model c.args.file.now).content in
    let here = c.loop.invariant.file.honest.0 honest in
    let there = c.read_front.ensures.file.honest.0 here in
    let s = c.loop.invariant.so_far honest in
    let same : drop c.loop.records (g.F.LogFile.model c.loop.file).content ≡ drop c.loop.records content = ap (drop c.loop.records)
    (c.loop.invariant.file.content_is honest) in
    let front = subst (λ (f : Front). IsFront (body_bytes s.bodies) (drop c.loop.records
    (g.F.LogFile.model c.loop.file).content) f c.read_front.new.buffer.items c.read_front.new.hasher)
    c.in-Record.is (c.in_ok-read_front.ensures.front here (body_bytes s.bodies) s.holds) in
    let fault = c.in_err-replay_record-in-Record.field-0.0 in
    let known : c.from_residual-in_err-replay_record-in-Record.result ≡ Err fault =
    err_is _ fault c.from_residual-in_err-replay_record-in-Record.ensures.0 c.from_residual-in_err-replay_record-in-Record.ensures.1 in
    let body_is : drop 40 c.read_front.new.buffer.items ≡ front.0 = ap (drop 40) front.3 ∙ body_in (body_bytes s.bodies) front.0 in
    let unchanged : (g.F.LogFile.model c.read_front.new.file).content ≡ content =
    c.read_front.ensures.file.content_is here ∙ c.loop.invariant.file.content_is honest in
    let Honest = g.F.LogFile.IsHonest c.read_front.new.file in
    let refusal : IsRefusalAt Honest content c.loop.records (g.T.Replay.Refuses c.loop.replay front.0) fault =
    subst (λ (body : List ℕ). IsRefusalAt Honest content c.loop.records (g.T.Replay.Refuses c.loop.replay body) fault) body_is
    (subst (λ (l : List ℕ). IsRefusalAt Honest l c.loop.records (g.T.Replay.Refuses c.loop.replay (drop 40 c.read_front.new.buffer.items)) fault)
    unchanged c.in_err-replay_record-in-Record.ensures.fault) in
    subst (λ (r : Result LogEnd LogFault). ReadsLog g.T.Replay.Replays g.T.Replay.Refuses content c.args.replay.now r c.replay_record.new.replay) (sym known)
    (refused g.T.Replay.Replays g.T.Replay.Refuses Honest content c.args.replay.now c.loop.replay c.replay_record.new.replay c.loop.records c.loop.hasher
    c.read_front.new.buffer.items front.0 front.1 s there front.2 front.3 (sym same ∙ front.4) fault refusal)

pub returns-in-Damaged-clause-read : goal.returns-in-Damaged-clause-read
returns-in-Damaged-clause-read g c honest =
    let content = (g.F.LogFile.model c.args.file.now).content in
    let here = c.loop.invariant.file.honest.0 honest in
    let s = c.loop.invariant.so_far honest in
    let rest = drop c.loop.records content in
    let same : drop c.loop.records (g.F.LogFile.model c.loop.file).content ≡ rest = ap (drop c.loop.records) (c.loop.invariant.file.content_is honest) in
    let front = subst (λ (f : Front). IsFront (body_bytes s.bodies) (drop c.loop.records
    (g.F.LogFile.model c.loop.file).content) f c.read_front.new.buffer.items c.read_front.new.hasher)
    c.in-Damaged.is (c.in_ok-read_front.ensures.front here (body_bytes s.bodies) s.holds) in
    let none = subst (HasNoRecord (body_bytes s.bodies)) same front.2 in
    subst (λ (fault : LogFault). ReadsLog g.T.Replay.Replays g.T.Replay.Refuses content c.args.replay.now (Err fault) c.loop.replay) (sym c.damage.ensures)
    (record {
      bodies = s.bodies;
      rest = rest;
      whole = s.whole;
      byte_is = s.size_is;
      behind_is = front.1 ∙ ap length same;
      mid = c.loop.replay;
      replayed = s.replayed;
      why = inl (
        reads_all g.T.Replay.Replays content c.args.replay.now c.loop.replay c.loop.records c.loop.hasher s none,
        λ torn. front.0 (subst IsTorn (sym same) torn),
      );
    })

pub loop-preserved : goal.loop-preserved
loop-preserved g c =
    let size = c.in_ok-read_front.ensures.size c.in-Record.is in
    let record_same : c.replay_record.new.buffer.items ≡ c.read_front.new.buffer.items = c.in_ok-replay_record-in-Record.ensures.record in
    let len : length c.read_front.new.buffer.items ≡ c.len-records.result =
    ap length (sym record_same) ∙ sym c.replay_record.new.buffer.ok.0 ∙ sym c.len-records.ensures in
    record {
      file = stays_then g.F.LogFile.IsHonest g.F.LogFile.model c.args.file.now c.loop.file c.replay_record.new.file
          c.loop.invariant.file
          (stays_then g.F.LogFile.IsHonest g.F.LogFile.model c.loop.file c.read_front.new.file c.replay_record.new.file
          c.read_front.ensures.file c.replay_record.ensures.file);
      counter = omega (arith, size.0, len, c.loop.invariant.counter);
      bound = omega (arith, size.1, len, c.loop.invariant.bound);
      replays = holds_one_more g.T.Replay.Replays c.args.replay.now c.loop.replay c.replay_record.new.replay c.loop.hasher c.read_front.new.hasher
          (drop 40 c.read_front.new.buffer.items) c.loop.invariant.replays
          (subst (λ (f : Front). HashesFront
          (body_bytes c.loop.invariant.replays.bodies) f c.read_front.new.buffer.items c.read_front.new.hasher) c.in-Record.is
          (c.in_ok-read_front.ensures.hasher (body_bytes c.loop.invariant.replays.bodies) c.loop.invariant.replays.holds))
          c.in_ok-replay_record-in-Record.ensures.replayed;
      so_far = λ honest.
          let content = (g.F.LogFile.model c.args.file.now).content in
          let here = c.loop.invariant.file.honest.0 honest in
          let s = c.loop.invariant.so_far honest in
          let same : drop c.loop.records (g.F.LogFile.model c.loop.file).content ≡ drop c.loop.records content = ap (drop c.loop.records)
          (c.loop.invariant.file.content_is honest) in
          let front = subst (λ (f : Front). IsFront (body_bytes s.bodies) (drop c.loop.records
          (g.F.LogFile.model c.loop.file).content) f c.read_front.new.buffer.items c.read_front.new.hasher)
          c.in-Record.is (c.in_ok-read_front.ensures.front here (body_bytes s.bodies) s.holds) in
          let body_is : drop 40 c.read_front.new.buffer.items ≡ front.0 = ap (drop 40) front.3 ∙ body_in (body_bytes s.bodies) front.0 in
          subst (λ (n : ℕ). ReadSoFar g.T.Replay.Replays content c.args.replay.now (c.loop.records + n) c.read_front.new.hasher c.replay_record.new.replay) len
          (one_read g.T.Replay.Replays content c.args.replay.now c.loop.replay c.replay_record.new.replay c.loop.records c.loop.hasher c.read_front.new.hasher
          c.read_front.new.buffer.items front.0 front.1 s front.2 front.3 (sym same ∙ front.4) front.5
          (subst (λ (body : List ℕ). g.T.Replay.Replays c.loop.replay body c.replay_record.new.replay) body_is
          c.in_ok-replay_record-in-Record.ensures.replayed));
    }

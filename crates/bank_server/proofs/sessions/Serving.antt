-- Steps that go on with the bank, one after another.
use Rattle.std.proofs.Common.{◌≡◌, Bool, true, false, Result, Err, ap, subst, sym}
use Rattle.std.specs.Prelude.{IfErr}
use Rattle.sb_log.specs.declared.log_fault.LogFault.{LogFault}
use Rattle.sb_log.specs.declared.log_fault.LogFault.TheVariants as logs
use Rattle.sb_ask_log.specs.Keeping.{IsKeepFault, KeeperModel}
use Rattle.sb_replica.specs.Replica.{ReplicaOf}
use Rattle.cown_workers.specs.Draining.{HasNoneOut}
use Rattle.bank_server.specs.Primary.{PreservesBank, PrimaryOf}
use Rattle.bank_server.specs.ServesOn.{ServesOn}
use Rattle.bank_server.specs.SessionFaults.{LosesCrew, LosesLog}
use Rattle.bank_server.specs.inner.NumberedAsks.{NumbersAsks}
use Rattle.bank_server.specs.declared.session.session_fault.SessionFault.{SessionFault}
use Rattle.bank_server.specs.declared.session.session_fault.SessionFault.TheVariants.{Frame, Unexpected, CrewGone, Device, OutOfMemory, Log, TooMany}
use Rattle.bank_server.proofs.boards.WholeReplies.{if_err}
use Rattle.bank_server.proofs.sessions.FrameSteps.{keeps_on, loses_behind}
use Rattle.bank_server.proofs.sessions.Keeping.{stays_bank}

-- ---- what a fault shows

-- a keeper that has failed has failed for good
kept_fault : (fails mid new : Bool) (fault : LogFault) → (mid ≡ true → new ≡ true) → IsKeepFault fails mid fault → IsKeepFault fails new fault
kept_fault fails mid new logs.Device on is = (is.0, on is.1)
kept_fault fails mid new (logs.Damaged byte behind) on is = is
kept_fault fails mid new logs.OutOfMemory on is = is
kept_fault fails mid new logs.InUse on is = is

log_lost_on : (fails mid new : Bool) (fault : SessionFault) → (mid ≡ true → new ≡ true) → LosesLog fails mid fault → LosesLog fails new fault
log_lost_on fails mid new (Frame fault) on is = tt
log_lost_on fails mid new Unexpected on is = tt
log_lost_on fails mid new CrewGone on is = tt
log_lost_on fails mid new Device on is = tt
log_lost_on fails mid new OutOfMemory on is = tt
log_lost_on fails mid new (Log fault) on is = kept_fault fails mid new fault on is
log_lost_on fails mid new TooMany on is = tt

-- ---- steps

-- node 0 stayed
none_out_still : {S K : Type 0} (old new : PrimaryOf S K) → new.node ≡ old.node → HasNoneOut old.node.board → HasNoneOut new.node.board
none_out_still {S} old new same none = subst (λ (node : ReplicaOf S). HasNoneOut node.board) (sym same) none

module _ {S K : Type 0} {model : KeeperModel K} {crew_keeps : Bool} where
  -- nothing was done
  pub serves_still : {T : Type 0} (result : Result T SessionFault) (bank : PrimaryOf S K) → IfErr result (LosesCrew crew_keeps bank.node.board)
      → IfErr result (LosesLog model.fails (model.has_failed bank.keeper)) → ServesOn model crew_keeps result bank bank
  serves_still result bank crew log = record { bank = stays_bank bank; none_out = λ e none. none; crew_lost = crew; log_lost = log }

  -- a step behind one that ended well
  pub serves_behind : {T : Type 0} (result : Result T SessionFault) (old mid new : PrimaryOf S K) → PreservesBank model old mid
      → (crew_keeps ≡ false → HasNoneOut old.node.board → HasNoneOut mid.node.board)
      → ServesOn model crew_keeps result mid new → ServesOn model crew_keeps result old new
  serves_behind result old mid new bank none_out step = record {
    bank = keeps_on old mid new bank step.bank;
    none_out = λ e none. step.none_out e (none_out e none);
    crew_lost = if_err result (λ fault. loses_behind crew_keeps old.node.board mid.node.board fault none_out) step.crew_lost;
    log_lost = step.log_lost;
  }

  -- a step after asks were numbered
  pub serves_numbered : {T : Type 0} (result : Result T SessionFault) (old mid new : PrimaryOf S K) → NumbersAsks model old mid
      → ServesOn model crew_keeps result mid new → ServesOn model crew_keeps result old new
  serves_numbered result old mid new asked step =
      serves_behind result old mid new asked.bank (λ e none. none_out_still old mid asked.node none) step

  -- the log can't be kept then, whatever the result of the step was
  pub keep_fails : {T : Type 0} (fault : LogFault) (old mid new : PrimaryOf S K) → PreservesBank model old mid
      → (crew_keeps ≡ false → HasNoneOut old.node.board → HasNoneOut mid.node.board) → PreservesBank model mid new
      → new ≡ record mid { keeper = new.keeper } → IsKeepFault model.fails (model.has_failed new.keeper) fault
      → ServesOn {T = T} model crew_keeps (Err (Log fault)) old new
  keep_fails fault old mid new first none_out bank same is = record {
    bank = keeps_on old mid new first bank;
    none_out = λ e none. none_out_still mid new (ap (λ (p : PrimaryOf S K). p.node) same) (none_out e none);
    crew_lost = tt;
    log_lost = is;
  }

  -- a step with this result, and the log is kept then
  pub serves_kept : {T : Type 0} (result : Result T SessionFault) (old mid new : PrimaryOf S K)
      → ServesOn model crew_keeps result old mid → PreservesBank model mid new
      → new ≡ record mid { keeper = new.keeper } → ServesOn model crew_keeps result old new
  serves_kept result old mid new step bank same = record {
    bank = keeps_on old mid new step.bank bank;
    none_out = λ e none. none_out_still mid new (ap (λ (p : PrimaryOf S K). p.node) same) (step.none_out e none);
    crew_lost = step.crew_lost;
    log_lost = if_err result
        (λ fault. log_lost_on model.fails (model.has_failed mid.keeper) (model.has_failed new.keeper) fault bank.keeper.failed) step.log_lost;
  }

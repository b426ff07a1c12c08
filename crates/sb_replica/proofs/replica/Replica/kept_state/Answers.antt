use Rattle.std.proofs.Common.{option_map, Some, None, inl, refl, subst, arith}
use Rattle.std.proofs.lemmas.Result.{err_from_is_err_and}
use Rattle.sb_checkpoint.specs.Reading.{IsRefusedBy}
use Rattle.sb_replica.specs.inner.FaultConversions.{restart_fault_of}
use Rattle.sb_replica.proofs.KeptStates.{is_state, gives_none}
use Rattle.sb_replica.proofs.Refusals.{refusal_of}
use Rattle.sb_replica.proofs.StoreReads.{origin_seen, store_fails, refuses, reads_state}
use Rattle.sb_replica.proofs.replica.Replica.kept_state.Goals as goal

pub returns-in_err-bytes-clause-err : goal.returns-in_err-bytes-clause-err
returns-in_err-bytes-clause-err g c =
    let p = err_from_is_err_and c.from_residual.result c.from_residual.ensures.1 in
    rw (p.1, p.2) (store_fails g.S.CheckpointStore.model c.self.view_is c.get.new.self c.in_err-bytes.field-0.0 c.in_err-bytes.ensures)

pub returns-in_default-clause-ok : goal.returns-in_default-clause-ok
returns-in_default-clause-ok g c =
    reads_state g.S.CheckpointStore.model c.self.view_is c.get.new.self (option_map (λ bytes. bytes.items) c.in_ok-bytes.field-0) c.in_ok-bytes.ensures None
    (rw c.in_default.is (inl refl))

pub returns-in_err-checkpoint_in-clause-err : goal.returns-in_err-checkpoint_in-clause-err
returns-in_err-checkpoint_in-clause-err g c =
    let p = err_from_is_err_and c.from_residual-in_err-checkpoint_in.result c.from_residual-in_err-checkpoint_in.ensures.1 in
    let origin = origin_seen c.self.view_is in
    let fault = c.in_err-checkpoint_in.field-0.0 in
    let refused = subst (λ bytes. IsRefusedBy bytes origin fault) c.deref.ensures.value c.in_err-checkpoint_in.ensures.fault in
    rw (p.1, p.2)
    (refuses g.S.CheckpointStore.model c.self.view_is c.get.new.self (option_map (λ bytes. bytes.items) c.in_ok-bytes.field-0) c.in_ok-bytes.ensures
    (restart_fault_of fault) (rw c.in-Some.is (refusal_of origin c.in-Some.bytes.items fault refused)))

pub returns-then-length-eq0-clause-ok : goal.returns-then-length-eq0-clause-ok
returns-then-length-eq0-clause-ok g c =
    let origin = origin_seen c.self.view_is in
    let kept = c.in_ok-checkpoint_in in
    let replies = c.replies-2.result.now in
    let state = is_state origin kept.field-0 replies c.deref.ensures.value kept.ensures.checkpoint c.replies-2.ensures in
    reads_state g.S.CheckpointStore.model c.self.view_is c.get.new.self (option_map (λ bytes. bytes.items) c.in_ok-bytes.field-0) c.in_ok-bytes.ensures None
    (rw c.in-Some.is (gives_none origin _ c.in-Some.bytes.items state c.if-length-eq0.true))

pub returns-clause-ok : goal.returns-clause-ok
returns-clause-ok g c =
    let origin = origin_seen c.self.view_is in
    let kept = c.in_ok-checkpoint_in in
    let replies = c.replies-2.result.now in
    let state = is_state origin kept.field-0 replies c.deref.ensures.value kept.ensures.checkpoint c.replies-2.ensures in
    reads_state g.S.CheckpointStore.model c.self.view_is c.get.new.self (option_map (λ bytes. bytes.items) c.in_ok-bytes.field-0) c.in_ok-bytes.ensures
    (Some (_, c.in-Some.bytes.items)) (rw c.in-Some.is (refl, state, omega (arith, c.if-length-eq0.false)))

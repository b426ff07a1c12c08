use Rattle.std.proofs.Common.{◌≡◌, ◌<◌, Some, None, length, map, subst, ap, ◌∙◌}
use Rattle.std.specs.Int.{w64}
use Rattle.std.proofs.lemmas.Int.{to_z-of_z}
use Rattle.std.proofs.lemmas.List.Elements.{All-from_get_or}
use Rattle.std.proofs.lemmas.Result.{err_from_is_err_and}
use Rattle.sb_checkpoint.specs.Checkpoint.{CheckpointOf, Origin}
use Rattle.sb_checkpoint.specs.inner.Layouts.{layout_of}
use Rattle.sb_checkpoint.specs.inner.ReadingFaults.{IsFaultOf}
use Rattle.sb_checkpoint.specs.Reading.{opening_fault}
use Rattle.sb_checkpoint.proofs.Chunks.{length-amounts}
use Rattle.sb_checkpoint.proofs.FaultOrder.{head_refuses, balances_refuse, opening_refuses, replies_refuse, no_fault}
use Rattle.sb_checkpoint.proofs.ReadIsSpelling.{taken}
use Rattle.sb_checkpoint.proofs.reading.read_checkpoint.Goals as goal

pub returns-in_err-layout-clause-fault : goal.returns-in_err-layout-clause-fault
returns-in_err-layout-clause-fault c =
    let p = err_from_is_err_and c.from_residual.result c.from_residual.ensures.1 in
    let origin : Origin = record { customers = c.args.customers; opening_total = c.args.opening_total } in
    rw (p.1, p.2) (head_refuses c.args.bytes.now origin _ c.in_err-layout.ensures)

pub returns-in_err-columns-clause-fault : goal.returns-in_err-columns-clause-fault
returns-in_err-columns-clause-fault c =
    let p = err_from_is_err_and c.from_residual-in_err-columns.result c.from_residual-in_err-columns.ensures.1 in
    let origin : Origin = record { customers = c.args.customers; opening_total = c.args.opening_total } in
    let head = c.in_ok-layout.ensures in
    rw (p.1, p.2) (balances_refuse c.args.bytes.now origin (layout_of c.in_ok-layout.layout) head.layout head.fault _ c.in_err-columns.ensures)

pub returns-in_err-check_opening-clause-fault : goal.returns-in_err-check_opening-clause-fault
returns-in_err-check_opening-clause-fault c =
    let p = err_from_is_err_and c.from_residual-in_err-check_opening.result c.from_residual-in_err-check_opening.ensures.1 in
    let origin : Origin = record { customers = c.args.customers; opening_total = c.args.opening_total } in
    let head = c.in_ok-layout.ensures in
    let layout = layout_of c.in_ok-layout.layout in
    rw (p.1, p.2)
    (opening_refuses c.args.bytes.now origin layout head.layout head.fault _ c.in_ok-columns.ensures.fault
    (subst (λ t. IsFaultOf (opening_fault layout c.args.bytes.now t) c.in_err-check_opening.field-0.0)
    (to_z-of_z w64 _ c.ranges.opening_total) c.in_err-check_opening.ensures))

pub returns-in_err-replies-clause-fault : goal.returns-in_err-replies-clause-fault
returns-in_err-replies-clause-fault c =
    let p = err_from_is_err_and c.from_residual-in_err-replies.result c.from_residual-in_err-replies.ensures.1 in
    let origin : Origin = record { customers = c.args.customers; opening_total = c.args.opening_total } in
    let head = c.in_ok-layout.ensures in
    let layout = layout_of c.in_ok-layout.layout in
    let same = subst (λ t. opening_fault layout c.args.bytes.now t ≡ None) (to_z-of_z w64 _ c.ranges.opening_total) c.in_ok-check_opening.ensures in
    rw (p.1, p.2)
    (replies_refuse c.args.bytes.now origin layout head.layout head.fault _ c.in_ok-columns.ensures.fault same c.in_err-replies.ensures)

pub returns-clause-fault : goal.returns-clause-fault
returns-clause-fault c =
    let origin : Origin = record { customers = c.args.customers; opening_total = c.args.opening_total } in
    let head = c.in_ok-layout.ensures in
    let layout = layout_of c.in_ok-layout.layout in
    let same = subst (λ t. opening_fault layout c.args.bytes.now t ≡ None) (to_z-of_z w64 _ c.ranges.opening_total) c.in_ok-check_opening.ensures in
    no_fault c.args.bytes.now origin layout head.layout head.fault c.in_ok-columns.ensures.fault same c.in_ok-replies.ensures.fault

pub returns-clause-checkpoint : goal.returns-clause-checkpoint
returns-clause-checkpoint c =
    let made = c.of.ensures in
    let bytes = c.args.bytes.now in
    let head = c.in_ok-layout.ensures in
    let layout = layout_of c.in_ok-layout.layout in
    let same = subst (λ t. opening_fault layout c.args.bytes.now t ≡ None) (to_z-of_z w64 _ c.ranges.opening_total) c.in_ok-check_opening.ensures in
    let customers = ap (λ (m : CheckpointOf). length m.columns.savings) made
    ∙ ap length c.in_ok-columns.ensures.savings ∙ length-amounts _ _ ∙ head.customers in (
      (
        layout,
        taken bytes c.args.customers c.args.opening_total layout c.of.result
            (All-from_get_or (λ byte. byte < 256) bytes 0 (λ i inside. (c.type_inv.bytes i).fits))
            (let view : c.of.result.columns ≡ c.in_ok-columns.columns = ap (λ (m : CheckpointOf). m.columns) made in rw view c.in_ok-columns.ensures.valid)
            (record {
              savings = ap (λ (m : CheckpointOf). m.columns.savings) made ∙ c.in_ok-columns.ensures.savings;
              checking = ap (λ (m : CheckpointOf). m.columns.checking) made ∙ c.in_ok-columns.ensures.checking;
              replies = ap (λ (m : CheckpointOf). map (λ r. Some r) m.replies) made ∙ c.in_ok-replies.ensures.replies;
            })
            head.layout head.fault c.in_ok-columns.ensures.fault same c.in_ok-replies.ensures.fault,
      ),
      customers,
    )

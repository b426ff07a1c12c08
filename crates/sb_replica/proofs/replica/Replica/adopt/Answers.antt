use Rattle.std.proofs.Common.{length, refl, ap, ◌∙◌}
use Rattle.std.proofs.lemmas.Result.{err_from_is_err_and}
use Rattle.sb_rows.specs.Balances.{Balances}
use Rattle.sb_replica.specs.Log.{LogOf}
use Rattle.sb_replica.proofs.AdoptedStates.{adopts}
use Rattle.sb_replica.proofs.KeptStates.{is_state}
use Rattle.sb_replica.proofs.Refusals.{adopt_refusal}
use Rattle.sb_replica.proofs.RightHeads.{right_head}
use Rattle.sb_replica.specs.Replica.{origin_of}
use Rattle.sb_replica.proofs.replica.Replica.adopt.Goals as goal

pub returns-in_err-checkpoint : goal.returns-in_err-checkpoint
returns-in_err-checkpoint g c =
    let p = err_from_is_err_and c.from_residual.result c.from_residual.ensures.1 in
    rw (p.1, p.2) (record {
      outcome =
          (adopt_refusal (origin_of c.args.self.now) c.args.bytes.now c.in_err-checkpoint.field-0.0 c.in_err-checkpoint.ensures.fault, refl);
    })

pub returns-in_err-log_on : goal.returns-in_err-log_on
returns-in_err-log_on g c =
    let p = err_from_is_err_and c.from_residual-in_err-log_on.result c.from_residual-in_err-log_on.ensures.1 in
    rw (p.1, p.2) (record { outcome = (right_head c.args.bytes.now _ _ c.in_ok-checkpoint.ensures.fault, refl) })

pub returns-then-length-own : goal.returns-then-length-own
returns-then-length-own g c =
    let kept = c.in_ok-checkpoint.ensures in
    let state = is_state (origin_of c.args.self.now) c.in_ok-checkpoint.checkpoint c.replies.result.now refl kept.checkpoint c.replies.ensures in
    record { outcome = (c.length-own.ensures.value, (length c.replies.result.now, state, c.if-length-own.true), refl) }

pub replace_log-requires-clause-customers : goal.replace_log-requires-clause-customers
replace_log-requires-clause-customers g c =
    ap (λ (log : LogOf). length log.board.opening.savings) c.in_ok-log_on.ensures
    ∙ ap (λ (columns : Balances). length columns.savings) c.into_parts-columns.ensures.columns
    ∙ c.in_ok-checkpoint.ensures.checkpoint.1

pub returns : goal.returns
returns g c =
    let old = c.args.self.now in
    let new = c.replace_log.new.self in
    let checkpoint = c.in_ok-checkpoint.checkpoint in
    let kept = c.in_ok-checkpoint.ensures in
    let parts = c.into_parts-columns in
    record {
      outcome = adopts {S = g.row.S.Denot} old new c.args.bytes.now checkpoint c.replies.result.now parts.result.0 parts.result.1.items c.in_ok-log_on.field-0
          c.length-own.result c.length-own.ensures.value c.if-length-own.false c.replies.ensures kept.checkpoint parts.ensures.columns
          parts.ensures.replies c.in_ok-log_on.ensures c.replace_log.ensures;
    }

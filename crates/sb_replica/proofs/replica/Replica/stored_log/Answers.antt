use Rattle.std.proofs.Common.{◌≡◌, None, [], length, refl, ap, ap₂, subst, ◌∙◌}
use Rattle.std.proofs.lemmas.Result.{err_from_is_err_and}
use Rattle.cown_board.specs.BoardCalls.{board_at_opening}
use Rattle.sb_rows.specs.Balances.{Balances}
use Rattle.sb_checkpoint.specs.Checkpoint.{SpellsFor}
use Rattle.sb_checkpoint.specs.Reading.{first_fault, IsRefusedBy}
use Rattle.sb_replica.specs.Log.{LogOf}
use Rattle.sb_replica.specs.Replica.{ReplicaOf, origin_of}
use Rattle.sb_replica.proofs.Refusals.{refusal_of}
use Rattle.sb_replica.proofs.RightHeads.{right_head}
use Rattle.sb_replica.proofs.replica.Replica.stored_log.Goals as goal

pub returns-in_err-log_at_opening : goal.returns-in_err-log_at_opening
returns-in_err-log_at_opening g c =
    let p = err_from_is_err_and c.from_residual.result c.from_residual.ensures.1 in
    rw (c.in_default.is, p.1, p.2) (record { log = tt; no_held_entry = tt; customers = tt; replies = tt; err = tt })

pub returns-in_default-clause-log : goal.returns-in_default-clause-log
returns-in_default-clause-log g c =
    rw c.in_default.is
    (record {
      checkpoint = record { columns = c.args.self.now.opening; replies = [] };
      is_stored = refl;
      board_is = ap (λ (log : LogOf). log.board) c.in_ok-log_at_opening.ensures
          ∙ ap (λ (replica : ReplicaOf g.row.S.Denot). board_at_opening replica.opening []) c.self.view_is;
    })

pub returns-in_err-checkpoint_in : goal.returns-in_err-checkpoint_in
returns-in_err-checkpoint_in g c =
    let p = err_from_is_err_and c.from_residual-in_err-checkpoint_in.result c.from_residual-in_err-checkpoint_in.ensures.1 in
    let origin = origin_of c.args.self.now in
    let fault = c.in_err-checkpoint_in.field-0.0 in
    let refused = subst (λ bytes. IsRefusedBy bytes origin fault) c.deref.ensures.value c.in_err-checkpoint_in.ensures.fault in
    rw (c.in-Some.is, p.1, p.2)
    (record { log = tt; no_held_entry = tt; customers = tt; replies = tt; err = refusal_of origin c.in-Some.bytes.items fault refused })

pub returns-in_err-log_on : goal.returns-in_err-log_on
returns-in_err-log_on g c =
    let p = err_from_is_err_and c.from_residual-in_err-log_on.result c.from_residual-in_err-log_on.ensures.1 in
    let origin = origin_of c.args.self.now in
    let faultless = subst (λ bytes. first_fault bytes origin ≡ None) c.deref.ensures.value c.in_ok-checkpoint_in.ensures.fault in
    rw (c.in-Some.is, p.1, p.2)
    (record {
      log = tt;
      no_held_entry = tt;
      customers = tt;
      replies = tt;
      err = right_head c.in-Some.bytes.items origin.customers origin.opening_total faultless;
    })

pub returns-clause-log : goal.returns-clause-log
returns-clause-log g c =
    let checkpoint = c.in_ok-checkpoint_in.field-0 in
    let kept = c.in_ok-checkpoint_in.ensures in
    let parts = c.into_parts-columns.ensures in
    rw c.in-Some.is
    (record {
      checkpoint = checkpoint;
      is_stored = subst (λ bytes. SpellsFor (origin_of c.args.self.now) checkpoint bytes) c.deref.ensures.value kept.checkpoint;
      board_is = ap (λ (log : LogOf). log.board) c.in_ok-log_on.ensures ∙ ap₂ board_at_opening parts.columns parts.replies;
    })

pub returns-clause-no_held_entry : goal.returns-clause-no_held_entry
returns-clause-no_held_entry g c = ap (λ (log : LogOf). log.held) c.in_ok-log_on.ensures

pub returns-clause-customers : goal.returns-clause-customers
returns-clause-customers g c =
    ap (λ (log : LogOf). length log.board.opening.savings) c.in_ok-log_on.ensures
    ∙ ap (λ (columns : Balances). length columns.savings) c.into_parts-columns.ensures.columns
    ∙ c.in_ok-checkpoint_in.ensures.checkpoint.1

use Rattle.std.proofs.lemmas.Result.{err_from_is_err_and}
use Rattle.checkpoint_text.specs.Origins.{stated_origin}
use Rattle.checkpoint_text.proofs.StatedFaults.{right_head}
use Rattle.checkpoint_text.proofs.listing.listing_text.Goals as goal

pub returns-in_err-push_count-clause-fault : goal.returns-in_err-push_count-clause-fault
returns-in_err-push_count-clause-fault c =
    let failed = c.from_residual-in_err-push_count in
    let p = err_from_is_err_and failed.result failed.ensures.1 in
    rw (p.1, p.2) (right_head c.args.bytes.now (stated_origin c.args.bytes.now) c.in_ok-checkpoint.ensures.fault)

pub returns-in_err-push_balances-clause-fault : goal.returns-in_err-push_balances-clause-fault
returns-in_err-push_balances-clause-fault c =
    let failed = c.from_residual-in_err-push_balances in
    let p = err_from_is_err_and failed.result failed.ensures.1 in
    rw (p.1, p.2) (right_head c.args.bytes.now (stated_origin c.args.bytes.now) c.in_ok-checkpoint.ensures.fault)

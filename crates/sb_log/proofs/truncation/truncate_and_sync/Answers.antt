use Rattle.std.proofs.Common.{sym, ◌∙◌, rules}
use Rattle.sb_log.proofs.Failures.{failed_before_cut, on_ok}
use Rattle.sb_log.proofs.truncation.truncate_and_sync.Goals as goal

pub returns-in_err-write_again-clause-device : goal.returns-in_err-write_again-clause-device
returns-in_err-write_again-clause-device g c err =
    failed_before_cut _ c.args.size _ _ c.cut.ensures.honest.0
    (λ there. (on_ok c.cut.result _ (sym c.is_err.ensures.value ∙ c.if-is_err.false) (c.cut.ensures.ok there)).content_is)
    (c.in_err-write_again.ensures.device (search (rules, err)))

use Rattle.std.proofs.Common.{[], ◌∷◌, ◌∙◌, ap, ◌++◌, append_assoc}
use Rattle.sb_frames.specs.Fields.{name_field}
use Rattle.sb_frames.proofs.writing.put_call.Goals as goal

pub returns-in-Balance-clause-spelled : goal.returns-in-Balance-clause-spelled
returns-in-Balance-clause-spelled c =
    let name = name_field c.in-Balance.name in
    rw c.in-Balance.is
    (c.put_name.ensures.spelled ∙ ap (λ items. items ++ name) c.put_bytes.ensures ∙ append_assoc c.args.bytes.now.items (1 ∷ []) name)

pub returns-in-DepositChecking-clause-spelled : goal.returns-in-DepositChecking-clause-spelled
returns-in-DepositChecking-clause-spelled c = rw c.in-DepositChecking.is c.put_name_and_amount.ensures.spelled

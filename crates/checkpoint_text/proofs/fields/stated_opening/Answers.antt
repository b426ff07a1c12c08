use Rattle.std.proofs.Common.{rules, ◌∙◌, w64, FitsSigned}
use Rattle.std.proofs.lemmas.Int.{to_z-of_z}
use Rattle.checkpoint_text.proofs.StatedOpenings.{opening_of_second}
use Rattle.checkpoint_text.proofs.fields.stated_opening.Goals as goal

pub returns-then-at-bytes : goal.returns-then-at-bytes
returns-then-at-bytes c layout begins room =
    let fits : FitsSigned w64 c.amount_at.result = search rules in
    opening_of_second layout c.args.bytes.now c.args.customers _ c.if-starts_with.ensures.value begins c.requires
    (to_z-of_z w64 c.amount_at.result fits ∙ c.amount_at.ensures)

use Rattle.std.proofs.Common.{length, ap, ap₂, ◌∙◌, w64}
use Rattle.std.proofs.lemmas.Int.{to_z-of_z}
use Rattle.std.specs.Option.{unwrap_or}
use Rattle.lane_audit.specs.Columns.{first_outside}
use Rattle.kernel_library.proofs.kernel_first_outside.Goals as goal

pub returns : goal.returns
returns c =
    let values = c.args.values.now in
    c.unwrap_or.ensures
    ∙ ap (λ place. unwrap_or place (length values))
    (c.first_outside.ensures ∙ ap₂ (λ low high. first_outside values low high) (to_z-of_z w64 c.args.low c.ranges.low)
    (to_z-of_z w64 c.args.high c.ranges.high))

use Rattle.std.proofs.Common.{◌∙◌}
use Rattle.std.specs.List.{each_same}
use Rattle.sb_rows.proofs.columns.Columns.copy.Goals as goal

pub invariant_of-result : goal.invariant_of-result
invariant_of-result c =
    rw (
      each_same c.self.inside.savings.items c.in_ok-clone.field-0.items c.in_ok-clone.ensures.cases.0,
      each_same c.self.inside.checking.items c.in_ok-clone-2.field-0.items c.in_ok-clone-2.ensures.cases.0,
    ) c.self.invariant

pub returns : goal.returns
returns c =
    (λ i. record {
      savings = each_same c.self.inside.savings.items c.in_ok-clone.field-0.items c.in_ok-clone.ensures.cases.0 i;
      checking = each_same c.self.inside.checking.items c.in_ok-clone-2.field-0.items c.in_ok-clone-2.ensures.cases.0 i;
    }) ∙ c.self.view_is

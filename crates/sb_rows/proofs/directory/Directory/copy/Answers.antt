use Rattle.std.proofs.Common.{◌∙◌}
use Rattle.std.specs.List.{each_same}
use Rattle.sb_rows.proofs.directory.Directory.copy.Goals as goal

pub invariant_of-result : goal.invariant_of-result
invariant_of-result c = rw (each_same c.self.inside.names.keys c.in_ok-clone.field-0.keys c.in_ok-clone.ensures.cases) c.self.invariant

pub returns : goal.returns
returns c = each_same c.self.inside.names.keys c.in_ok-clone.field-0.keys c.in_ok-clone.ensures.cases ∙ c.self.view_is

use Rattle.std.proofs.Common.{◌≡◌, rules, sym}
use Rattle.sb_rows.proofs.PaddedNames.{name_is_padded}
use Rattle.sb_rows.proofs.name.Name.new.Goals as goal

pub invariant_of-result : goal.invariant_of-result
invariant_of-result c = let copied : c.copy_from_slice.new.self ≡ c.args.text.now = search rules in
    rw copied (name_is_padded c.args.text.now (sym c.if-not-is_name.ensures))

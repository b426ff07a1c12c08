use Rattle.std.proofs.Common.{◌*◌, take}
use Rattle.std.specs.List.{flat_map}
use Rattle.sb_calls.specs.Replies.{amount_field}
use Rattle.sb_checkpoint.specs.inner.FieldPuts.{PutsField}
use Rattle.sb_checkpoint.proofs.putting.put_amounts.Given as goal

abbrev pub invariant-loop-amount : goal.invariant-loop-amount
invariant-loop-amount l =
    PutsField l.initial.out (flat_map amount_field (take l.amount-index l.amounts)) (8 * l.amount-index) l.out

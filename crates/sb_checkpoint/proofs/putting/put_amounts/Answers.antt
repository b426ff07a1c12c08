use Rattle.std.proofs.Common.{◌++◌, get_or, pos, w64, ap, ◌∙◌, arith, rules}
use Rattle.std.proofs.lemmas.Int.{to_z-of_z}
use Rattle.std.specs.Prelude.{FitsSigned}
use Rattle.sb_calls.specs.Replies.{amount_field}
use Rattle.sb_checkpoint.proofs.FieldLists.{one_more, all_there}
use Rattle.sb_checkpoint.proofs.putting.put_amounts.Goals as goal

pub loop-amount-preserved : goal.loop-amount-preserved
loop-amount-preserved c =
    let amounts = c.args.amounts.now in
    let fits : FitsSigned w64 (get_or amounts c.loop-amount.amount-index (pos 0)) = search rules in
    record {
      items = one_more amount_field amounts c.loop-amount.amount-index c.args.out.now.items (pos 0) _ _ c.loop-amount-test.true
          c.loop-amount.invariant.items
          (c.put_amount.ensures.items ∙ ap (λ amount. c.loop-amount.out.items ++ amount_field amount) (to_z-of_z w64 _ fits));
      len = omega (arith, c.loop-amount.invariant.len, c.put_amount.ensures.len);
      room = omega (arith, c.loop-amount.invariant.room, c.put_amount.ensures.room);
    }

pub returns : goal.returns
returns c =
    let amounts = c.args.amounts.now in
    record {
      items = all_there amount_field amounts c.loop-amount.amount-index c.args.out.now.items _ c.loop-amount-test.false c.loop-amount.invariant.items;
      len = search rules;
      room = c.loop-amount.invariant.room;
    }

-- Each customer has two cowns.
use Rattle.std.proofs.Common.{◌*◌, length, ap, ◌∙◌}
use Rattle.sb_calls.proofs.CownColumns.{length-contents_of}
use Rattle.sb_calls.specs.Cowns.{contents_of}
use Rattle.sb_calls.specs.declared.op.Op.{Op}
use Rattle.cown_board.specs.Board.{BoardOf}
use Rattle.store_timing.proofs.bank.Bank.open.Goals as goal

pub invariant_of-result : goal.invariant_of-result
invariant_of-result c =
    let opening = c.in_ok-opening.opening in
    record {
      cowns = ap (λ (b : BoardOf Op). length (contents_of b.opening)) c.in_ok-board.ensures
          ∙ length-contents_of opening.columns opening.same_customers.balances.same
          ∙ ap (λ n. 2 * n) opening.same_customers.same_length;
    }

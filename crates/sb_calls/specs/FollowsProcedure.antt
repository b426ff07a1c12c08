-- A change of the columns, as a procedure on the rows.
use Rattle.std.specs.Prelude.{◌≡◌, ℕ, List}
use Rattle.sb_rows.specs.Balances.{Balances}
use Rattle.sb_rows.specs.Rows.{rows_of, SameCustomers}
use Rattle.sb_calls.specs.Procedures.{procedure}
use Rattle.sb_calls.specs.declared.call.Call.{Call}
use Rattle.sb_calls.specs.declared.reply.Reply.{Reply}

-- the rows change from old to new, and the answer is given, as the procedure of the call says
pub record FollowsProcedure (directory : List (List ℕ)) (call : Call)
    (old new : Balances) (answer : Reply) : Type 0 where
  pub rows : rows_of directory new ≡ (procedure call (rows_of directory old)).rows
  pub reply : answer ≡ (procedure call (rows_of directory old)).reply
  pub customers : SameCustomers directory new

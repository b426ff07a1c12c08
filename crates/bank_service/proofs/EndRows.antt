-- The rows of a bank whose log is executed.
use Rattle.std.proofs.Common.{◌≡◌, ◌≢◌, Option, Some, Bor, refl, subst}
use Rattle.std.specs.Prelude.{MatchOption, IfSome}
use Rattle.sb_rows.specs.Balances.{Balances, IsBalances}
use Rattle.sb_rows.specs.Rows.{SameCustomers, rows_of}
use Rattle.sb_calls.specs.Behaviour.{declared_cowns, effect_of}
use Rattle.sb_calls.specs.Log.{rows_after}
use Rattle.cown_board.specs.Board.{IsAfterAll, unfinished_of}
use Rattle.sb_replica.specs.Replica.{ReplicaOf}
use Rattle.sb_sequencer.specs.Numbering.{calls_of}
use Rattle.bank_server.specs.Primary.{HasWholeLog, IsPrimary, PrimaryOf, log_ops}
use Rattle.bank_server.proofs.boards.Boards.{one_by_one}

module _ {S K : Type 0} (primary : PrimaryOf S K) (node : ReplicaOf S) (is : node ≡ primary.node) (valid : IsPrimary primary) (all : HasWholeLog primary) where
  -- the columns after the whole log are the rows after the log, one by one
  pub rows_are : (settled : Option (Bor Balances)) (lent : Bor Balances) → settled ≡ Some lent
      → MatchOption settled (unfinished_of node.board ≢ 0) (λ l. (unfinished_of node.board ≡ 0) × IsAfterAll declared_cowns effect_of node.board l.now)
      → IfSome settled (λ l. IsBalances l.now)
      → SameCustomers primary.node.names lent.now
      × (rows_of primary.node.names lent.now ≡ rows_after (calls_of primary.log) (rows_of primary.node.names primary.node.board.opening))
  rows_are settled lent here last bank =
      let names = primary.node.names in
      let board = primary.node.board in
      let one = one_by_one names board.opening (calls_of primary.log) (log_ops names primary.log) board valid.customers refl all refl in
      let after = subst
      (λ (o : Option (Bor Balances)). MatchOption o (unfinished_of node.board ≢ 0)
      (λ l. (unfinished_of node.board ≡ 0) × IsAfterAll declared_cowns effect_of node.board l.now)) here last in
      one.rows lent.now (subst (λ (o : Option (Bor Balances)). IfSome o (λ l. IsBalances l.now)) here bank)
      (subst (λ (n : ReplicaOf S). IsAfterAll declared_cowns effect_of n.board lent.now) is after.1)

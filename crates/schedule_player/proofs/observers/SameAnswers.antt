-- Two replicas that are asked and compared.
use Rattle.std.proofs.Common.{◌≡◌, ℕ, Bool, true, false, not, Option, Some, None, refl, sym, ap, ◌∙◌}
use Rattle.std.specs.Prelude.{is_some}
use Rattle.sb_calls.specs.declared.reply.Reply.{Reply}
use Rattle.sb_rows.specs.Balances.{Balances}
use Rattle.sb_rows.proofs.Customers.{balances_of-customers_of}
use Rattle.sb_rows.specs.Customer.{balances_of}
use Rattle.sb_rows.specs.Listing.{rows_in_order}
use Rattle.sb_text.proofs.RowsByPlace.{rows_in_order-rows_of}
use Rattle.cown_board.proofs.LogLaws.{injective as some_is}
use Rattle.schedule_player.specs.Bank.{BankOf}
use Rattle.schedule_player.specs.Books.{IsRowsAt}
use Rattle.schedule_player.specs.Observers.{reply_at_replica}
use Rattle.schedule_player.specs.World.{WorldOf}
use Rattle.schedule_player.proofs.observers.Observers.{held_is_logged}

-- ---- replies

-- two replies that are held to a number are the log's, and so they are the same
pub same_answers : (world : WorldOf) (a b n : ℕ) (one other : Option Reply) → one ≡ reply_at_replica world a n → other ≡ reply_at_replica world b n
    → (x y : Reply) → one ≡ Some x → other ≡ Some y → x ≡ y
same_answers world a b n one other is_a is_b x y here there =
    some_is (sym (held_is_logged world a n x (sym is_a ∙ here)) ∙ held_is_logged world b n y (sym is_b ∙ there))

-- ---- rows

-- columns that read as the same rows are the same
pub only_rows : (bank : BankOf) (size : ℕ) (left right : Balances) → IsRowsAt bank size left → IsRowsAt bank size right → left ≡ right
only_rows bank size left right at_left at_right =
    sym (balances_of-customers_of bank.names left at_left.customers)
    ∙ ap balances_of
    (sym (rows_in_order-rows_of bank.names left at_left.customers)
    ∙ ap (rows_in_order bank.names) (at_left.rows ∙ sym at_right.rows)
    ∙ rows_in_order-rows_of bank.names right at_right.customers)
    ∙ balances_of-customers_of bank.names right at_right.customers

-- if nothing was found, the answer is that there is none
pub none_found : {A : Type 0} (found : Option A) (answer : Bool) → is_some found ≡ not answer → found ≡ None → answer ≡ true
none_found found true says none = refl
none_found found false says none = sym (ap is_some none) ∙ says

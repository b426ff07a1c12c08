-- The balances that a call touches, by name. A call depends on nothing else.
use Rattle.std.specs.Prelude.{◌≡◌, ℕ, ℤ, Bool, is_some, if◌then◌else◌, ◌&&◌, not, Option, List, [], ◌∷◌, option_map}
use Rattle.std.specs.FinMap.{get}
use Rattle.std.specs.List.{Contains}
use Rattle.std.specs.Str.{bytes_eq}
use Rattle.sb_rows.specs.Rows.{Rows}
use Rattle.sb_calls.specs.Procedures.{procedure}
use Rattle.sb_calls.specs.declared.call.Call.{Call}
use Rattle.sb_calls.specs.declared.call.Call.TheVariants.{Balance, DepositChecking, TransactSavings, Amalgamate, WriteCheck, SendPayment}

-- one of the two balances of a customer: a row's name, and one of the two columns
pub data BalanceCell : Type 0 where
  Savings : List ℕ → BalanceCell
  Checking : List ℕ → BalanceCell

-- the balance in a cell, if the rows have the name
abbrev pub balance_at : Rows → BalanceCell → Option ℤ
balance_at rows (Savings name) = option_map (λ balances. balances.0) (get rows name)
balance_at rows (Checking name) = option_map (λ balances. balances.1) (get rows name)

-- the rows have a name
abbrev pub has_name : Rows → List ℕ → Bool
has_name rows name = is_some (get rows name)

abbrev pub both_of : List ℕ → List BalanceCell
both_of name = Savings name ∷ Checking name ∷ []

-- the cells that a call touches; none if a name isn't in the rows, or if its two names are the
-- same
abbrev pub touched_cells : Rows → Call → List BalanceCell
touched_cells rows (Balance name) = if has_name rows name then both_of name else []
touched_cells rows (DepositChecking name amount) = if has_name rows name then Checking name ∷ [] else []
touched_cells rows (TransactSavings name amount) = if has_name rows name then Savings name ∷ [] else []
touched_cells rows (Amalgamate from to) =
    if has_name rows from && has_name rows to && not (bytes_eq from to)
    then Savings from ∷ Checking from ∷ Checking to ∷ [] else []
touched_cells rows (WriteCheck name amount) = if has_name rows name then both_of name else []
touched_cells rows (SendPayment from to amount) =
    if has_name rows from && has_name rows to && not (bytes_eq from to)
    then Checking from ∷ Checking to ∷ [] else []

abbrev pub HaveSameNames : Rows → Rows → Type 0
HaveSameNames a b = (name : List ℕ) → has_name a name ≡ has_name b name

-- two banks' rows have the same balances in these cells
abbrev pub AgreeOn : List BalanceCell → Rows → Rows → Type 0
AgreeOn cells a b = (cell : BalanceCell) → Contains cells cell → balance_at a cell ≡ balance_at b cell

-- on rows that agree on what the call touches, its reply and the touched balances are the same, and
-- it leaves the other balances
pub record IsLocal (call : Call) (a b : Rows) : Type 0 where
  pub reply : (procedure call a).reply ≡ (procedure call b).reply
  pub balances : AgreeOn (touched_cells a call) (procedure call a).rows (procedure call b).rows
  pub others : (cell : BalanceCell) → ¬ Contains (touched_cells a call) cell
      → balance_at (procedure call a).rows cell ≡ balance_at a cell

-- between rows with the same names, the reply to a call, and the new balances of what it touches,
-- depend on these balances alone; it leaves all others
abbrev pub Locality : Type 0
Locality = (call : Call) (a b : Rows) → HaveSameNames a b → AgreeOn (touched_cells a call) a b → IsLocal call a b

-- What an opening text says.
use Rattle.std.specs.Prelude.{ℕ, ◌+◌, nat_le, ℤ, pos, int_lt, not, if◌then◌else◌, Result, Ok, Err, List, [], ◌∷◌, ◌++◌, map, length, codes}
use Rattle.std.specs.List.{list_any}
use Rattle.std.specs.Str.{bytes_eq}
use Rattle.sb_amount.specs.Money.{money}
use Rattle.sb_amount.specs.Reading.{read_money}
use Rattle.sb_amount.specs.declared.fault.MoneyFault.{MoneyFault}
use Rattle.sb_rows.specs.Balances.{Balances}
use Rattle.sb_rows.specs.Customer.{Customer, names_of, balances_of}
use Rattle.sb_rows.specs.Name.{is_name}
use Rattle.sb_rows.specs.Text.{lines, words, bytes_of_lines}
use Rattle.sb_rows.specs.declared.columns.TheConstants.{CUSTOMERS}
use Rattle.sb_rows.specs.declared.fault.LineFault.{LineFault}
use Rattle.sb_rows.specs.declared.fault.LineFault.TheVariants.{BadLine, BadName, DoubleName, BadMoney, NegativeSavings, TooMany, NoBegin}

-- ---- how it is spelled

-- a customer's line: NAME SAVINGS CHECKING
abbrev pub customer_line : Customer → List ℕ
customer_line c = c.name ++ ((32 ∷ money c.savings) ++ (32 ∷ money c.checking))

-- one line for each customer, and then `begin`
abbrev pub opening_lines : List Customer → List (List ℕ)
opening_lines customers = map customer_line customers ++ codes "begin" ∷ []

-- ---- what it is read as

-- passes a value on to f; a fault stays
infixl 10 ◌>>=◌
abbrev pub ◌>>=◌ : {A B E : Type 0} → Result A E → (A → Result B E) → Result B E
(Ok x) >>= f = f x
(Err e) >>= f = Err e

-- a fault at line n
abbrev pub at_line : {A E : Type 0} → ℕ → Result A E → Result A (ℕ × E)
at_line n (Ok x) = Ok x
at_line n (Err e) = Err (n, e)

-- the customer with these amounts, if n customers come before it
abbrev pub with_amounts : ℕ → List ℕ → Result ℤ MoneyFault → Result ℤ MoneyFault → Result Customer LineFault
with_amounts n name (Ok savings) (Ok checking) =
    if int_lt savings (pos 0) then Err NegativeSavings
    else if nat_le CUSTOMERS n then Err TooMany
    else Ok (record { name = name; savings = savings; checking = checking })
with_amounts n name (Ok savings) (Err fault) = Err BadMoney
with_amounts n name (Err fault) checking = Err BadMoney

-- the customer of a line with these words, or its first fault; `before` are the customers of the
-- lines before it
abbrev pub customer_of : List Customer → List (List ℕ) → Result Customer LineFault
customer_of before (name ∷ savings ∷ checking ∷ []) =
    if not (is_name name) then Err BadName
    else if list_any (bytes_eq name) (names_of before) then Err DoubleName
    else with_amounts (length before) name (read_money savings) (read_money checking)
customer_of before [] = Err BadLine
customer_of before (a ∷ []) = Err BadLine
customer_of before (a ∷ b ∷ []) = Err BadLine
customer_of before (a ∷ b ∷ c ∷ d ∷ more) = Err BadLine

-- the customers of the lines up to `begin`, after those before, or the first faulty line with its
-- fault
unfoldable pub customers_from : List Customer → List (List ℕ) → Result (List Customer) (ℕ × LineFault)
customers_from before [] = Err (length before + 1, NoBegin)
customers_from before (line ∷ ls) =
    if bytes_eq line (codes "begin") then Ok before
    else (at_line (length before + 1) (customer_of before (words line)) >>= λ customer.
    customers_from (before ++ customer ∷ []) ls)

-- what an opening says: the names, the balances, and the number of bytes it takes
pub record OpeningText : Type 0 where
  pub names : List (List ℕ)
  pub balances : Balances
  pub consumed : ℕ

-- the opening at the front of a text, or the first faulty line with its fault
abbrev pub opening_of : List ℕ → Result OpeningText (ℕ × LineFault)
opening_of text = customers_from [] (lines text) >>= λ customers.
    Ok (record {
      names = names_of customers;
      balances = balances_of customers;
      consumed = bytes_of_lines (length customers + 1) text;
    })

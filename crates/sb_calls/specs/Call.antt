-- How calls are spelled, and how a line is read.
use Rattle.std.specs.Prelude.{ℕ, ℤ, ◌&&◌, if◌then◌else◌, Result, Ok, Err, List, [], ◌∷◌, ◌++◌, codes}
use Rattle.std.specs.Str.{bytes_eq}
use Rattle.sb_amount.specs.Limit.{IsWithinLimit}
use Rattle.sb_amount.specs.Money.{money}
use Rattle.sb_amount.specs.Reading.{read_money}
use Rattle.sb_amount.specs.declared.fault.MoneyFault.{MoneyFault}
use Rattle.sb_rows.specs.Name.{is_name, IsName}
use Rattle.sb_rows.specs.Text.{words}
use Rattle.sb_calls.specs.declared.call.Call.{Call}
use Rattle.sb_calls.specs.declared.call.Call.TheVariants.{Balance, DepositChecking, TransactSavings, Amalgamate, WriteCheck, SendPayment}
use Rattle.sb_calls.specs.declared.text.fault.CallFault.{CallFault}
use Rattle.sb_calls.specs.declared.text.fault.CallFault.TheVariants.{UnknownVerb, WrongWords, BadName, BadMoney}

-- ---- how it is spelled

-- the spelling of a call
abbrev pub call_line : Call → List ℕ
call_line (Balance name) = codes "balance " ++ name
call_line (DepositChecking name amount) = codes "deposit " ++ (name ++ (32 ∷ money amount))
call_line (TransactSavings name amount) = codes "savings " ++ (name ++ (32 ∷ money amount))
call_line (Amalgamate from to) = codes "amalgamate " ++ (from ++ (32 ∷ to))
call_line (WriteCheck name amount) = codes "check " ++ (name ++ (32 ∷ money amount))
call_line (SendPayment from to amount) = codes "pay " ++ (from ++ (32 ∷ (to ++ (32 ∷ money amount))))

-- a call is valid: its names are valid, and its amount is within the limit
abbrev pub IsCall : Call → Type 0
IsCall (Balance name) = IsName name
IsCall (DepositChecking name amount) = IsName name × IsWithinLimit amount
IsCall (TransactSavings name amount) = IsName name × IsWithinLimit amount
IsCall (Amalgamate from to) = IsName from × IsName to
IsCall (WriteCheck name amount) = IsName name × IsWithinLimit amount
IsCall (SendPayment from to amount) = IsName from × IsName to × IsWithinLimit amount

-- ---- what it is read as

-- the call with this amount
abbrev pub with_amount : (ℤ → Call) → Result ℤ MoneyFault → Result Call CallFault
with_amount call (Ok amount) = Ok (call amount)
with_amount call (Err fault) = Err BadMoney

-- the words after a verb that takes a name
abbrev pub of_name : (List ℕ → Call) → List (List ℕ) → Result Call CallFault
of_name call (name ∷ []) = if is_name name then Ok (call name) else Err BadName
of_name call [] = Err WrongWords
of_name call (a ∷ b ∷ more) = Err WrongWords

-- the words after a verb that takes a name and an amount
abbrev pub of_name_and_amount : (List ℕ → ℤ → Call) → List (List ℕ) → Result Call CallFault
of_name_and_amount call (name ∷ amount ∷ []) =
    if is_name name then with_amount (call name) (read_money amount) else Err BadName
of_name_and_amount call [] = Err WrongWords
of_name_and_amount call (a ∷ []) = Err WrongWords
of_name_and_amount call (a ∷ b ∷ c ∷ more) = Err WrongWords

-- the words after a verb that takes two names
abbrev pub of_two_names : (List ℕ → List ℕ → Call) → List (List ℕ) → Result Call CallFault
of_two_names call (from ∷ to ∷ []) = if is_name from && is_name to then Ok (call from to) else Err BadName
of_two_names call [] = Err WrongWords
of_two_names call (a ∷ []) = Err WrongWords
of_two_names call (a ∷ b ∷ c ∷ more) = Err WrongWords

-- the words after a verb that takes two names and an amount
abbrev pub of_two_names_and_amount : (List ℕ → List ℕ → ℤ → Call) → List (List ℕ) → Result Call CallFault
of_two_names_and_amount call (from ∷ to ∷ amount ∷ []) =
    if is_name from && is_name to then with_amount (call from to) (read_money amount) else Err BadName
of_two_names_and_amount call [] = Err WrongWords
of_two_names_and_amount call (a ∷ []) = Err WrongWords
of_two_names_and_amount call (a ∷ b ∷ []) = Err WrongWords
of_two_names_and_amount call (a ∷ b ∷ c ∷ d ∷ more) = Err WrongWords

-- the call that the words of a line spell, or their first fault
abbrev pub call_of_words : List (List ℕ) → Result Call CallFault
call_of_words [] = Err UnknownVerb
call_of_words (verb ∷ rest) =
    if bytes_eq verb (codes "balance") then of_name Balance rest
    else if bytes_eq verb (codes "deposit") then of_name_and_amount DepositChecking rest
    else if bytes_eq verb (codes "savings") then of_name_and_amount TransactSavings rest
    else if bytes_eq verb (codes "check") then of_name_and_amount WriteCheck rest
    else if bytes_eq verb (codes "amalgamate") then of_two_names Amalgamate rest
    else if bytes_eq verb (codes "pay") then of_two_names_and_amount SendPayment rest
    else Err UnknownVerb

-- the call that a line spells, or its first fault
unfoldable pub call_of : List ℕ → Result Call CallFault
call_of line = call_of_words (words line)

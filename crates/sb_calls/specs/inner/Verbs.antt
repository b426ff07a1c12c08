-- How verbs are spelled, and the calls that they name.
use Rattle.std.specs.Prelude.{ℕ, ℤ, List, codes}
use Rattle.sb_calls.specs.declared.call.Call.{Call}
use Rattle.sb_calls.specs.declared.call.Call.TheVariants.{DepositChecking, TransactSavings, WriteCheck}
use Rattle.sb_calls.specs.declared.text.verb.AmountVerb.{AmountVerb}
use Rattle.sb_calls.specs.declared.text.verb.AmountVerb.TheVariants.{Deposit, Savings, Check}
use Rattle.sb_calls.specs.declared.text.verb.Verb.{Verb}
use Rattle.sb_calls.specs.declared.text.verb.Verb.TheVariants.{Balance, OfAmount, Amalgamate, Pay}

-- the spelling of a verb
abbrev pub verb_text : Verb → List ℕ
verb_text Balance = codes "balance"
verb_text (OfAmount Deposit) = codes "deposit"
verb_text (OfAmount Savings) = codes "savings"
verb_text (OfAmount Check) = codes "check"
verb_text Amalgamate = codes "amalgamate"
verb_text Pay = codes "pay"

-- the call of a verb that takes a name and an amount
abbrev pub amount_call : AmountVerb → List ℕ → ℤ → Call
amount_call Deposit name amount = DepositChecking name amount
amount_call Savings name amount = TransactSavings name amount
amount_call Check name amount = WriteCheck name amount

-- The bank that a schedule is about: its opening, and the calls of the log.
use Rattle.std.specs.Prelude.{ℕ, ℤ, Option, List}
use Rattle.sb_rows.specs.Balances.{Balances}
use Rattle.sb_rows.specs.Rows.{Rows, rows_of}
use Rattle.sb_calls.specs.Log.{rows_after_calls, reply_to}
use Rattle.sb_calls.specs.declared.call.Call.{Call}
use Rattle.sb_calls.specs.declared.reply.Reply.{Reply}
use Rattle.lane_audit.specs.Audit.{balances_total}

-- the customers' names, their balances at the opening, and the calls, numbered from 1
pub record BankOf : Type 0 where
  pub names : List (List ℕ)
  pub opening : Balances
  pub calls : List Call

abbrev pub opening_rows : BankOf → Rows
opening_rows bank = rows_of bank.names bank.opening

-- the total of all customers' balances at the opening
abbrev pub opening_total : BankOf → ℤ
opening_total bank = balances_total bank.opening

-- the reply to a number, with the calls run one by one
abbrev pub log_reply : BankOf → ℕ → Option Reply
log_reply bank number = reply_to (opening_rows bank) bank.calls number

-- the rows after this many calls, run one by one
abbrev pub log_rows : BankOf → ℕ → Rows
log_rows bank size = rows_after_calls (opening_rows bank) bank.calls size

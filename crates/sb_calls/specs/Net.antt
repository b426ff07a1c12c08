-- What calls add to the bank's total.
use Rattle.std.specs.Prelude.{◌≡◌, ℕ, ℤ, pos, neg_ℤ, ◌+ℤ◌, is_some, List, [], ◌∷◌, take}
use Rattle.sb_rows.specs.Directory.{IsDirectory, place_of}
use Rattle.sb_rows.specs.Listing.{rows_in_order, total_of}
use Rattle.sb_rows.specs.Rows.{Rows}
use Rattle.sb_calls.specs.Log.{rows_after_calls, replies_to}
use Rattle.sb_calls.specs.Touches.{has_name}
use Rattle.sb_calls.specs.declared.call.Call.{Call}
use Rattle.sb_calls.specs.declared.call.Call.TheVariants.{Balance, DepositChecking, TransactSavings, Amalgamate, WriteCheck, SendPayment}
use Rattle.sb_calls.specs.declared.reply.Reply.{Reply}
use Rattle.sb_calls.specs.declared.reply.Reply.TheVariants.{Shown, Done, Penalised, NoCustomer, SameCustomer, Negative, WouldOverdraw, OverLimit}

-- a deposit or a savings call adds its amount if it is done
abbrev pub net_if_done : ℤ → Reply → ℤ
net_if_done amount Done = amount
net_if_done amount (Shown total) = pos 0
net_if_done amount Penalised = pos 0
net_if_done amount NoCustomer = pos 0
net_if_done amount SameCustomer = pos 0
net_if_done amount Negative = pos 0
net_if_done amount WouldOverdraw = pos 0
net_if_done amount OverLimit = pos 0

-- a check that is paid takes its amount, and the penalty if there is one
abbrev pub net_if_paid : ℤ → Reply → ℤ
net_if_paid amount Done = neg_ℤ amount
net_if_paid amount Penalised = neg_ℤ (amount +ℤ pos 100)
net_if_paid amount (Shown total) = pos 0
net_if_paid amount NoCustomer = pos 0
net_if_paid amount SameCustomer = pos 0
net_if_paid amount Negative = pos 0
net_if_paid amount WouldOverdraw = pos 0
net_if_paid amount OverLimit = pos 0

-- what a call with this reply adds to the total
abbrev pub net_of : Call → Reply → ℤ
net_of (Balance name) reply = pos 0
net_of (DepositChecking name amount) reply = net_if_done amount reply
net_of (TransactSavings name amount) reply = net_if_done amount reply
net_of (Amalgamate from to) reply = pos 0
net_of (WriteCheck name amount) reply = net_if_paid amount reply
net_of (SendPayment from to amount) reply = pos 0

-- the sum of the net changes of calls with these replies
abbrev pub net_sum : List Call → List Reply → ℤ
net_sum [] replies = pos 0
net_sum (call ∷ log) [] = pos 0
net_sum (call ∷ log) (reply ∷ replies) = net_of call reply +ℤ net_sum log replies

-- the rows have exactly these names
pub record HasNames (directory : List (List ℕ)) (rows : Rows) : Type 0 where
  pub names : IsDirectory directory
  pub same : (name : List ℕ) → has_name rows name ≡ is_some (place_of directory name)

-- the total after k calls is the opening's plus the net changes of these calls
abbrev pub TotalByNet : Type 0
TotalByNet = (directory : List (List ℕ)) (opening : Rows) (log : List Call) (k : ℕ) → HasNames directory opening
    → total_of (rows_in_order directory (rows_after_calls opening log k))
    ≡ total_of (rows_in_order directory opening) +ℤ net_sum (take k log) (take k (replies_to opening log))

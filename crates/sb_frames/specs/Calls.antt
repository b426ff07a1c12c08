-- Calls read from the left.
use Rattle.std.specs.Prelude.{ℕ, ℤ, ◌==◌, if◌then◌else◌, Result, Ok, Err, List}
use Rattle.sb_calls.specs.declared.call.Call.{Call}
use Rattle.sb_calls.specs.declared.call.Call.TheVariants.{Balance, DepositChecking, TransactSavings, Amalgamate, WriteCheck, SendPayment}
use Rattle.sb_frames.specs.Reading.{◌>>=◌, byte_at, amount_at, name_at}
use Rattle.sb_frames.specs.declared.fault.FrameFault.{FrameFault}
use Rattle.sb_frames.specs.declared.fault.FrameFault.TheVariants.{UnknownTag}

abbrev pub one_name_at : (List ℕ → Call) → List ℕ → Result (Call × List ℕ) FrameFault
one_name_at call bytes = do
  name ← name_at bytes
  Ok (call name.0, name.1)

abbrev pub name_and_amount_at : (List ℕ → ℤ → Call) → List ℕ → Result (Call × List ℕ) FrameFault
name_and_amount_at call bytes = do
  name ← name_at bytes
  amount ← amount_at name.1
  Ok (call name.0 amount.0, amount.1)

abbrev pub two_names_at : (List ℕ → List ℕ → Call) → List ℕ → Result (Call × List ℕ) FrameFault
two_names_at call bytes = do
  from ← name_at bytes
  to ← name_at from.1
  Ok (call from.0 to.0, to.1)

abbrev pub two_names_and_amount_at : (List ℕ → List ℕ → ℤ → Call) → List ℕ → Result (Call × List ℕ) FrameFault
two_names_and_amount_at call bytes = do
  from ← name_at bytes
  to ← name_at from.1
  amount ← amount_at to.1
  Ok (call from.0 to.0 amount.0, amount.1)

-- the call after a kind's byte, and the bytes after it
abbrev pub call_of_kind : ℕ → List ℕ → Result (Call × List ℕ) FrameFault
call_of_kind kind bytes =
    if kind == 1 then one_name_at Balance bytes
    else if kind == 2 then name_and_amount_at DepositChecking bytes
    else if kind == 3 then name_and_amount_at TransactSavings bytes
    else if kind == 4 then two_names_at Amalgamate bytes
    else if kind == 5 then name_and_amount_at WriteCheck bytes
    else if kind == 6 then two_names_and_amount_at SendPayment bytes
    else Err UnknownTag

-- a call: its kind, its names, and its amount if it has one
unfoldable pub call_at : List ℕ → Result (Call × List ℕ) FrameFault
call_at bytes = do
  kind ← byte_at bytes
  call_of_kind kind.0 kind.1

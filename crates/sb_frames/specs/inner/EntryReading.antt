-- Entries read from the left, with the names of their calls looked up.
use Rattle.std.specs.Prelude.{ℕ, ℤ, ◌-◌, ◌==◌, if◌then◌else◌, Option, Result, Ok, Err, List, length, take, drop}
use Rattle.std.specs.Int.{w64}
use Rattle.sb_calls.specs.Op.{at_place, at_two_places}
use Rattle.sb_calls.specs.declared.op.Op.{Op}
use Rattle.sb_calls.specs.declared.op.Op.TheVariants.{Balance, DepositChecking, TransactSavings, Amalgamate, WriteCheck, SendPayment}
use Rattle.sb_rows.specs.Directory.{place_of}
use Rattle.sb_frames.specs.Decoding.{frame_size}
use Rattle.sb_frames.specs.Reading.{◌>>=◌, byte_at, amount_at, name_at, unsigned_at}
use Rattle.sb_frames.specs.declared.entry_op.EntryOp.{EntryOp}
use Rattle.sb_frames.specs.declared.fault.FrameFault.{FrameFault}
use Rattle.sb_frames.specs.declared.fault.FrameFault.TheVariants.{BadLength, UnknownTag}

-- the place of the customer with a name
unfoldable pub place_at : List (List ℕ) → List ℕ → Result (Option ℕ × List ℕ) FrameFault
place_at names bytes = do
  name ← name_at bytes
  Ok (place_of names name.0, name.1)

-- an amount, and the op that it makes
abbrev pub with_amount_at : (ℤ → Op) → List ℕ → Result (Op × List ℕ) FrameFault
with_amount_at op bytes = do
  amount ← amount_at bytes
  Ok (op amount.0, amount.1)

-- the second name, and the op for the places of both
abbrev pub amalgamate_at : List (List ℕ) → Option ℕ → List ℕ → Result (Op × List ℕ) FrameFault
amalgamate_at names from bytes = do
  to ← place_at names bytes
  Ok (at_two_places Amalgamate from to.0, to.1)

abbrev pub send_payment_at : List (List ℕ) → Option ℕ → List ℕ → Result (Op × List ℕ) FrameFault
send_payment_at names from bytes = do
  to ← place_at names bytes
  with_amount_at (λ amount. at_two_places (λ places. SendPayment places amount) from to.0) to.1

-- the op after a kind and the place of the first name
abbrev pub op_of_kind : List (List ℕ) → ℕ → Option ℕ → List ℕ → Result (Op × List ℕ) FrameFault
op_of_kind names kind place bytes =
    if kind == 1 then Ok (at_place Balance place, bytes)
    else if kind == 2 then with_amount_at (λ amount. at_place (λ p. DepositChecking p amount) place) bytes
    else if kind == 3 then with_amount_at (λ amount. at_place (λ p. TransactSavings p amount) place) bytes
    else if kind == 4 then amalgamate_at names place bytes
    else if kind == 5 then with_amount_at (λ amount. at_place (λ p. WriteCheck p amount) place) bytes
    else if kind == 6 then send_payment_at names place bytes
    else Err UnknownTag

-- the op of a call: its kind, its first name, and what else its kind has
unfoldable pub op_at : List (List ℕ) → List ℕ → Result (Op × List ℕ) FrameFault
op_at names bytes = do
  kind ← byte_at bytes
  place ← place_at names kind.1
  op_of_kind names kind.0 place.0 place.1

-- the fields of an entry
abbrev pub entry_op_at : List (List ℕ) → List ℕ → Result (EntryOp × List ℕ) FrameFault
entry_op_at names bytes = do
  number ← unsigned_at w64 bytes
  op ← op_at names number.1
  Ok (record { number = number.0; op = op.0 }, op.1)

-- a whole body: its tag is that of an entry, and nothing follows the fields
unfoldable pub body_entry : List (List ℕ) → List ℕ → Result EntryOp FrameFault
body_entry names bytes = do
  tag ← byte_at bytes
  entry ← if tag.0 == 2 then entry_op_at names tag.1 else Err UnknownTag
  if length entry.1 == 0 then Ok entry.0 else Err BadLength

-- the entry at the front of the bytes, or a fault if none is
unfoldable pub first_entry : List (List ℕ) → List ℕ → Result EntryOp FrameFault
first_entry names bytes = do
  size ← frame_size bytes
  body_entry names (take (size - 2) (drop 2 bytes))

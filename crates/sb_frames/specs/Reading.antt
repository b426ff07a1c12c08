-- Fields read from the left: the value and the bytes after it, or the fault.
use Rattle.std.specs.Prelude.{ℕ, ℤ, neg_ℤ, int_le, nat_lt, ◌==◌, Bool, ◌&&◌, ◌||◌, if◌then◌else◌, Result, Ok, Err, List, [], ◌∷◌, length, take, drop}
use Rattle.std.specs.Int.{Width, w64, byte_len, from_be_bytes, cast_signed}
use Rattle.sb_amount.specs.declared.cents.TheConstants.{LIMIT}
use Rattle.sb_rows.specs.Name.{is_name}
use Rattle.sb_rows.specs.declared.name.TheConstants.{NAME_BYTES}
use Rattle.sb_frames.specs.declared.fault.FrameFault.{FrameFault}
use Rattle.sb_frames.specs.declared.fault.FrameFault.TheVariants.{BadLength, BadName, BadAmount}

-- reads on after what was read; the first fault counts
infixl 10 ◌>>=◌
abbrev pub ◌>>=◌ : {A B : Type 0} → Result A FrameFault → (A → Result B FrameFault) → Result B FrameFault
(Ok read) >>= next = next read
(Err fault) >>= next = Err fault

abbrev pub byte_at : List ℕ → Result (ℕ × List ℕ) FrameFault
byte_at [] = Err BadLength
byte_at (byte ∷ rest) = Ok (byte, rest)

-- this many bytes
unfoldable pub bytes_at : ℕ → List ℕ → Result (List ℕ × List ℕ) FrameFault
bytes_at n bytes = if nat_lt (length bytes) n then Err BadLength else Ok (take n bytes, drop n bytes)

unfoldable pub unsigned_at : Width → List ℕ → Result (ℕ × List ℕ) FrameFault
unsigned_at w bytes = do
  cells ← bytes_at (byte_len w) bytes
  Ok (from_be_bytes w cells.0, cells.1)

unfoldable pub signed_at : List ℕ → Result (ℤ × List ℕ) FrameFault
signed_at bytes = do
  number ← unsigned_at w64 bytes
  Ok (cast_signed w64 number.0, number.1)

-- the amount is from -limit to limit
abbrev pub is_within : ℤ → ℤ → Bool
is_within limit cents = int_le (neg_ℤ limit) cents && int_le cents limit

unfoldable pub amount_at : List ℕ → Result (ℤ × List ℕ) FrameFault
amount_at bytes = do
  cents ← signed_at bytes
  if is_within LIMIT cents.0 then Ok cents else Err BadAmount

-- a name: its length is examined before its bytes
unfoldable pub name_at : List ℕ → Result (List ℕ × List ℕ) FrameFault
name_at bytes = do
  size ← byte_at bytes
  text ← if (size.0 == 0) || nat_lt NAME_BYTES size.0 then Err BadName else bytes_at size.0 size.1
  if is_name text.0 then Ok text else Err BadName

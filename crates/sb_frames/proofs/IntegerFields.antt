-- A number that is read has its spelling there, and its spelling is read as the number.
use Rattle.std.proofs.Common.{◌≡◌, ℕ, ◌^◌, ◌<◌, ℤ, false, ltb, List, ◌++◌, length, get_or, take, drop, Result, Ok, refl, sym, ap, subst, ◌∙◌, arith, inl, inr}
use Rattle.std.specs.Int.{Width, w32, w64, byte_len, from_be_bytes, to_be_bytes, cast_signed, cast_unsigned}
use Rattle.std.specs.Prelude.{FitsSigned}
use Rattle.std.proofs.lemmas.Bool.{cases_lt, ltb-false, le-ltb}
use Rattle.std.proofs.lemmas.Int.{of_z-to_z, to_z-of_z, ints}
use Rattle.std.proofs.lemmas.List.{take_at, drop_at, take-append-drop, length-append, length-take-le, get_or_past}
use Rattle.std.proofs.lemmas.List.Elements.{All-take}
use Rattle.std.proofs.lemmas.Nat.{be_bytes_4, be_bytes_8, from_be_bytes-to_be_bytes_4, from_be_bytes-to_be_bytes_8}
use Rattle.sb_calls.specs.Replies.{integer_field, amount_field}
use Rattle.sb_frames.specs.Reading.{bytes_at, unsigned_at, signed_at}
use Rattle.sb_frames.specs.Streaming.{AreBytes}
use Rattle.sb_frames.specs.declared.fault.FrameFault.{FrameFault}
use Rattle.sb_frames.specs.declared.fault.FrameFault.TheVariants.{BadLength}
use Rattle.sb_frames.proofs.ReadingSteps.{first_step, refused_not, same_value}

-- a field: how its values are spelled, and how they are read
pub record IsField {A : Type 0} (Valid : A → Type 0) (spell : A → List ℕ) (read : List ℕ → Result (A × List ℕ) FrameFault) : Type 0 where
  pub takes : (bytes : List ℕ) (value : A) (rest : List ℕ) → AreBytes bytes → read bytes ≡ Ok (value, rest) → Valid value × (bytes ≡ spell value ++ rest)
  pub again : (value : A) (rest : List ℕ) → Valid value → read (spell value ++ rest) ≡ Ok (value, rest)

-- ---- bytes

pub each_byte : (bytes : List ℕ) → AreBytes bytes → (i : ℕ) → get_or bytes i 0 < 256
each_byte bytes h i = elim (cases_lt i (length bytes)) [ inl lt ↦ h i 0 lt | inr le ↦ rw (get_or_past bytes i 0 le) (omega arith) ]

pub bytes_take : (n : ℕ) (bytes text rest : List ℕ) → bytes_at n bytes ≡ Ok (text, rest) → (length text ≡ n) × (text ≡ take n bytes) × (bytes ≡ text ++ rest)
unfolding bytes_at
bytes_take n bytes text rest e =
    let long = refused_not (ltb (length bytes) n) BadLength (Ok (take n bytes, drop n bytes)) (text, rest) e in
    let parts = same_value (take n bytes, drop n bytes) (text, rest) long.1 in
    let front : take n bytes ≡ text = ap (λ (p : List ℕ × List ℕ). p.0) parts in
    let back : drop n bytes ≡ rest = ap (λ (p : List ℕ × List ℕ). p.1) parts in (
      ap length (sym front) ∙ length-take-le n bytes (ltb-false _ _ long.0),
      sym front,
      sym (take-append-drop n bytes)
          ∙ ap (λ (xs : List ℕ). xs ++ drop n bytes) front ∙ ap (λ (xs : List ℕ). text ++ xs) back,
    )

pub bytes_again : (n : ℕ) (text rest : List ℕ) → length text ≡ n → bytes_at n (text ++ rest) ≡ Ok (text, rest)
unfolding bytes_at
bytes_again n text rest len =
    let long : ltb (length (text ++ rest)) n ≡ false = le-ltb _ _ (omega (arith, length-append text rest)) in
    rw (long, take_at text rest n len, drop_at text rest n len) refl

-- ---- numbers

-- what holds for both widths of numbers
record IsWide (w : Width) (limit : ℕ) : Type 0 where
  size : (n : ℕ) → length (to_be_bytes w n) ≡ byte_len w
  back : (cells : List ℕ) → length cells ≡ byte_len w → AreBytes cells → to_be_bytes w (from_be_bytes w cells) ≡ cells
  again : (n : ℕ) → n < limit → from_be_bytes w (to_be_bytes w n) ≡ n
  below : (cells : List ℕ) → AreBytes cells → from_be_bytes w cells < limit

wide32 : IsWide w32 (2 ^ 32)
wide32 = record {
  size = λ n. refl;
  back = λ cells len h. be_bytes_4 cells _ len (each_byte cells h) refl;
  again = λ n lt. from_be_bytes-to_be_bytes_4 n lt;
  below = λ cells h. let b = each_byte cells h in omega (arith, b 0, b 1, b 2, b 3);
}

wide64 : IsWide w64 (2 ^ 64)
wide64 = record {
  size = λ n. refl;
  back = λ cells len h. be_bytes_8 cells _ len (each_byte cells h) refl;
  again = λ n lt. from_be_bytes-to_be_bytes_8 n lt;
  below = λ cells h. let b = each_byte cells h in omega (arith, b 0, b 1, b 2, b 3, b 4, b 5, b 6, b 7);
}

number_takes : (w : Width) (limit : ℕ) (wide : IsWide w limit) (bytes : List ℕ) (n : ℕ) (rest : List ℕ) → AreBytes bytes → unsigned_at w bytes ≡ Ok (n, rest)
    → (n < limit) × (bytes ≡ integer_field w n ++ rest)
unfolding unsigned_at integer_field
number_takes w limit wide bytes n rest h e =
    let step = first_step (bytes_at (byte_len w) bytes) (λ cells. Ok (from_be_bytes w cells.0, cells.1)) (n, rest) e in
    let cells = step.0.0 in
    let part = bytes_take (byte_len w) bytes cells step.0.1 step.1 in
    let parts = same_value (from_be_bytes w cells, step.0.1) (n, rest) step.2 in
    let n_is : from_be_bytes w cells ≡ n = ap (λ (p : ℕ × List ℕ). p.0) parts in
    let rest_is : step.0.1 ≡ rest = ap (λ (p : ℕ × List ℕ). p.1) parts in
    let are : AreBytes cells = subst (λ xs. AreBytes xs) (sym part.1) (All-take (λ byte. byte < 256) (byte_len w) bytes h) in
    let spelled : to_be_bytes w n ≡ cells = ap (to_be_bytes w) (sym n_is) ∙ wide.back cells part.0 are in (
      subst (λ k. k < limit) n_is (wide.below cells are),
      part.2 ∙ ap (λ (xs : List ℕ). xs ++ step.0.1) (sym spelled)
          ∙ ap (λ (xs : List ℕ). to_be_bytes w n ++ xs) rest_is,
    )

number_again : (w : Width) (limit : ℕ) (wide : IsWide w limit) (n : ℕ) (rest : List ℕ) → n < limit → unsigned_at w (integer_field w n ++ rest) ≡ Ok (n, rest)
unfolding unsigned_at integer_field
number_again w limit wide n rest lt =
    rw (bytes_again (byte_len w) (to_be_bytes w n) rest (wide.size n), wide.again n lt) refl

pub number32 : IsField (λ n. n < 2 ^ 32) (integer_field w32) (unsigned_at w32)
number32 = record { takes = number_takes w32 (2 ^ 32) wide32; again = number_again w32 (2 ^ 32) wide32 }

pub number64 : IsField (λ n. n < 2 ^ 64) (integer_field w64) (unsigned_at w64)
number64 = record { takes = number_takes w64 (2 ^ 64) wide64; again = number_again w64 (2 ^ 64) wide64 }

-- ---- signed numbers

pub signed_takes : (bytes : List ℕ) (cents : ℤ) (rest : List ℕ) → AreBytes bytes → signed_at bytes ≡ Ok (cents, rest) → bytes ≡ amount_field cents ++ rest
unfolding signed_at
signed_takes bytes cents rest h e =
    let step = first_step (unsigned_at w64 bytes) (λ number. Ok (cast_signed w64 number.0, number.1)) (cents, rest) e in
    let read = number64.takes bytes step.0.0 step.0.1 h step.1 in
    let parts = same_value (cast_signed w64 step.0.0, step.0.1) (cents, rest) step.2 in
    let back : cast_unsigned w64 cents ≡ step.0.0 = ap (λ (p : ℤ × List ℕ). cast_unsigned w64 p.0) (sym parts) ∙ of_z-to_z w64 step.0.0 read.0 in
    read.1 ∙ ap (λ n. integer_field w64 n ++ step.0.1) (sym back) ∙ ap (λ (p : ℤ × List ℕ). amount_field cents ++ p.1) parts

pub signed_again : (cents : ℤ) (rest : List ℕ) → FitsSigned w64 cents → signed_at (amount_field cents ++ rest) ≡ Ok (cents, rest)
unfolding signed_at
signed_again cents rest fits =
    let lt : cast_unsigned w64 cents < 2 ^ 64 = omega (arith, ints, fits) in
    rw (number64.again (cast_unsigned w64 cents) rest lt, to_z-of_z w64 cents fits) refl

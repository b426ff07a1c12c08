-- Names and amounts, read and spelled.
use Rattle.std.proofs.Common.{◌≡◌, ℕ, ◌≤◌, ℤ, true, false, cond, eqb, ltb, ◌&&◌, ◌||◌, List, ◌∷◌, ◌++◌, length, Ok, Err, refl, sym, ap, ◌∙◌, arith, leb-true, nat_le}
use Rattle.std.specs.Int.{w64}
use Rattle.std.specs.List.{list_all}
use Rattle.std.specs.Prelude.{FitsSigned}
use Rattle.std.proofs.lemmas.Bool.{and_parts}
use Rattle.std.proofs.lemmas.Bool.Decides.{nat_tests}
use Rattle.std.proofs.lemmas.Int.{ints}
use Rattle.sb_amount.specs.Limit.{IsWithinLimit}
use Rattle.sb_amount.specs.declared.cents.TheConstants.{LIMIT}
use Rattle.sb_calls.specs.Replies.{amount_field}
use Rattle.sb_rows.specs.Name.{is_name, IsName, is_name_byte}
use Rattle.sb_rows.specs.declared.name.TheConstants.{NAME_BYTES}
use Rattle.sb_frames.specs.Fields.{name_field}
use Rattle.sb_frames.specs.Reading.{◌>>=◌, byte_at, bytes_at, signed_at, amount_at, name_at, is_within}
use Rattle.sb_frames.specs.Streaming.{AreBytes}
use Rattle.sb_frames.specs.declared.fault.FrameFault.TheVariants.{BadName, BadAmount}
use Rattle.sb_frames.proofs.IntegerFields.{IsField, bytes_take, bytes_again, signed_takes, signed_again}
use Rattle.sb_frames.proofs.ReadingSteps.{first_step, refused_not, accepted, byte_takes}

-- ---- amounts

within_limit : (cents : ℤ) → is_within LIMIT cents ≡ true → IsWithinLimit cents
within_limit cents h =
    record { at_least = grind (arith, ints); at_most = grind (arith, ints) }

is_within_limit : (cents : ℤ) → IsWithinLimit cents → is_within LIMIT cents ≡ true
is_within_limit cents h = let low = h.at_least in let high = h.at_most in grind (arith, ints)

limit_fits : (cents : ℤ) → IsWithinLimit cents → FitsSigned w64 cents
limit_fits cents h = let low = h.at_least in let high = h.at_most in omega (arith, ints)

amount_takes : (bytes : List ℕ) (cents : ℤ) (rest : List ℕ) → AreBytes bytes → amount_at bytes ≡ Ok (cents, rest)
    → IsWithinLimit cents × (bytes ≡ amount_field cents ++ rest)
unfolding amount_at
amount_takes bytes cents rest h e =
    let step = first_step (signed_at bytes) (λ cents. cond (is_within LIMIT cents.0) (Ok cents) (Err BadAmount)) (cents, rest) e in
    let test = accepted (is_within LIMIT step.0.0) BadAmount step.0 (cents, rest) step.2 in
    let read : signed_at bytes ≡ Ok (cents, rest) = step.1 ∙ ap (λ (p : ℤ × List ℕ). Ok p) test.1 in
    let is : is_within LIMIT cents ≡ true = ap (λ (p : ℤ × List ℕ). is_within LIMIT p.0) (sym test.1) ∙ test.0 in
    (within_limit cents is, signed_takes bytes cents rest h read)

amount_again : (cents : ℤ) (rest : List ℕ) → IsWithinLimit cents → amount_at (amount_field cents ++ rest) ≡ Ok (cents, rest)
unfolding amount_at
amount_again cents rest within = rw (signed_again cents rest (limit_fits cents within), is_within_limit cents within) refl

pub amount : IsField IsWithinLimit amount_field amount_at
amount = record { takes = amount_takes; again = amount_again }

-- ---- names

-- a name has 1 to 20 bytes
pub name_sizes : (name : List ℕ) → IsName name → (1 ≤ length name) × (length name ≤ NAME_BYTES)
name_sizes name h =
    let sizes = and_parts (nat_le 1 (length name)) (nat_le (length name) NAME_BYTES)
    (and_parts (nat_le 1 (length name) && nat_le (length name) NAME_BYTES) (list_all is_name_byte name) h).0 in
    (leb-true 1 (length name) sizes.0, leb-true (length name) NAME_BYTES sizes.1)

name_takes : (bytes name rest : List ℕ) → AreBytes bytes → name_at bytes ≡ Ok (name, rest) → IsName name × (bytes ≡ name_field name ++ rest)
unfolding name_at
name_takes bytes name rest h e =
    let step = first_step (byte_at bytes)
    (λ size. cond (eqb size.0 0 || ltb NAME_BYTES size.0) (Err BadName) (bytes_at size.0 size.1) >>= λ text. cond (is_name text.0) (Ok text)
    (Err BadName)) (name, rest) e in
    let size = step.0.0 in
    let text = first_step (cond (eqb size 0 || ltb NAME_BYTES size) (Err BadName) (bytes_at size step.0.1))
    (λ text. cond (is_name text.0) (Ok text) (Err BadName)) (name, rest) step.2 in
    let sized = refused_not (eqb size 0 || ltb NAME_BYTES size) BadName (bytes_at size step.0.1) text.0 text.1 in
    let test = accepted (is_name text.0.0) BadName text.0 (name, rest) text.2 in
    let read : bytes_at size step.0.1 ≡ Ok (name, rest) = sized.1 ∙ ap (λ (p : List ℕ × List ℕ). Ok p) test.1 in
    let part = bytes_take size step.0.1 name rest read in
    let valid : IsName name = ap (λ (p : List ℕ × List ℕ). is_name p.0) (sym test.1) ∙ test.0 in
    (valid, byte_takes bytes size step.0.1 step.1 ∙ ap (λ n. n ∷ step.0.1) (sym part.0) ∙ ap (λ (xs : List ℕ). length name ∷ xs) part.2)

name_again : (name rest : List ℕ) → IsName name → name_at (name_field name ++ rest) ≡ Ok (name, rest)
unfolding name_at
name_again name rest valid =
    let sizes = name_sizes name valid in
    let fits : (eqb (length name) 0 || ltb NAME_BYTES (length name)) ≡ false = grind (arith, nat_tests, sizes.0, sizes.1) in
    rw (fits, bytes_again (length name) name rest refl, valid) refl

pub name : IsField IsName name_field name_at
name = record { takes = name_takes; again = name_again }

-- How many bytes money text takes.
use Rattle.std.proofs.Common.{ℕ, suc, ◌≡◌, ◌+◌, ◌/◌, ◌%◌, ◌≤◌, ℤ, pos, negsuc, nat_abs, ◌<ℤ◌, FitsSigned, w64, ◌∷◌, length, length-append, ap, ◌∙◌, arith, decimal}
use Rattle.std.proofs.lemmas.Fmt.{length-decimal-le}
use Rattle.sb_amount.specs.Money.{money, unsigned_money, two_digits}
use Rattle.sb_amount.proofs.Money.{money-negative}

-- the whole part, and three bytes more
pub length-unsigned_money : (n : ℕ) → length (unsigned_money n) ≡ length (decimal (n / 100)) + 3
length-unsigned_money n = length-append (decimal (n / 100)) (46 ∷ two_digits (n % 100))

-- below 0 a sign comes first
pub length-money-negative : (v : ℤ) → v <ℤ pos 0 → length (money v) ≡ length (unsigned_money (nat_abs v)) + 1
length-money-negative v below = ap length (money-negative v below) ∙ omega arith

pub length-unsigned-le : (v : ℤ) → length (unsigned_money (nat_abs v)) ≤ length (money v)
unfolding money
length-unsigned-le (pos n) = omega arith
length-unsigned-le (negsuc n) = omega arith

-- money text of an `i64` takes at most 21 bytes
pub length-money-le : (v : ℤ) → FitsSigned w64 v → length (money v) ≤ 21
unfolding money
length-money-le (pos n) fits =
    let small = fits.sfits in
    omega (arith, length-unsigned_money n, length-decimal-le 17 (n / 100) (omega arith) (omega arith) (omega arith))
length-money-le (negsuc n) fits =
    let small = fits.sfits in
    omega (arith, length-unsigned_money (suc n), length-decimal-le 17 (suc n / 100) (omega arith) (omega arith) (omega arith))

-- Money text: how a number of cents is spelled.
use Rattle.std.specs.Prelude.{ℕ, suc, ◌+◌, ◌/◌, ◌%◌, ℤ, pos, negsuc, List, [], ◌∷◌, ◌++◌, decimal}

-- the two digits of a number below 100
abbrev pub two_digits : ℕ → List ℕ
two_digits n = (48 + n / 10) ∷ (48 + n % 10) ∷ []

-- cents without a sign: the whole part in decimal, a point, two digits
abbrev pub unsigned_money : ℕ → List ℕ
unsigned_money n = decimal (n / 100) ++ (46 ∷ two_digits (n % 100))

-- the money text of v: `-` if v is below 0, then the digits of its size
unfoldable pub money : ℤ → List ℕ
money (pos n) = unsigned_money n
money (negsuc n) = 45 ∷ unsigned_money (suc n)

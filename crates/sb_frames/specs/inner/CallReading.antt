-- The kinds of calls, by what they have.
use Rattle.std.specs.Prelude.{◌≡◌, ℕ, ◌⊎◌}

-- a kind of call with a name and an amount
abbrev pub HasNameAndAmount : ℕ → Type 0
HasNameAndAmount kind = (kind ≡ 2) ⊎ (kind ≡ 3) ⊎ (kind ≡ 5)

-- a kind of call with two names
abbrev pub HasTwoNames : ℕ → Type 0
HasTwoNames kind = (kind ≡ 4) ⊎ (kind ≡ 6)

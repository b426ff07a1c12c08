-- Text that waits to be printed.
use Rattle.std.specs.Prelude.{◌≡◌, ◌==◌, ◌++◌, ◌∷◌, [], ℕ, List, if◌then◌else◌, codes, decimal, nat_eq, true, false}
use Rattle.std.specs.List.{list_any, starts_with}

-- one whole line, which begins with `session` and a space
abbrev pub IsSessionLine : List ℕ → Type 0
IsSessionLine text =
    (line : List ℕ) × (text ≡ line ++ (10 ∷ [])) × (list_any (λ byte. byte == 10) line ≡ false)
    × (starts_with nat_eq line (codes "session ") ≡ true)

-- `unprinted lines:`, and how many lines were dropped
abbrev pub drop_line : ℕ → List ℕ
drop_line dropped = codes "unprinted lines: " ++ decimal dropped ++ (10 ∷ [])

-- the line that tells how many lines were dropped, if some were
abbrev pub drop_note : ℕ → List ℕ
drop_note dropped = if dropped == 0 then [] else drop_line dropped

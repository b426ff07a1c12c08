-- An opening text, with nothing after it.
use Rattle.std.specs.Prelude.{◌≡◌, ℕ, ◌+◌, Result, Ok, Err, List, [], ◌∷◌, length, drop}
use Rattle.sb_rows.specs.Opening.{OpeningText, opening_of, ◌>>=◌}
use Rattle.sb_rows.specs.declared.fault.LineFault.TheVariants.{BadLine}
use Rattle.sb_rows.specs.declared.opening.Opening.{Opening as AnyOpening}
use Rattle.bank_server.specs.Input.{in_opening}
use Rattle.bank_server.specs.declared.fault.InputFault.{InputFault}
use Rattle.bank_server.specs.declared.fault.InputFault.TheVariants.{Opening}

-- the opening if nothing is left; otherwise the line after `begin` is at fault
abbrev pub with_nothing_behind : OpeningText → List ℕ → Result OpeningText (ℕ × InputFault)
with_nothing_behind opening [] = Ok opening
with_nothing_behind opening (byte ∷ rest) = Err (length opening.names + 2, Opening BadLine)

-- the opening that a text spells, if nothing follows it, or else the first line at fault with its
-- fault
abbrev pub whole_opening_of : List ℕ → Result OpeningText (ℕ × InputFault)
whole_opening_of text =
    in_opening (opening_of text) >>= λ opening. with_nothing_behind opening (drop opening.consumed text)

-- the text was read as this opening
abbrev pub IsOpeningOf : Result OpeningText (ℕ × InputFault) → AnyOpening → Type 0
IsOpeningOf read opening =
    read ≡ Ok (record { names = opening.directory; balances = opening.columns; consumed = opening.consumed })

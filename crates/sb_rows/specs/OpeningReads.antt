-- The result of reading an opening, compared with what the text says.
use Rattle.std.specs.Prelude.{◌≡◌, ℕ, Result, Ok, Err}
use Rattle.sb_rows.specs.Opening.{OpeningText}
use Rattle.sb_rows.specs.declared.fault.LineFault.{LineFault}
use Rattle.sb_rows.specs.declared.fault.OpeningFault.{OpeningFault}
use Rattle.sb_rows.specs.declared.fault.OpeningFault.TheVariants.{Line, OutOfMemory}
use Rattle.sb_rows.specs.declared.opening.Opening.{Opening}

-- the result is the opening that the text says, or its first fault; memory may be refused instead
abbrev pub Reads : Result Opening OpeningFault → Result OpeningText (ℕ × LineFault) → Type 0
Reads (Ok o) read = read ≡ Ok (record { names = o.directory; balances = o.columns; consumed = o.consumed })
Reads (Err (Line line fault)) read = read ≡ Err (line, fault)
Reads (Err OutOfMemory) read = Unit {0}

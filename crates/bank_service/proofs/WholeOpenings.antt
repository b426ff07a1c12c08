-- An opening text with nothing after it, or its fault.
use Rattle.std.proofs.Common.{◌≡◌, ℕ, ◌+◌, ◌≤◌, ◌<◌, Result, Ok, Err, List, [], ◌∷◌, length, drop, refl, ap, ◌∙◌, arith, length-drop}
use Rattle.std.proofs.Math.ListN.{drop_of_length-le}
use Rattle.sb_rows.specs.Opening.{OpeningText, opening_of, ◌>>=◌}
use Rattle.sb_rows.specs.OpeningReads.{Reads}
use Rattle.sb_rows.specs.declared.fault.LineFault.{LineFault}
use Rattle.sb_rows.specs.declared.fault.LineFault.TheVariants.{BadLine}
use Rattle.sb_rows.specs.declared.fault.OpeningFault.{OpeningFault}
use Rattle.sb_rows.specs.declared.fault.OpeningFault.TheVariants.{Line, OutOfMemory}
use Rattle.bank_server.specs.Faults.{IsTextFaultOf}
use Rattle.bank_server.specs.Input.{in_opening}
use Rattle.bank_server.specs.inner.RunFaults.{run_of_opening_fault}
use Rattle.bank_server.specs.declared.fault.InputFault.TheVariants.{Opening}
use Rattle.bank_service.specs.Opening.{with_nothing_behind, whole_opening_of}

-- what follows the opening that was read decides
pub whole_is : (text : List ℕ) (read : Result OpeningText (ℕ × LineFault)) → opening_of text ≡ read
    → whole_opening_of text ≡ (in_opening read >>= λ opening. with_nothing_behind opening (drop opening.consumed text))
whole_is text read is = ap (λ found. in_opening found >>= λ opening. with_nothing_behind opening (drop opening.consumed text)) is

-- nothing follows
pub whole_if_all : (text : List ℕ) (opening : OpeningText) → opening_of text ≡ Ok opening → length text ≤ opening.consumed
    → whole_opening_of text ≡ Ok opening
whole_if_all text opening is all = whole_is text (Ok opening) is ∙ ap (with_nothing_behind opening) (drop_of_length-le text all)

-- something does
pub fault_if_more : (text : List ℕ) (opening : OpeningText) → opening_of text ≡ Ok opening → opening.consumed < length text
    → whole_opening_of text ≡ Err (length opening.names + 2, Opening BadLine)
fault_if_more text opening is more = whole_is text (Ok opening) is ∙ by (drop opening.consumed text) (omega (arith, more, length-drop opening.consumed text))
  where
    by : (rest : List ℕ) → 0 < length rest → with_nothing_behind opening rest ≡ Err (length opening.names + 2, Opening BadLine)
    by [] some = absurd (omega (arith, some))
    by (byte ∷ rest) some = refl

-- the opening's own fault is the first
pub fault_of_opening : (text : List ℕ) (fault : OpeningFault) → Reads (Err fault) (opening_of text)
    → IsTextFaultOf (run_of_opening_fault fault) (whole_opening_of text)
fault_of_opening text (Line line fault) is = whole_is text (Err (line, fault)) is
fault_of_opening text OutOfMemory is = tt

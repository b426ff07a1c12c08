-- The line at fault of an opening is at most the one after its text's last line.
use Rattle.std.proofs.Common.{◌≡◌, ℕ, suc, ◌+◌, ◌≤◌, ◌==◌, Bool, true, false, if◌then◌else◌, Result, Ok, Err, List, [], ◌∷◌, ◌++◌, length, codes, bytes_eq, ap, arith, length-append}
use Rattle.std.specs.List.{slice_split}
use Rattle.std.proofs.lemmas.List.Splits.{length-slice_split}
use Rattle.std.proofs.lemmas.List.Sums.{count_by-le-length}
use Rattle.sb_rows.specs.Customer.{Customer}
use Rattle.sb_rows.specs.Opening.{◌>>=◌, at_line, customers_from, customer_of, opening_of}
use Rattle.sb_rows.specs.Text.{lines, words, is_line_feed, without_empty_last}
use Rattle.sb_rows.specs.declared.fault.LineFault.{LineFault}
use Rattle.sb_rows.specs.declared.fault.LineFault.TheVariants.{NoBegin}
use Rattle.sb_rows.proofs.OpeningSteps.{with_consumed}

-- ---- a text has no more lines than bytes, and one

last_piece : (piece : List ℕ) (empty : Bool) → length (if empty then [] else piece ∷ []) ≤ 1
last_piece piece true = omega arith
last_piece piece false = omega arith

fewer_lines : (pieces : List (List ℕ)) → length (without_empty_last pieces) ≤ length pieces
fewer_lines [] = omega arith
fewer_lines (piece ∷ []) = last_piece piece (length piece == 0)
fewer_lines (piece ∷ next ∷ pieces) = omega (arith, fewer_lines (next ∷ pieces))

lines_of_bytes : (text : List ℕ) → length (lines text) ≤ length text + 1
unfolding lines
lines_of_bytes text =
    omega (arith, fewer_lines (slice_split is_line_feed text), length-slice_split is_line_feed text, count_by-le-length is_line_feed text)

-- ---- the line at fault

-- what reading the next line gives, by its tests
abbrev next_line : List Customer → List (List ℕ) → Bool → Result Customer LineFault → Result (List Customer) (ℕ × LineFault)
next_line before ls begins customer =
    if begins then Ok before
    else (at_line (length before + 1) customer >>= λ c. customers_from (before ++ c ∷ []) ls)

-- equal faults are at the same line
same_line : (n number : ℕ) (f fault : LineFault) → ◌≡◌ {A = Result (List Customer) (ℕ × LineFault)} (Err (n, f)) (Err (number, fault)) → n ≡ number
same_line n number f fault e =
    let same : ◌≡◌ {A = ℕ × LineFault} (n, f) (number, fault) = cc in
    ap (λ (p : ℕ × LineFault). p.0) same

one_line : (before : List Customer) (ls : List (List ℕ)) (number : ℕ) (fault : LineFault) (begins : Bool) (customer : Result Customer LineFault)
    → ((c : Customer) → customers_from (before ++ c ∷ []) ls ≡ Err (number, fault) → number ≤ length (before ++ c ∷ []) + length ls + 1)
    → next_line before ls begins customer ≡ Err (number, fault) → number ≤ length before + suc (length ls) + 1
one_line before ls number fault true customer later e = absurd cc
one_line before ls number fault false (Ok c) later e = omega (arith, later c e, length-append before (c ∷ []))
one_line before ls number fault false (Err f) later e =
    omega (arith, same_line (length before + 1) number f fault e)

stops_within : (ls : List (List ℕ)) (before : List Customer) (number : ℕ) (fault : LineFault) → customers_from before ls ≡ Err (number, fault)
    → number ≤ length before + length ls + 1
unfolding customers_from
stops_within [] before number fault e =
    omega (arith, same_line (length before + 1) number NoBegin fault e)
stops_within (line ∷ ls) before number fault e =
    one_line before ls number fault (bytes_eq line (codes "begin")) (customer_of before (words line))
    (λ c later. stops_within ls (before ++ c ∷ []) number fault later) e

-- an opening at fault has the fault in its customers
in_customers : (text : List ℕ) (read : Result (List Customer) (ℕ × LineFault)) (number : ℕ) (fault : LineFault)
    → read >>= with_consumed text ≡ Err (number, fault) → read ≡ Err (number, fault)
in_customers text (Ok customers) number fault e = absurd cc
in_customers text (Err f) number fault e = cc

pub fault_within : (text : List ℕ) (number : ℕ) (fault : LineFault) → opening_of text ≡ Err (number, fault) → number ≤ length text + 2
fault_within text number fault e =
    let stops = stops_within (lines text) [] number fault (in_customers text (customers_from [] (lines text)) number fault e) in
    omega (arith, stops, lines_of_bytes text)

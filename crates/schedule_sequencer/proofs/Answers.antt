-- The answers that are kept of a log, of which the last calls have none.
use Rattle.std.proofs.Common.{◌≡◌, ℕ, zero, suc, ◌+◌, ◌≤◌, Bool, true, false, not, cond, nat_lt, Option, Some, None, List, [], ◌∷◌, ◌++◌, length, replicate, slice_get, refl, sym, ap, ◌∙◌, arith}
use Rattle.std.specs.List.{position, position_or_len}
use Rattle.std.specs.Option.{option_and_then, option_flatten}
use Rattle.std.proofs.lemmas.Bool.{ltb-false}
use Rattle.std.proofs.lemmas.List.{length-append, length-replicate}
use Rattle.std.proofs.lemmas.Option.{slice_get_past}
use Rattle.sb_calls.specs.declared.reply.Reply.{Reply}

none_kept : (count index : ℕ) → option_flatten {T = Reply} (slice_get (replicate count None) index) ≡ None
none_kept zero index = refl
none_kept (suc count) zero = refl
none_kept (suc count) (suc index) = none_kept count index

-- further calls without an answer add none
none_added : (kept : List (Option Reply)) (count index : ℕ)
    → option_flatten (slice_get (kept ++ replicate count None) index) ≡ option_flatten (slice_get kept index)
none_added [] count index = none_kept count index
none_added (answer ∷ kept) count zero = refl
none_added (answer ∷ kept) count (suc index) = none_added kept count index

-- an element that passes before the end of the front does so whatever follows
found_in_front : {A : Type 0} (test : A → Bool) (front back : List A) (kept : List (Option Reply)) → length kept ≡ length front
    → slice_get kept (position_or_len test (front ++ back)) ≡ slice_get kept (position_or_len test front)
found_in_front test [] back [] e = refl
found_in_front test [] back (answer ∷ kept) e = absurd (omega (arith, e))
found_in_front test (x ∷ front) back [] e = absurd (omega (arith, e))
found_in_front test (x ∷ front) back (answer ∷ kept) e = by (not (test x)) (found_in_front test front back kept (omega (arith, e)))
  where
    next : (index : ℕ) → slice_get (answer ∷ kept) (1 + index) ≡ slice_get kept index
    next index =
        let more : 1 + index ≡ suc index = omega arith in
        ap (slice_get (answer ∷ kept)) more

    by : (further : Bool) → slice_get kept (position_or_len test (front ++ back)) ≡ slice_get kept (position_or_len test front)
        → slice_get (answer ∷ kept) (cond further (1 + position_or_len test (front ++ back)) 0)
        ≡ slice_get (answer ∷ kept) (cond further (1 + position_or_len test front) 0)
    by true rest = next (position_or_len test (front ++ back)) ∙ rest ∙ sym (next (position_or_len test front))
    by false rest = refl

-- what is kept at an index, if it is within
kept_within : (kept : List (Option Reply)) (index size : ℕ) → length kept ≤ size
    → option_and_then (λ at. option_flatten (slice_get kept at)) (cond (nat_lt index size) (Some index) None) ≡ option_flatten (slice_get kept index)
kept_within kept index size few = by (nat_lt index size) refl
  where
    by : (within : Bool) → nat_lt index size ≡ within
        → option_and_then (λ at. option_flatten (slice_get kept at)) (cond within (Some index) None) ≡ option_flatten (slice_get kept index)
    by true e = refl
    by false e =
        let past : size ≤ index = ltb-false index size e in
        sym (ap option_flatten (slice_get_past kept index (omega (arith, past, few))))

-- so the answer that is found for a test is the one of the calls in front
pub answer-append : {A : Type 0} (test : A → Bool) (front back : List A) (kept : List (Option Reply)) (count : ℕ) → length kept ≡ length front
    → count ≡ length back
    → option_and_then (λ index. option_flatten (slice_get (kept ++ replicate count None) index)) (position test (front ++ back))
    ≡ option_and_then (λ index. option_flatten (slice_get kept index)) (position test front)
answer-append test front back kept count same rest =
    let whole : List (Option Reply) = kept ++ replicate count None in
    let many : length whole ≡ length (front ++ back) =
    length-append kept (replicate count None) ∙ (λ j. same j + (length-replicate {A = Option Reply} count None ∙ rest) j) ∙ sym (length-append front back) in
    kept_within whole (position_or_len test (front ++ back)) (length (front ++ back)) (omega (arith, many))
    ∙ none_added kept count (position_or_len test (front ++ back))
    ∙ ap option_flatten (found_in_front test front back kept same)
    ∙ sym (kept_within kept (position_or_len test front) (length front) (omega (arith, same)))

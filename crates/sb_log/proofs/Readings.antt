-- What is read of a beginning of a log.
use Rattle.std.proofs.Common.{◌≡◌, ◌≢◌, ℕ, ◌+◌, ◌≤◌, List, [], ◌∷◌, ◌++◌, length, zero, suc, take, drop, refl, sym, ap, subst, ◌∙◌, arith, append_assoc, length-append, inl, inr}
use Rattle.std.specs.List.{All}
use Rattle.std.proofs.lemmas.Bool.{cases_lt}
use Rattle.std.proofs.lemmas.List.{append-nil, nil_from_length, take-append-drop, take-append-le, take_at}
use Rattle.std.proofs.lemmas.List.Elements.{All-head, All-tail}
use Rattle.sb_log.specs.Reading.{Begins, IsTorn}
use Rattle.sb_log.specs.Records.{IsBody, body_bytes, record_after, records_after, size_field}
use Rattle.sb_log.proofs.Records.{first_eight, length-record, one_record}

-- no whole record stands at the front of these bytes
abbrev pub NoRecord : List ℕ → List ℕ → Type 0
NoRecord before rest = (body more : List ℕ) → IsBody body → rest ≢ record_after before body ++ more

no_shorter : (before a x y : List ℕ) → record_after before a ++ x ++ y ≡ [] → ⊥
no_shorter before a x y e =
    omega (arith, length-record before a, ap length e, length-append (record_after before a ++ x) y, length-append (record_after before a) x)

-- what is read is a beginning of what was given, and the rest with what is missing are the records behind
pub read_begins : (before : List ℕ) (read given : List (List ℕ)) (more : List ℕ) → All IsBody read → All IsBody given
    → records_after before read ++ more ≡ records_after before given
    → (behind : List (List ℕ)) × (given ≡ read ++ behind) × (more ≡ records_after (before ++ body_bytes read) behind) × All IsBody behind
read_begins before [] given more fit_read fit_given e =
    (given, refl, e ∙ ap (λ (l : List ℕ). records_after l given) (sym (append-nil before)), fit_given)
read_begins before (a ∷ read) [] more fit_read fit_given e =
    absurd (no_shorter before a (records_after (before ++ a) read) more e)
read_begins before (a ∷ read) (b ∷ given) more fit_read fit_given e =
    let fits_a = All-head IsBody a read fit_read in
    let fits_b = All-head IsBody b given fit_given in
    let tied : record_after before a ++ (records_after (before ++ a) read ++ more) ≡ record_after before b ++ records_after (before ++ b) given =
    sym (append_assoc (record_after before a) (records_after (before ++ a) read) more) ∙ e in
    let same = one_record before a b (records_after (before ++ a) read ++ more) (records_after (before ++ b) given) fits_a fits_b tied in
    let begins = read_begins (before ++ a) read given more (All-tail IsBody a read fit_read) (All-tail IsBody b given fit_given)
    (same.1 ∙ ap (λ (l : List ℕ). records_after (before ++ l) given) (sym same.0)) in (
      begins.0,
      ap (λ (c : List ℕ). c ∷ given) (sym same.0) ∙ ap (λ (l : List (List ℕ)). a ∷ l) begins.1,
      begins.2 ∙ ap (λ (l : List ℕ). records_after l begins.0) (append_assoc before a (body_bytes read)),
      begins.3,
    )

-- what was told is a beginning of what is read
pub told_begins : (before : List ℕ) (told read : List (List ℕ)) (rest more : List ℕ) → All IsBody told → All IsBody read
    → NoRecord (before ++ body_bytes read) rest → records_after before told ++ more ≡ records_after before read ++ rest → Begins told read
told_begins before [] read rest more fit_told fit_read none e = (read, refl)
told_begins before (a ∷ told) [] rest more fit_told fit_read none e =
    absurd (none a (records_after (before ++ a) told ++ more) (All-head IsBody a told fit_told)
    (sym e ∙ append_assoc (record_after before a) (records_after (before ++ a) told) more
    ∙ ap (λ (l : List ℕ). record_after l a ++ (records_after (before ++ a) told ++ more)) (sym (append-nil before))))
told_begins before (a ∷ told) (b ∷ read) rest more fit_told fit_read none e =
    let fits_a = All-head IsBody a told fit_told in
    let fits_b = All-head IsBody b read fit_read in
    let tied : record_after before a ++ (records_after (before ++ a) told ++ more) ≡ record_after before b ++ (records_after (before ++ b) read ++ rest) =
    sym (append_assoc (record_after before a) (records_after (before ++ a) told) more) ∙ e
    ∙ append_assoc (record_after before b) (records_after (before ++ b) read) rest in
    let same = one_record before a b (records_after (before ++ a) told ++ more) (records_after (before ++ b) read ++ rest) fits_a fits_b tied in
    let begins = told_begins (before ++ a) told read rest more (All-tail IsBody a told fit_told) (All-tail IsBody b read fit_read)
    (subst (λ (l : List ℕ). NoRecord l rest) (sym (append_assoc before b (body_bytes read)) ∙ ap (λ (l : List ℕ). (before ++ l) ++ body_bytes read)
    (sym same.0)) none)
    (same.1 ∙ ap (λ (l : List ℕ). records_after (before ++ l) read ++ rest) (sym same.0)) in
    (begins.0, ap (λ (c : List ℕ). c ∷ read) (sym same.0) ∙ ap (λ (l : List (List ℕ)). a ∷ l) begins.1)

pub nothing_is_torn : IsTorn []
nothing_is_torn = inl (0, omega arith, (size_field 0, refl), omega arith)

-- the front of a list begins the front of a longer one
pub front_begins : (n : ℕ) (xs ys : List ℕ) → Begins (take n xs) (take n (xs ++ ys))
front_begins zero xs ys = ([], refl)
front_begins (suc n) [] ys = (take (suc n) ys, refl)
front_begins (suc n) (x ∷ xs) ys =
    let rest = front_begins n xs ys in
    (rest.0, ap (λ (l : List ℕ). x ∷ l) rest.1)

-- a rest without a whole record, of which something is missing
pub rest_is_torn : (before rest missing : List ℕ) (given : List (List ℕ)) → All IsBody given → NoRecord before rest
    → rest ++ missing ≡ records_after before given → IsTorn rest
rest_is_torn before rest missing [] fit none e =
    subst IsTorn (sym (nil_from_length rest (omega (arith, ap length e, length-append rest missing)))) nothing_is_torn
rest_is_torn before rest missing (b ∷ given) fit none e =
    let fits = All-head IsBody b given fit in
    let record_bytes = record_after before b in
    let behind = records_after (before ++ b) given in
    let begins = front_begins 8 rest missing in
    let field : size_field (length b) ≡ take 8 rest ++ begins.0 =
    sym (first_eight before b behind) ∙ ap (λ (l : List ℕ). take 8 l) (sym e) ∙ begins.1 in
    elim (cases_lt (length rest) (40 + length b)) [
      | inl lt ↦ inl (length b, fits, (begins.0, field), lt)
      | inr le ↦
          let n = length record_bytes in
          let long : n ≤ length rest = omega (arith, le, length-record before b) in
          let front : take n rest ≡ record_bytes =
          sym (take-append-le n rest missing long) ∙ ap (λ (l : List ℕ). take n l) e ∙ take_at record_bytes behind n refl in
          absurd (none b (drop n rest) fits (sym (take-append-drop n rest) ∙ ap (λ (l : List ℕ). l ++ drop n rest) front))
    ]

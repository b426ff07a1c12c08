-- Reading and writing a cown as reading and writing a column.
use Rattle.std.proofs.Common.{◌≡◌, ◌*◌, ℕ, zero, suc, ℤ, pos, List, [], ◌∷◌, length, get_or, refl, ap, ◌∙◌, arith}
use Rattle.std.specs.Prelude.{slice_set}
use Rattle.std.proofs.lemmas.List.{set-get_or}
use Rattle.sb_rows.specs.Balances.{Balances}
use Rattle.sb_calls.proofs.CustomerRows.{with_savings, with_checking}
use Rattle.sb_calls.specs.Cowns.{savings_cown, checking_cown, by_cown, contents_of, read_cowns, write_cowns}

-- the next customer's savings cown is two further
two_further : (place : ℕ) → savings_cown (suc place) ≡ suc (suc (savings_cown place))
two_further place = omega arith

-- the checking cown is one further
one_further : (place : ℕ) → checking_cown place ≡ suc (savings_cown place)
one_further place = omega arith

-- ---- reading

get_or-by_cown_savings : (savings checking : List ℤ) (place : ℕ) → length savings ≡ length checking
    → get_or (by_cown savings checking) (savings_cown place) (pos 0) ≡ get_or savings place (pos 0)
get_or-by_cown_savings [] checking place e = refl
get_or-by_cown_savings (s ∷ savings) [] place e = absurd (omega arith)
get_or-by_cown_savings (s ∷ savings) (c ∷ checking) zero e = refl
get_or-by_cown_savings (s ∷ savings) (c ∷ checking) (suc place) e = rw two_further (get_or-by_cown_savings savings checking place (omega arith))

get_or-by_cown_checking : (savings checking : List ℤ) (place : ℕ) → length savings ≡ length checking
    → get_or (by_cown savings checking) (suc (savings_cown place)) (pos 0) ≡ get_or checking place (pos 0)
get_or-by_cown_checking [] [] place e = refl
get_or-by_cown_checking [] (c ∷ checking) place e = absurd (omega arith)
get_or-by_cown_checking (s ∷ savings) [] place e = absurd (omega arith)
get_or-by_cown_checking (s ∷ savings) (c ∷ checking) zero e = refl
get_or-by_cown_checking (s ∷ savings) (c ∷ checking) (suc place) e = rw two_further (get_or-by_cown_checking savings checking place (omega arith))

-- what a savings cown contains
pub contents_at_savings : (b : Balances) (place : ℕ) → length b.savings ≡ length b.checking
    → get_or (contents_of b) (savings_cown place) (pos 0) ≡ get_or b.savings place (pos 0)
unfolding contents_of
contents_at_savings b place e = get_or-by_cown_savings b.savings b.checking place e

-- and what a checking cown contains
pub contents_at_checking : (b : Balances) (place : ℕ) → length b.savings ≡ length b.checking
    → get_or (contents_of b) (checking_cown place) (pos 0) ≡ get_or b.checking place (pos 0)
unfolding contents_of
contents_at_checking b place e = rw one_further (get_or-by_cown_checking b.savings b.checking place e)

-- ---- writing

set-by_cown_savings : (savings checking : List ℤ) (place : ℕ) (v : ℤ)
    → by_cown (slice_set savings place v) checking ≡ slice_set (by_cown savings checking) (savings_cown place) v
set-by_cown_savings [] checking place v = refl
set-by_cown_savings (s ∷ savings) [] zero v = refl
set-by_cown_savings (s ∷ savings) [] (suc place) v = refl
set-by_cown_savings (s ∷ savings) (c ∷ checking) zero v = refl
set-by_cown_savings (s ∷ savings) (c ∷ checking) (suc place) v =
    rw two_further (ap (λ (rest : List ℤ). s ∷ c ∷ rest) (set-by_cown_savings savings checking place v))

set-by_cown_checking : (savings checking : List ℤ) (place : ℕ) (v : ℤ)
    → by_cown savings (slice_set checking place v) ≡ slice_set (by_cown savings checking) (suc (savings_cown place)) v
set-by_cown_checking [] checking place v = refl
set-by_cown_checking (s ∷ savings) [] place v = refl
set-by_cown_checking (s ∷ savings) (c ∷ checking) zero v = refl
set-by_cown_checking (s ∷ savings) (c ∷ checking) (suc place) v =
    rw two_further (ap (λ (rest : List ℤ). s ∷ c ∷ rest) (set-by_cown_checking savings checking place v))

-- savings written at a place are written to their cown
pub contents_of-with_savings : (b : Balances) (place : ℕ) (v : ℤ) → contents_of (with_savings b place v) ≡ slice_set (contents_of b) (savings_cown place) v
unfolding contents_of
contents_of-with_savings b place v = set-by_cown_savings b.savings b.checking place v

-- and so is a checking balance
pub contents_of-with_checking : (b : Balances) (place : ℕ) (v : ℤ) → contents_of (with_checking b place v) ≡ slice_set (contents_of b) (checking_cown place) v
unfolding contents_of
contents_of-with_checking b place v = rw one_further (set-by_cown_checking b.savings b.checking place v)

-- writing back what was read changes nothing
pub write-read : (contents : List ℤ) (cowns : List ℕ) → write_cowns contents cowns (read_cowns contents cowns) ≡ contents
write-read contents [] = refl
write-read contents (cown ∷ cowns) = rw (set-get_or contents cown (pos 0)) (write-read contents cowns)

length-by_cown : (savings checking : List ℤ) → length savings ≡ length checking → length (by_cown savings checking) ≡ 2 * length savings
length-by_cown [] checking e = refl
length-by_cown (s ∷ savings) [] e = absurd (omega arith)
length-by_cown (s ∷ savings) (c ∷ checking) e = let rest = length-by_cown savings checking (omega (arith, e)) in omega (arith, rest)

-- there are two cowns for each customer
pub length-contents_of : (b : Balances) → length b.savings ≡ length b.checking → length (contents_of b) ≡ 2 * length b.savings
unfolding contents_of
length-contents_of b e = length-by_cown b.savings b.checking e

pub ruleset two_cowns_a_customer = (length-contents_of)

-- ---- both ways

by_cown-injective : (s c t d : List ℤ) → length s ≡ length c → length t ≡ length d → by_cown s c ≡ by_cown t d → (s ≡ t) × (c ≡ d)
by_cown-injective [] [] [] [] long beside e = (refl, refl)
by_cown-injective [] [] [] (w ∷ d) long beside e = absurd (omega (arith, beside))
by_cown-injective [] [] (z ∷ t) [] long beside e = absurd (omega (arith, beside))
by_cown-injective [] [] (z ∷ t) (w ∷ d) long beside e = absurd cc
by_cown-injective [] (y ∷ c) t d long beside e = absurd (omega (arith, long))
by_cown-injective (x ∷ s) [] t d long beside e = absurd (omega (arith, long))
by_cown-injective (x ∷ s) (y ∷ c) [] [] long beside e = absurd cc
by_cown-injective (x ∷ s) (y ∷ c) [] (w ∷ d) long beside e = absurd (omega (arith, beside))
by_cown-injective (x ∷ s) (y ∷ c) (z ∷ t) [] long beside e = absurd (omega (arith, beside))
by_cown-injective (x ∷ s) (y ∷ c) (z ∷ t) (w ∷ d) long beside e =
    let rest : by_cown s c ≡ by_cown t d = cc in
    let both = by_cown-injective s c t d (omega (arith, long)) (omega (arith, beside)) rest in
    let savings : s ≡ t = both.0 in
    let checking : c ≡ d = both.1 in
    (cc, cc)

-- balances whose cowns contain the same are the same
pub contents_of-injective : (a b : Balances) → length a.savings ≡ length a.checking
    → length b.savings ≡ length b.checking → contents_of a ≡ contents_of b → a ≡ b
unfolding contents_of
contents_of-injective a b a_same b_same e =
    let both = by_cown-injective a.savings a.checking b.savings b.checking a_same b_same e in
    ap (λ (xs : List ℤ). record { savings = xs; checking = a.checking }) both.0 ∙ ap (λ (xs : List ℤ). record { savings = b.savings; checking = xs }) both.1

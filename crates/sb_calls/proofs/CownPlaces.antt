-- A cown's id and the place of its customer.
use Rattle.std.proofs.Common.{◌≡◌, ℕ, ◌*◌, ◌+◌, ◌/◌, ◌%◌, ◌<◌, ◌^◌, ℤ, pos, length, get_or, sym, ap, ◌∙◌, arith}
use Rattle.std.specs.Prelude.{Some, slice_get, slice_set}
use Rattle.std.proofs.lemmas.Option.{get_or_from_slice_get}
use Rattle.sb_rows.specs.Balances.{Balances, IsBalances}
use Rattle.sb_calls.proofs.CownColumns.{contents_at_savings, contents_at_checking, contents_of-with_savings, contents_of-with_checking, length-contents_of}
use Rattle.sb_calls.specs.Cowns.{contents_of}

even_cown : (cown : ℕ) → cown % 2 ≡ 0 → cown ≡ 2 * (cown / 2)
even_cown cown even = omega (arith, even)

odd_cown : (cown : ℕ) → (cown % 2 ≡ 0 → ⊥) → cown ≡ 2 * (cown / 2) + 1
odd_cown cown odd = omega (arith, odd)

pub place_in_range : (b : Balances) (cown id : ℕ) → IsBalances b → id ≡ cown → cown < length (contents_of b) → id / 2 < length b.savings
place_in_range b cown id valid same lt = omega (arith, same, lt, length-contents_of b valid.same)

pub place_fits : (b : Balances) (cown id : ℕ) → IsBalances b → id ≡ cown → cown < length (contents_of b) → id / 2 < 2 ^ 32
place_fits b cown id valid same lt = omega (arith, same, lt, length-contents_of b valid.same, valid.limit)

pub read_savings : (b : Balances) (cown id : ℕ) (v : ℤ) → IsBalances b → id ≡ cown → id % 2 ≡ 0 → slice_get b.savings (id / 2) ≡ Some v
    → v ≡ get_or (contents_of b) cown (pos 0)
read_savings b cown id v valid same even here =
    let at : cown ≡ 2 * (id / 2) = omega (arith, same, even_cown id even) in
    sym (get_or_from_slice_get b.savings (id / 2) v (pos 0) here) ∙ sym (contents_at_savings b (id / 2) valid.same)
    ∙ ap (λ c. get_or (contents_of b) c (pos 0)) (sym at)

pub read_checking : (b : Balances) (cown id : ℕ) (v : ℤ) → IsBalances b → id ≡ cown → (id % 2 ≡ 0 → ⊥) → slice_get b.checking (id / 2) ≡ Some v
    → v ≡ get_or (contents_of b) cown (pos 0)
read_checking b cown id v valid same odd here =
    let at : cown ≡ 2 * (id / 2) + 1 = omega (arith, same, odd_cown id odd) in
    sym (get_or_from_slice_get b.checking (id / 2) v (pos 0) here) ∙ sym (contents_at_checking b (id / 2) valid.same)
    ∙ ap (λ c. get_or (contents_of b) c (pos 0)) (sym at)

pub write_savings : (b : Balances) (cown id : ℕ) (v : ℤ) → id ≡ cown → id % 2 ≡ 0
    → contents_of (record b { savings = slice_set b.savings (id / 2) v }) ≡ slice_set (contents_of b) cown v
write_savings b cown id v same even =
    let at : 2 * (id / 2) ≡ cown = omega (arith, same, even_cown id even) in
    contents_of-with_savings b (id / 2) v ∙ ap (λ c. slice_set (contents_of b) c v) at

pub write_checking : (b : Balances) (cown id : ℕ) (v : ℤ) → id ≡ cown → (id % 2 ≡ 0 → ⊥)
    → contents_of (record b { checking = slice_set b.checking (id / 2) v }) ≡ slice_set (contents_of b) cown v
write_checking b cown id v same odd =
    let at : 2 * (id / 2) + 1 ≡ cown = omega (arith, same, odd_cown id odd) in
    contents_of-with_checking b (id / 2) v ∙ ap (λ c. slice_set (contents_of b) c v) at

-- what reading a cown takes, and what writing it takes
pub ruleset reading_a_cown = (place_in_range, place_fits, read_savings, read_checking)

pub ruleset writing_a_cown = (place_in_range, place_fits, write_savings, write_checking)

-- Counts in lanes that wrap.
use Rattle.std.proofs.Common.{◌≡◌, ℕ, ◌+◌, ◌*◌, ◌/◌, ◌^◌, ◌%◌, ◌<◌, ℤ, int_lt, cond, List, [], ◌∷◌, ◌++◌, length, take, replicate, refl, sym, ap, ◌∙◌, arith, pos, drop, get_or, true, false, to_z, of_z, w64, FitsSigned}
use Rattle.std.proofs.lemmas.List.{length-take, get_or-drop}
use Rattle.std.proofs.lemmas.List.Sums.{count_by-le-length, count_by_more_yes, count_by_more_no, sum_by-append, sum_by-cons}
use Rattle.std.proofs.lemmas.Int.{to_z-of_z}
use Rattle.std.proofs.lemmas.List.Elements.{All-get_or}
use Rattle.std.specs.List.{All}
use Rattle.std.proofs.lemmas.Nat.{mod_below}
use Rattle.std.proofs.lemmas.Simd.{length-zip2}
use Rattle.std.specs.Simd.{first_chunks}
use Rattle.lane_audit.specs.Columns.{count_below}
use Rattle.lane_audit.proofs.Chunks.{joined, joined-first_chunks}
use lib.Lanes.{zip2, fold_l, sum_l}
use native.Mathlib.Nat.{mod-add-mod, add-mod-mod, mod-eq_of_lt}

-- 1 if the value is below low, else 0
abbrev pub one_below : ℤ → ℤ → ℕ
one_below low value = cond (int_lt value low) 1 0

-- the lanes of a vector of counts after a block is counted
abbrev pub counted : ℤ → List ℕ → List ℤ → List ℕ
counted low counts xs = zip2 (λ count value. (count + one_below low value) % 2 ^ 64) counts xs

sum-counted : (low : ℤ) (counts : List ℕ) (xs : List ℤ) → length counts ≡ length xs
    → sum_l (counted low counts xs) % 2 ^ 64 ≡ (sum_l counts + count_below xs low) % 2 ^ 64
sum-counted low [] [] long = refl
sum-counted low [] (x ∷ xs) long = absurd (omega (arith, long))
sum-counted low (n ∷ ns) [] long = absurd (omega (arith, long))
sum-counted low (n ∷ ns) (x ∷ xs) long =
    let rest = sum_l (counted low ns xs) in
    mod-add-mod (n + one_below low x) (2 ^ 64) rest ∙ sym (add-mod-mod (n + one_below low x) rest (2 ^ 64))
    ∙ ap (λ m. (n + one_below low x + m) % 2 ^ 64) (sum-counted low ns xs (omega (arith, long)))
    ∙ add-mod-mod (n + one_below low x) (sum_l ns + count_below xs low) (2 ^ 64)
    ∙ ap (λ m. m % 2 ^ 64) (omega (arith, sum_by-cons (one_below low) x xs))

-- the lanes' counts after some blocks: their sum, which wraps, is the number of the blocks' values
-- below low
pub record CountsAre (low : ℤ) (counts : List ℕ) (front : List ℤ) : Type 0 where
  pub lanes : length counts ≡ 8
  pub same : sum_l counts % 2 ^ 64 ≡ count_below front low % 2 ^ 64

pub CountsAre_none : (low : ℤ) → CountsAre low (replicate 8 0) []
CountsAre_none low = record { lanes = refl; same = refl }

pub CountsAre_more : (low : ℤ) (counts : List ℕ) (front block : List ℤ) → length block ≡ 8 → CountsAre low counts front
    → CountsAre low (counted low counts block) (front ++ block)
CountsAre_more low counts front block long h =
    let level : length counts ≡ length block = h.lanes ∙ sym long in
    record {
      lanes = length-zip2 (λ count value. (count + one_below low value) % 2 ^ 64) counts block level ∙ h.lanes;
      same = sum-counted low counts block level ∙ sym (mod-add-mod (sum_l counts) (2 ^ 64) (count_below block low))
          ∙ ap (λ m. (m + count_below block low) % 2 ^ 64) h.same ∙ mod-add-mod (count_below front low) (2 ^ 64) (count_below block low)
          ∙ ap (λ m. m % 2 ^ 64) (sym (sum_by-append (one_below low) front block));
    }

-- the sum of all lanes, from some number on
reduced : (m : ℕ) (ns : List ℕ) → m < 2 ^ 64 → fold_l (λ a b. (a + b) % 2 ^ 64) m ns ≡ (m + sum_l ns) % 2 ^ 64
reduced m [] small = omega (arith, small)
reduced m (n ∷ ns) small =
    reduced ((m + n) % 2 ^ 64) ns (mod_below (m + n) (2 ^ 64) (omega arith)) ∙ mod-add-mod (m + n) (2 ^ 64) (sum_l ns) ∙ ap (λ k. k % 2 ^ 64) (omega arith)

pub reduce_sum_is : (low : ℤ) (counts : List ℕ) (front : List ℤ) → CountsAre low counts front
    → fold_l (λ a b. (a + b) % 2 ^ 64) 0 counts ≡ count_below front low % 2 ^ 64
reduce_sum_is low counts front h = reduced 0 counts (omega arith) ∙ ap (λ m. m % 2 ^ 64) (omega arith) ∙ h.same

-- the count of the whole blocks of a column
pub front_count : (values : List ℤ) (low : ℤ) (blocks : List (List ℤ)) (count : ℕ) → length values < 2 ^ 64
    → blocks ≡ first_chunks 8 (length values / 8) values → count ≡ count_below (joined blocks) low % 2 ^ 64
    → count ≡ count_below (take (length values / 8 * 8 + 0) values) low
front_count values low blocks count few are is =
    let front = length values / 8 * 8 in
    let small : count_below (take front values) low < 2 ^ 64 =
    omega (arith, few, count_by-le-length (λ value. int_lt value low) (take front values), length-take front values) in
    is ∙ ap (λ bs. count_below (joined bs) low % 2 ^ 64) are ∙ ap (λ xs. count_below xs low % 2 ^ 64) (joined-first_chunks 8 (length values / 8) values)
    ∙ mod-eq_of_lt small ∙ ap (λ n. count_below (take n values) low) (omega arith)

-- a value that is read from the rest of a column is the one at its place
below_as_read : (values : List ℤ) (low : ℤ) (front i : ℕ) → All (FitsSigned w64) values → front + i < length values
    → int_lt (to_z w64 (of_z w64 (get_or (drop front values) i (pos 0)))) low ≡ int_lt (get_or values (front + i) (pos 0)) low
below_as_read values low front i fit inside =
    let value = to_z-of_z w64 (get_or values (front + i) (pos 0)) (All-get_or (FitsSigned w64) values (front + i) (pos 0) inside fit) in
    rw (get_or-drop front values i (pos 0), value) refl

-- it counts if it is below low, and else it doesn't
pub count_more_below : (values : List ℤ) (low : ℤ) (front i : ℕ) → All (FitsSigned w64) values → front + i < length values
    → int_lt (to_z w64 (of_z w64 (get_or (drop front values) i (pos 0)))) low ≡ true
    → count_below (take (front + (i + 1)) values) low ≡ count_below (take (front + i) values) low + 1
count_more_below values low front i fit inside below =
    ap (λ n. count_below (take n values) low) (omega arith)
    ∙ count_by_more_yes (λ value. int_lt value low) values (front + i) (pos 0) inside (sym (below_as_read values low front i fit inside) ∙ below)

pub count_more_other : (values : List ℤ) (low : ℤ) (front i : ℕ) → All (FitsSigned w64) values → front + i < length values
    → int_lt (to_z w64 (of_z w64 (get_or (drop front values) i (pos 0)))) low ≡ false
    → count_below (take (front + (i + 1)) values) low ≡ count_below (take (front + i) values) low
count_more_other values low front i fit inside other =
    ap (λ n. count_below (take n values) low) (omega arith)
    ∙ count_by_more_no (λ value. int_lt value low) values (front + i) (pos 0) inside (sym (below_as_read values low front i fit inside) ∙ other)

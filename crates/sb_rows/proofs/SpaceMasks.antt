-- The mask of a line's spaces: the masks of its parts, and how large it is.
use Rattle.std.proofs.Common.{◌≡◌, ℕ, suc, ◌+◌, ◌*◌, ◌/◌, ◌^◌, ◌<◌, ◌≤◌, Bool, List, [], ◌∷◌, ◌++◌, map, length, take, drop, sym, ap, ◌∙◌, arith, pow-suc, mul_assoc, take-append-drop, length-take-le}
use Rattle.std.proofs.Math.Pow.{pow_mono}
use Rattle.std.proofs.lemmas.List.{length-map, map-append}
use Rattle.std.proofs.lemmas.Nat.{div-mul-add}
use Rattle.std.proofs.lemmas.Simd.{mask_l-lt}
use lib.Lanes.{mask_l}
use Rattle.sb_rows.specs.Text.{is_space}
use Rattle.sb_rows.specs.inner.Spaces.{spaces_of}

-- the mask of two pieces
mask_l-append : (bs cs : List Bool) → mask_l (bs ++ cs) ≡ mask_l cs * 2 ^ length bs + mask_l bs
mask_l-append [] cs = omega arith
mask_l-append (b ∷ bs) cs =
    let next : mask_l cs * 2 ^ suc (length bs) ≡ mask_l cs * 2 ^ length bs * 2 =
    ap (λ n. mask_l cs * n) (pow-suc 2 (length bs)) ∙ sym (mul_assoc (mask_l cs) (2 ^ length bs) 2) in
    omega (arith, next, mask_l-append bs cs)

-- a mask has no more bits than its line has bytes
pub spaces_below : (n : ℕ) (line : List ℕ) → length line ≤ n → spaces_of line < 2 ^ n
spaces_below n line few =
    omega (arith, mask_l-lt (map is_space line), pow_mono {i = length (map is_space line)} {j = n} (omega (arith, length-map line is_space)))

-- the mask of a line that is split at n
pub spaces_parted : (n : ℕ) (line : List ℕ) → n ≤ length line → spaces_of line ≡ spaces_of (drop n line) * 2 ^ n + spaces_of (take n line)
spaces_parted n line within =
    let front = map is_space (take n line) in
    let sizes : length front ≡ n = length-map (take n line) is_space ∙ length-take-le n line within in
    ap spaces_of (sym (take-append-drop n line)) ∙ ap mask_l (map-append is_space (take n line) (drop n line))
    ∙ mask_l-append front (map is_space (drop n line)) ∙ ap (λ k. spaces_of (drop n line) * 2 ^ k + spaces_of (take n line)) sizes

-- the mask of the line from n on
pub spaces_behind : (n : ℕ) (line : List ℕ) → n ≤ length line → spaces_of line / 2 ^ n ≡ spaces_of (drop n line)
spaces_behind n line within =
    ap (λ m. m / 2 ^ n) (spaces_parted n line within)
    ∙ div-mul-add (spaces_of (drop n line)) (2 ^ n) (spaces_of (take n line)) (spaces_below n (take n line) (omega (arith, length-take-le n line within)))

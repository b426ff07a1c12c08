-- What the mask of a line's spaces says about its first word.
use Rattle.std.proofs.Common.{◌≡◌, ℕ, suc, ◌+◌, ◌*◌, ◌/◌, ◌^◌, ◌<◌, Bool, true, false, not, cond, List, [], ◌∷◌, length, take, drop, sym, ap, ◌∙◌, arith, length-drop, drop-drop}
use Rattle.std.proofs.lemmas.Simd.{leading_from_mask_l, trailing_mask_l}
use Rattle.std.specs.Int.{w64, trailing_zeros}
use Rattle.std.specs.List.{position_or_len}
use Rattle.sb_rows.proofs.SpaceMasks.{spaces_behind}
use Rattle.sb_rows.proofs.SplitAtFirstByte.{words-at, words-one}
use Rattle.sb_rows.specs.Text.{words, is_space}
use Rattle.sb_rows.specs.inner.Spaces.{spaces_of, AreSpacesOf}

-- if a bit is set, the line has a space
set_in : (b : Bool) (cs : List ℕ) → (0 < spaces_of cs → position_or_len is_space cs < length cs)
    → 0 < cond b 1 0 + 2 * spaces_of cs → cond (not b) (1 + position_or_len is_space cs) 0 < suc (length cs)
set_in true cs rest some = omega arith
set_in false cs rest some = omega (arith, rest (omega (arith, some)))

set_within : (line : List ℕ) → 0 < spaces_of line → position_or_len is_space line < length line
set_within [] some = absurd (omega (arith, some))
set_within (c ∷ cs) some = set_in (is_space c) cs (set_within cs) some

-- without a bit the line is one word
pub one_word : (line : List ℕ) (mask : ℕ) → AreSpacesOf line mask → mask ≡ 0 → words line ≡ line ∷ []
one_word line mask h none = words-one line (leading_from_mask_l is_space line (sym h.mask_is ∙ none))

-- the lowest bit ends the first word
pub record FirstWord (line : List ℕ) (mask end : ℕ) : Type 0 where
  pub inside : end < length line
  pub parted : words line ≡ take end line ∷ words (drop (end + 1) line)
  pub left : AreSpacesOf (drop (end + 1) line) (mask / 2 ^ end / 2)

pub first_word : (line : List ℕ) (mask : ℕ) → AreSpacesOf line mask → 0 < mask → FirstWord line mask (trailing_zeros w64 mask)
first_word line mask h some =
    let end = trailing_zeros w64 mask in
    let set : 0 < spaces_of line = omega (arith, some, h.mask_is) in
    let place : position_or_len is_space line ≡ end =
    sym (trailing_mask_l is_space 64 line h.short set) ∙ ap (trailing_zeros w64) (sym h.mask_is) in
    let within : end < length line = omega (arith, place, set_within line set) in
    let behind : spaces_of line / 2 ^ end / 2 ≡ spaces_of (drop (end + 1) line) =
    ap (λ m. m / 2) (spaces_behind end line (omega (arith, within)))
    ∙ spaces_behind 1 (drop end line) (omega (arith, within, length-drop end line)) ∙ ap spaces_of (drop-drop 1 end line) in
    record {
      inside = within;
      parted = words-at line end within place;
      left = record {
        short = omega (arith, h.short, length-drop (end + 1) line);
        mask_is = ap (λ m. m / 2 ^ end / 2) h.mask_is ∙ behind;
      };
    }

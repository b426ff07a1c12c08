-- Where a line has spaces, as the bits of a number.
use Rattle.std.specs.Prelude.{◌≡◌, ℕ, ◌≤◌, List, Option, IfSome, length, map}
use Rattle.std.specs.Simd.Lanes.{mask_l}
use Rattle.sb_rows.specs.Text.{is_space}
use Rattle.sb_rows.specs.declared.spaces.TheConstants.{MASK_BYTES}

-- a number whose bit k is set exactly if byte k of the line is a space
abbrev pub spaces_of : List ℕ → ℕ
spaces_of line = mask_l (map is_space line)

-- the line is short enough for a mask, and this is its mask
pub record AreSpacesOf (line : List ℕ) (mask : ℕ) : Type 0 where
  pub short : length line ≤ MASK_BYTES
  pub mask_is : mask ≡ spaces_of line

-- if there are a line and a mask, this is the line's mask
abbrev pub AreSpacesOfRest : Option (List ℕ) → Option ℕ → Type 0
AreSpacesOfRest line mask = IfSome line (λ bytes. IfSome mask (λ bits. AreSpacesOf bytes bits))

-- How a name is stored in an array: its text, and zeros after it.
use Rattle.std.specs.Prelude.{◌≡◌, ℕ, ◌-◌, ◌≤◌, IsTrue, List, [], ◌∷◌, ◌++◌, length, take, drop, replicate}
use Rattle.std.specs.Cmp.Lexicographic.{bytes_decides}
use Rattle.std.specs.Str.{bytes_eq}
use Rattle.std.proofs.Common.{sym, ap, ◌∙◌, arith, length-take-le, take-append-drop}
use Rattle.sb_rows.specs.declared.name.TheConstants.{NAME_BYTES}
use Rattle.sb_rows.specs.Name.{IsName}

-- the array has a name of this length and then zeros, and the byte behind the array is 0 too
pub record IsPaddedName (array : List ℕ) (size pad : ℕ) : Type 0 where
  pub capacity : length array ≡ NAME_BYTES
  pub within : size ≤ NAME_BYTES
  pub valid : IsName (take size array)
  pub zeros : drop size array ≡ replicate (NAME_BYTES - size) 0
  pub empty : pad ≡ 0

-- the array, the length and the byte behind of a stored name, from its text
pub padded_from_text : (array : List ℕ) (size pad : ℕ) → IsPaddedName array size pad
    → (take size array ++ replicate (NAME_BYTES - length (take size array)) 0 ≡ array)
    × (length (take size array) ≡ size)
    × (0 ≡ pad)
padded_from_text array size pad h =
    let same : length (take size array) ≡ size = length-take-le size array (omega (arith, h.capacity, h.within)) in (
      ap (λ n. take size array ++ replicate (NAME_BYTES - n) 0) same
          ∙ ap (λ rest. take size array ++ rest) (sym h.zeros) ∙ take-append-drop size array,
      same,
      sym h.empty,
    )

-- equal names have equal hashes
pub same_hash_input : (x y : List ℕ) → IsTrue (bytes_eq x y) → x ∷ [] ≡ y ∷ []
same_hash_input x y h = ap (λ name. name ∷ []) ((bytes_decides x y).0 h)

-- How a name is stored, and what a valid name is.
use Rattle.std.proofs.Common.{◌≡◌, ℕ, ◌-◌, ◌≤◌, ◌&&◌, List, ◌++◌, length, drop, replicate, ◌∙◌, arith, leb-true, nat_le, length-append, length-drop, refl}
use Rattle.std.specs.List.{list_all}
use Rattle.std.proofs.lemmas.Bool.{and_parts}
use Rattle.std.proofs.lemmas.List.{drop-replicate, length-replicate}
use Rattle.std.proofs.Math.Seq.{take-append_seam, drop-append_seam}
use Rattle.sb_rows.specs.Name.{IsName, is_name_byte}
use Rattle.sb_rows.specs.inner.PaddedName.{IsPaddedName}
use Rattle.sb_rows.specs.declared.name.TheConstants.{NAME_BYTES}

-- a name fits its cells
pub name_fits : (text : List ℕ) → IsName text → length text ≤ NAME_BYTES
name_fits text h =
    let sizes = (and_parts (nat_le 1 (length text) && nat_le (length text) NAME_BYTES) (list_all is_name_byte text) h).0 in
    leb-true (length text) NAME_BYTES (and_parts (nat_le 1 (length text)) (nat_le (length text) NAME_BYTES) sizes).1

-- a name copied over the front of empty cells is stored
pub name_is_padded : (text : List ℕ) → IsName text → IsPaddedName (text ++ drop (length text) (replicate NAME_BYTES 0)) (length text) 0
name_is_padded text h =
    let fits = name_fits text h in
    let rest : drop {A = ℕ} (length text) (replicate NAME_BYTES 0) ≡ replicate (NAME_BYTES - length text) 0 = drop-replicate (length text) NAME_BYTES 0 in
    record {
      capacity = omega (
        arith,
        length-append text (drop (length text) (replicate NAME_BYTES 0)),
        length-drop {A = ℕ} (length text) (replicate NAME_BYTES 0),
        length-replicate {A = ℕ} NAME_BYTES 0,
      );
      within = fits;
      valid = rw take-append_seam h;
      zeros = drop-append_seam text (drop (length text) (replicate NAME_BYTES 0)) ∙ rest;
      empty = refl;
    }

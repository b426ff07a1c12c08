-- Valid names.
use Rattle.std.specs.Prelude.{ℕ, nat_le, ◌==◌, Bool, ◌&&◌, ◌||◌, IsTrue, List, length}
use Rattle.std.specs.List.{list_all}
use Rattle.sb_rows.specs.declared.name.TheConstants.{NAME_BYTES}

-- the byte is `a` to `z`, `0` to `9` or `_`
abbrev pub is_name_byte : ℕ → Bool
is_name_byte c = (nat_le 97 c && nat_le c 122) || (nat_le 48 c && nat_le c 57) || (c == 95)

-- the text is 1 to 20 name bytes
abbrev pub is_name : List ℕ → Bool
is_name text = nat_le 1 (length text) && nat_le (length text) NAME_BYTES && list_all is_name_byte text

-- the text is a name
abbrev pub IsName : List ℕ → Type 0
IsName text = IsTrue (is_name text)

-- What is told of a line at fault.
use Rattle.std.specs.Prelude.{ℕ, Bool, false, ◌&&◌, ◌||◌, ◌==◌, nat_eq, nat_le, if◌then◌else◌, Option, Some, None, List, [], ◌∷◌, ◌++◌, length, take, decimal, codes}
use Rattle.std.specs.List.{ends_with, flat_map, list_any, starts_with}
use Rattle.hex.specs.Hex.{encode_lower}
use Rattle.bank_program.specs.declared.line_notes.Oddity.{Oddity}
use Rattle.bank_program.specs.declared.line_notes.Oddity.TheVariants.{ByteOrderMark, CarriageReturn, Empty, SpaceAtEnd, Tab, TwoSpaces}

-- somewhere in the line a space follows a space
unfoldable pub has_two_spaces : List ℕ → Bool
has_two_spaces [] = false
has_two_spaces (c ∷ line) = (c == 32 && starts_with nat_eq line (32 ∷ [])) || has_two_spaces line

-- what the line has that its words wouldn't show: the first of these
abbrev pub oddity_of : List ℕ → Option Oddity
oddity_of line =
    if ends_with nat_eq line (13 ∷ []) then Some CarriageReturn
    else if starts_with nat_eq line (239 ∷ 187 ∷ 191 ∷ []) then Some ByteOrderMark
    else if list_any (λ c. c == 9) line then Some Tab
    else if ends_with nat_eq line (32 ∷ []) then Some SpaceAtEnd
    else if has_two_spaces line then Some TwoSpaces
    else if length line == 0 then Some Empty
    else None

abbrev pub oddity_words : Oddity → List ℕ
oddity_words CarriageReturn = codes " ends with a carriage return"
oddity_words ByteOrderMark = codes " begins with a byte order mark"
oddity_words Tab = codes " has a tab"
oddity_words SpaceAtEnd = codes " ends with a space"
oddity_words TwoSpaces = codes " has two spaces in a row"
oddity_words Empty = codes " is empty"

-- a byte as itself if it is printable ASCII, else as `\x` and two digits
abbrev pub shown_byte : ℕ → List ℕ
shown_byte c = if nat_le 32 c && nat_le c 126 then c ∷ [] else codes "\\x" ++ encode_lower (c ∷ [])

-- what is odd of the line, or its first 80 bytes
abbrev pub words_of_line : List ℕ → Option Oddity → List ℕ
words_of_line line (Some oddity) = oddity_words oddity
words_of_line line None = codes " is: " ++ flat_map shown_byte (take 80 line)

-- `smallbank: line`, its number, and that
abbrev pub line_note : ℕ → List ℕ → List ℕ
line_note number line = codes "smallbank: line " ++ decimal number ++ words_of_line line (oddity_of line)

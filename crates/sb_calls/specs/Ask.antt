-- How asking lines are spelled, and how a line is read.
use Rattle.std.specs.Prelude.{ℕ, zero, suc, ◌≤◌, ◌<◌, ◌^◌, nat_lt, ◌&&◌, if◌then◌else◌, Option, Some, None, Result, Ok, Err, List, [], ◌∷◌, ◌++◌, decimal, codes}
use Rattle.std.specs.Char.{is_ascii_digit}
use Rattle.std.specs.List.{list_all}
use Rattle.std.specs.Str.{bytes_eq}
use Rattle.std.specs.Str.Parse.{digits_value}
use Rattle.sb_amount.specs.Reading.{is_canonical}
use Rattle.sb_rows.specs.Text.{words}
use Rattle.sb_calls.specs.Call.{IsCall, call_line, call_of_words}
use Rattle.sb_calls.specs.declared.ask.AskLine.{AskLine}
use Rattle.sb_calls.specs.declared.ask.Key.{Key}
use Rattle.sb_calls.specs.declared.call.Call.{Call}
use Rattle.sb_calls.specs.declared.text.fault.CallFault.{CallFault}
use Rattle.sb_calls.specs.declared.text.fault.CallFault.TheVariants.{WrongWords, BadNumber}

-- ---- how it is spelled

-- `ask CLIENT REQUEST ` before the call, if there is a key
abbrev pub key_text : Option Key → List ℕ
key_text None = []
key_text (Some key) = codes "ask " ++ (decimal key.client ++ (32 ∷ (decimal key.request ++ 32 ∷ [])))

-- the spelling of an asking line
abbrev pub ask_line : AskLine → List ℕ
ask_line asked = key_text asked.key ++ call_line asked.call

-- the client's number is at least 1, and both numbers are below 2^32
abbrev pub IsKey : Option Key → Type 0
IsKey None = Unit {0}
IsKey (Some key) = (1 ≤ key.client) × (key.client < 2 ^ 32) × (key.request < 2 ^ 32)

-- the key is one that a client may send, and the call has a spelling
abbrev pub IsAskLine : AskLine → Type 0
IsAskLine asked = IsKey asked.key × IsCall asked.call

-- ---- what it is read as

-- the number that a text spells: below 2^32, in decimal, without leading zeros
unfoldable pub read_number : List ℕ → Option ℕ
read_number text =
    if list_all is_ascii_digit text && is_canonical text && nat_lt (digits_value 10 text) (2 ^ 32)
    then Some (digits_value 10 text) else None

-- the key with these numbers; a client is never 0
abbrev pub key_of : Option ℕ → Option ℕ → Option Key
key_of None request = None
key_of (Some zero) request = None
key_of (Some (suc n)) None = None
key_of (Some (suc n)) (Some request) = Some (record { client = suc n; request = request })

-- the call under this key, if there is one
abbrev pub under_key : Option Key → Result Call CallFault → Result AskLine CallFault
under_key key (Ok call) = Ok (record { key = key; call = call })
under_key key (Err fault) = Err fault

-- the call that these words spell, under a key that was read
abbrev pub with_key : Option Key → List (List ℕ) → Result AskLine CallFault
with_key None rest = Err BadNumber
with_key (Some key) rest = under_key (Some key) (call_of_words rest)

-- the words after `ask`
abbrev pub keyed_ask : List (List ℕ) → Result AskLine CallFault
keyed_ask [] = Err WrongWords
keyed_ask (client ∷ []) = Err WrongWords
keyed_ask (client ∷ request ∷ rest) = with_key (key_of (read_number client) (read_number request)) rest

abbrev pub ask_line_of_words : List (List ℕ) → Result AskLine CallFault
ask_line_of_words [] = under_key None (call_of_words [])
ask_line_of_words (verb ∷ rest) =
    if bytes_eq verb (codes "ask") then keyed_ask rest else under_key None (call_of_words (verb ∷ rest))

-- what an asking line asks, or its first fault
unfoldable pub ask_line_of : List ℕ → Result AskLine CallFault
ask_line_of line = ask_line_of_words (words line)

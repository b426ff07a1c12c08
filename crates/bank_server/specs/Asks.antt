-- The keys of asking lines.
use Rattle.std.specs.Prelude.{ℕ, ◌+◌, Option, Some, None, List, [], ◌∷◌}
use Rattle.sb_calls.specs.declared.ask.AskLine.{AskLine}
use Rattle.sb_calls.specs.declared.ask.Key.{Key}
use Rattle.sb_calls.specs.declared.call.Call.{Call}

-- the key of a line; a line without one gets client 0, and its running number among such lines
abbrev pub key_of_line : ℕ → Option Key → Key
key_of_line running None = record { client = 0; request = running }
key_of_line running (Some key) = key

-- the running number of the next line without a key
abbrev pub running_after : ℕ → Option Key → ℕ
running_after running None = running + 1
running_after running (Some key) = running

-- the asks with their keys, if the next line without a key has this running number
abbrev pub asks_with_keys_from : ℕ → List AskLine → List (Key × Call)
asks_with_keys_from running [] = []
asks_with_keys_from running (asked ∷ asks) =
    (key_of_line running asked.key, asked.call) ∷ asks_with_keys_from (running_after running asked.key) asks

-- the asks with their keys, in order
abbrev pub asks_with_keys : List AskLine → List (Key × Call)
asks_with_keys asks = asks_with_keys_from 1 asks

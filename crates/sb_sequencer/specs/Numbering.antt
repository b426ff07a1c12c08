-- The numbering: the first ask of each key, in order.
use Rattle.std.specs.Prelude.{◌≢◌, ℕ, zero, suc, ◌≤◌, ◌+◌, ◌==◌, Bool, ◌&&◌, if◌then◌else◌, Option, None, List, [], ◌∷◌, ◌++◌, length, map, take, slice_get, position}
use Rattle.std.specs.List.{list_any, AllPairs}
use Rattle.std.specs.Option.{option_map}
use Rattle.sb_calls.specs.declared.ask.Key.{Key}
use Rattle.sb_calls.specs.declared.call.Call.{Call}
use Rattle.sb_calls.specs.declared.call.TheConstants.{LOG_CALLS}

abbrev pub same_key : Key → Key → Bool
same_key a b = (a.client == b.client) && (a.request == b.request)

-- one of these asks has the key
abbrev pub has_key : List (Key × Call) → Key → Bool
has_key asks key = list_any (λ ask. same_key key ask.0) asks

-- those of these asks whose key doesn't occur earlier, either here or in the asks before them
abbrev pub firsts_after : List (Key × Call) → List (Key × Call) → List (Key × Call)
firsts_after before [] = []
firsts_after before (ask ∷ asks) =
    if has_key before ask.0 then firsts_after (before ++ ask ∷ []) asks
    else ask ∷ firsts_after (before ++ ask ∷ []) asks

-- the log: the first ask of each key, in order, at most 1,000,000 of them
unfoldable pub first_asks : List (Key × Call) → List (Key × Call)
first_asks asks = take LOG_CALLS (firsts_after [] asks)

-- the index of a key in a log, from 0
abbrev pub index_of_key : List (Key × Call) → Key → Option ℕ
index_of_key log key = position (λ entry. same_key key entry.0) log

-- the number of a key in a log, from 1
abbrev pub number_of_key : List (Key × Call) → Key → Option ℕ
number_of_key log key = option_map (λ index. index + 1) (index_of_key log key)

-- the calls of a log, in order
abbrev pub calls_of : List (Key × Call) → List Call
calls_of log = map (λ entry. entry.1) log

-- the call with a number, counted from 1
abbrev pub call_of_number : List (Key × Call) → ℕ → Option Call
call_of_number log zero = None
call_of_number log (suc k) = option_map (λ entry. entry.1) (slice_get log k)

-- the key and the call with a number, counted from 1
abbrev pub ask_of_number : List (Key × Call) → ℕ → Option (Key × Call)
ask_of_number log zero = None
ask_of_number log (suc k) = slice_get log k

-- a log is valid: its keys are all different, and it has at most as many calls as a log takes
pub record IsLog (log : List (Key × Call)) : Type 0 where
  pub limit : length log ≤ LOG_CALLS
  pub different : AllPairs (λ a b. a.0 ≢ b.0) log

-- A log as its keys and its calls, side by side.
use Rattle.std.proofs.Common.{◌≡◌, ℕ, ◌<◌, false, ◌||◌, Option, Some, None, is_some, List, [], ◌∷◌, ◌++◌, length, map, slice_get, refl, sym, ap, ◌∙◌, arith, rules}
use Rattle.std.specs.List.{list_any, zip}
use Rattle.std.specs.Map.{keys_of}
use Rattle.std.specs.Option.{option_map}
use Rattle.std.proofs.lemmas.Bool.{cond-false}
use Rattle.std.proofs.lemmas.Option.{same_Some, slice_get-map, slice_get_within}
use Rattle.std.proofs.lemmas.Map.Made.{keys_of-zip}
use Rattle.std.proofs.lemmas.List.{length-map}
use Rattle.std.proofs.lemmas.Slice.Zip.{length-zip, seconds-zip}
use Rattle.indexmap.specs.IndexSet.{insert_key}
use Rattle.sb_calls.specs.declared.ask.Key.{Key}
use Rattle.sb_calls.specs.declared.call.Call.{Call}
use Rattle.sb_sequencer.specs.Numbering.{same_key, has_key, index_of_key}
use Rattle.sb_sequencer.proofs.Keys.{has_key-place}

-- what the two columns of a log say of it
pub record Columns (keys : List Key) (calls : List Call) (log : List (Key × Call)) : Type 0 where
  pub keys_count : length keys ≡ length log
  pub calls_count : length calls ≡ length log
  pub keys_are : keys_of log ≡ keys
  pub calls_are : map (λ entry. entry.1) log ≡ calls

pub columns : (keys : List Key) (calls : List Call) (log : List (Key × Call)) → zip keys calls ≡ log → length calls ≡ length keys → Columns keys calls log
columns keys calls log is even = record {
  keys_count = omega (arith, ap length is, length-zip keys calls, even);
  calls_count = omega (arith, ap length is, length-zip keys calls, even);
  keys_are = ap keys_of (sym is) ∙ keys_of-zip keys calls even;
  calls_are = ap (map (λ entry. entry.1)) (sym is) ∙ seconds-zip keys calls even;
}

-- a key is among the keys where one of the entries has it
among_keys : (log : List (Key × Call)) (key : Key) → list_any (same_key key) (keys_of log) ≡ has_key log key
among_keys [] key = refl
among_keys (first ∷ log) key = ap (λ rest. same_key key first.0 || rest) (among_keys log key)

-- so a set puts a key without a place last
pub insert_key-last : (keys : List Key) (log : List (Key × Call)) (key : Key) → keys_of log ≡ keys → index_of_key log key ≡ None
    → insert_key same_key keys key ≡ keys ++ key ∷ []
insert_key-last keys log key is new =
    let absent : list_any (same_key key) keys ≡ false =
    ap (list_any (same_key key)) (sym is) ∙ among_keys log key ∙ has_key-place log key ∙ ap is_some new in
    cond-false (list_any (same_key key) keys) keys (keys ++ key ∷ []) absent

-- one more in each column is one more entry
pub zip-push : (keys : List Key) (calls : List Call) (key : Key) (call : Call) → length calls ≡ length keys
    → zip (keys ++ key ∷ []) (calls ++ call ∷ []) ≡ zip keys calls ++ (key, call) ∷ []
zip-push [] [] key call even = refl
zip-push [] (other ∷ calls) key call even = absurd (omega (arith, even))
zip-push (first ∷ keys) [] key call even = absurd (omega (arith, even))
zip-push (first ∷ keys) (other ∷ calls) key call even = ap (λ rest. (first, other) ∷ rest) (zip-push keys calls key call (omega (arith, even)))

-- an entry, by what is at its place in each column
pub none_at : (entry : Option (Key × Call)) → None ≡ option_map (λ entry. entry.1) entry → None ≡ entry
none_at None e = refl
none_at (Some entry) e = absurd (search (rules, e))

pub some_at : (entry : Option (Key × Call)) (key : Key) (call : Call) → Some key ≡ option_map (λ entry. entry.0) entry
    → Some call ≡ option_map (λ entry. entry.1) entry → Some (key, call) ≡ entry
some_at None key call k c = absurd (search (rules, k))
some_at (Some entry) key call k c =
    let keys : key ≡ entry.0 = same_Some key entry.0 k in
    let calls : call ≡ entry.1 = same_Some call entry.1 c in
    λ i. Some (keys i, calls i)

-- there is a key where there is a call
pub key_within : (log : List (Key × Call)) (index : ℕ) (call : Call) → Some call ≡ option_map (λ entry. entry.1) (slice_get log index) → index < length log
key_within log index call e =
    let within = slice_get_within (map (λ (entry : Key × Call). entry.1) log) index call (slice_get-map (λ (entry : Key × Call). entry.1) log index ∙ sym e) in
    omega (arith, within, length-map log (λ (entry : Key × Call). entry.1))

-- The entries of a log, one by one.
use Rattle.std.proofs.Common.{◌≡◌, ℕ, zero, suc, ◌+◌, ◌-◌, ◌<◌, ◌≤◌, ◌⊎◌, inl, inr, Option, Some, None, List, [], ◌∷◌, ◌++◌, length, take, drop, slice_get, get_or, refl, sym, ap, ◌∙◌, arith}
use Rattle.std.specs.Option.{option_map}
use Rattle.std.proofs.lemmas.List.{get_or-drop, take_all}
use Rattle.std.proofs.lemmas.Option.{get_or_from_slice_get, slice_get_within}
use Rattle.std.proofs.Math.Seq.{take-suc}
use Rattle.std.proofs.Math.ListN.{length-drop}
use Rattle.sb_calls.specs.declared.ask.Key.{Key}
use Rattle.sb_calls.specs.declared.call.Call.{Call}
use Rattle.sb_frames.specs.declared.frame.Frame.{Frame}
use Rattle.sb_frames.specs.declared.frame.Frame.TheVariants.{Entry}
use Rattle.sb_sequencer.specs.Entries.{entry_of, entries_from, entries, entries_after}

-- one for each ask
length-entries_from : (n : ℕ) (log : List (Key × Call)) → length (entries_from n log) ≡ length log
length-entries_from n [] = refl
length-entries_from n (ask ∷ log) = ap (λ k. suc k) (length-entries_from (suc n) log)

-- each with its number
entries_from-at : (n k : ℕ) (log : List (Key × Call)) (frame : Frame) → option_map (λ ask. Entry (k + n) ask.1) (slice_get log k) ≡ Some frame
    → slice_get (entries_from n log) k ≡ Some frame
entries_from-at n k [] frame e = e
entries_from-at n zero (ask ∷ log) frame e =
    let number : n ≡ 0 + n = omega arith in
    ap (λ m. Some (Entry m ask.1)) number ∙ e
entries_from-at n (suc k) (ask ∷ log) frame e =
    let number : k + suc n ≡ suc k + n = omega arith in
    entries_from-at (suc n) k log frame (ap (λ m. option_map (λ other. Entry m other.1) (slice_get log k)) number ∙ e)

entry_of-fused : (n : ℕ) (found : Option (Key × Call)) → option_map (Entry n) (option_map (λ ask. ask.1) found) ≡ option_map (λ ask. Entry n ask.1) found
entry_of-fused n None = refl
entry_of-fused n (Some ask) = refl

entries-at : (log : List (Key × Call)) (before : ℕ) (frame : Frame) → entry_of log (suc before) ≡ Some frame → slice_get (entries log) before ≡ Some frame
entries-at log before frame e =
    let number : before + 1 ≡ suc before = omega arith in
    entries_from-at 1 before log frame
    (ap (λ n. option_map (λ ask. Entry n ask.1) (slice_get log before)) number ∙ sym (entry_of-fused (suc before) (slice_get log before)) ∙ e)

-- one more entry of those after some
pub take_entries-push : (log : List (Key × Call)) (size before : ℕ) (frame : Frame) → size ≤ before → entry_of log (before + 1) ≡ Some frame
    → take (before + 1 - size) (drop size (entries log)) ≡ take (before - size) (drop size (entries log)) ++ frame ∷ []
take_entries-push log size before frame l e =
    let rest = drop size (entries log) in
    let done = before - size in
    let next : suc before ≡ before + 1 = omega arith in
    let at : slice_get (entries log) before ≡ Some frame = entries-at log before frame (ap (entry_of log) next ∙ e) in
    let within : before < length (entries log) = slice_get_within (entries log) before frame at in
    let left : done < length rest = omega (arith, l, within, length-drop size (entries log)) in
    let more : before + 1 - size ≡ suc done = omega (arith, l) in
    let there : size + done ≡ before = omega (arith, l) in
    let last : get_or rest done frame ≡ frame =
    get_or-drop size (entries log) done frame ∙ ap (λ k. get_or (entries log) k frame) there ∙ get_or_from_slice_get (entries log) before frame frame at in
    ap (λ n. take n rest) more ∙ take-suc rest done frame left ∙ ap (λ x. take done rest ++ x ∷ []) last

-- as many as there are, at most 16
pub take_entries-all : (log : List (Key × Call)) (size before : ℕ) → before ≤ size + 16 → before ≤ length log
    → (size + 16 ≤ before) ⊎ (length log ≤ before) → take (before - size) (drop size (entries log)) ≡ entries_after log size
unfolding entries_after
take_entries-all log size before l m (inl full) =
    let sixteen : before - size ≡ 16 = omega (arith, l, full) in
    ap (λ n. take n (drop size (entries log))) sixteen
take_entries-all log size before l m (inr all) =
    let rest = drop size (entries log) in
    let count : length rest ≡ length log - size = length-drop size (entries log) ∙ ap (λ n. n - size) (length-entries_from 1 log) in
    take_all (before - size) rest (omega (arith, count, all)) ∙ sym (take_all 16 rest (omega (arith, count, l, m, all)))

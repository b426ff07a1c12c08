-- The entries of a beginning of a log.
use Rattle.std.proofs.Common.{◌≡◌, ℕ, zero, suc, ◌+◌, ◌-◌, ◌≤◌, Option, Some, List, [], ◌∷◌, take, drop, refl, sym, ap, ◌∙◌, arith}
use Rattle.std.proofs.lemmas.List.{drop-take}
use Rattle.sb_calls.specs.declared.ask.Key.{Key}
use Rattle.sb_calls.specs.declared.call.Call.{Call}
use Rattle.sb_frames.specs.declared.frame.Frame.TheVariants.{Entry}
use Rattle.sb_sequencer.specs.Entries.{entries, entries_from, entries_after, entries_for_replica}

take_comm : {X : Type 0} (m n : ℕ) (xs : List X) → take m (take n xs) ≡ take n (take m xs)
take_comm zero zero xs = refl
take_comm zero (suc n) [] = refl
take_comm zero (suc n) (x ∷ xs) = refl
take_comm (suc m) zero [] = refl
take_comm (suc m) zero (x ∷ xs) = refl
take_comm (suc m) (suc n) [] = refl
take_comm (suc m) (suc n) (x ∷ xs) = ap (λ rest. x ∷ rest) (take_comm m n xs)

-- the entries of the first so many asks are the first so many entries
entries_from-take : (number size : ℕ) (log : List (Key × Call)) → entries_from number (take size log) ≡ take size (entries_from number log)
entries_from-take number zero log = refl
entries_from-take number (suc size) [] = refl
entries_from-take number (suc size) (ask ∷ log) = ap (λ rest. Entry number ask.1 ∷ rest) (entries_from-take (suc number) size log)

-- the entries after a length, cut off where the beginning of the log ends
pub entries_after-take : (log : List (Key × Call)) (size recorded : ℕ) → recorded ≤ size
    → take (size - recorded) (entries_after log recorded) ≡ entries_after (take size log) recorded
unfolding entries_after
entries_after-take log size recorded l =
    let joined : recorded + (size - recorded) ≡ size = omega (arith, l) in
    take_comm (size - recorded) 16 (drop recorded (entries log))
    ∙ ap (take 16)
    (sym (drop-take recorded (size - recorded) (entries log))
    ∙ ap (λ n. drop recorded (take n (entries log))) joined
    ∙ ap (drop recorded) (sym (entries_from-take 1 size log)))

-- those for a replica that has this length
pub entries_for-take : (log : List (Key × Call)) (size recorded : ℕ) (found : Option ℕ) → recorded ≤ size → Some recorded ≡ found
    → take (size - recorded) (entries_for_replica log found) ≡ entries_for_replica (take size log) found
entries_for-take log size recorded found l e =
    ap (λ some. take (size - recorded) (entries_for_replica log some)) (sym e)
    ∙ entries_after-take log size recorded l
    ∙ ap (entries_for_replica (take size log)) e

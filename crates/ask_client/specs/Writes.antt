-- What a write that may fail leaves.
use Rattle.std.specs.Prelude.{◌≡◌, ℕ, Option, Result, List, [], ◌++◌, OnOk}
use Rattle.std.specs.Io.KnownBytes.{Appends}

-- the bytes were written, or after a failure a first part of them
abbrev pub WritesFront : {E : Type 0} → Result (Unit {0}) E → List ℕ → Option (List ℕ) → Option (List ℕ) → Type 0
WritesFront result bytes old new =
    (front rest : List ℕ) × (bytes ≡ front ++ rest) × Appends old new front × OnOk result (rest ≡ [])

-- What a reader of fields answers, and the bytes that it leaves.
use Rattle.std.specs.Prelude.{◌≡◌, ℕ, Option, Some, None, Result, Ok, Err, List}
use Rattle.std.specs.Result.{result_ok}
use Rattle.sb_frames.specs.declared.fault.FrameFault.{FrameFault}
use Rattle.sb_frames.specs.declared.fault.FrameFault.TheVariants.{BadLength}

-- a reader's answer, with the bytes that it leaves, is the reading of its bytes
abbrev pub TakesField : {A : Type 0} → Result A FrameFault → List ℕ → Result (A × List ℕ) FrameFault → Type 0
TakesField (Ok value) rest read = read ≡ Ok (value, rest)
TakesField (Err fault) rest read = read ≡ Err fault

-- the same for a number's reader, which fails only where bytes are missing
abbrev pub TakesNumber : {A : Type 0} → Option A → List ℕ → Result (A × List ℕ) FrameFault → Type 0
TakesNumber (Some value) rest read = read ≡ Ok (value, rest)
TakesNumber None rest read = read ≡ Err BadLength

-- the same for a reader that doesn't tell faults apart
abbrev pub TakesIfRead : {A : Type 0} → Option A → List ℕ → Result (A × List ℕ) FrameFault → Type 0
TakesIfRead (Some value) rest read = read ≡ Ok (value, rest)
TakesIfRead None rest read = result_ok read ≡ None

-- What a team of node 0's crew and its followers did.
use Rattle.std.specs.Prelude.{◌≡◌, ◌<◌, ℕ, Bool, true}

-- a crew of so many workers did it; it may keep a job only if it has workers
abbrev pub IsDoneBy : {A : Type 0} → ℕ → (ℕ → Bool → A → Type 0) → A → Type 0
IsDoneBy workers Does answer = (keeps : Bool) × (keeps ≡ true → 0 < workers) × Does workers keeps answer

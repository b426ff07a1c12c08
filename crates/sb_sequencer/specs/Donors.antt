-- From which replica another gets a state: a checkpoint of more of the log than it has.
use Rattle.std.specs.Prelude.{◌≡◌, ◌≢◌, ℕ, ◌<◌, ◌≤◌, ◌⊎◌, Option, Some, None, slice_get}
use Rattle.sb_sequencer.specs.Sequencer.{SequencerOf}

-- a replica has a state for another: it keeps a checkpoint of more of the log than the other has
abbrev pub HasStateFor : SequencerOf → ℕ → ℕ → ℕ → Type 0
HasStateFor s replica donor size =
    (donor ≢ replica) × (slice_get s.checkpoints donor ≡ Some size)
    × ((length : ℕ) × (slice_get s.recorded replica ≡ Some length) × (length < size))

-- the donor has the most of the log; of several with the most, it is the first
abbrev pub IsDonor : SequencerOf → ℕ → Option (ℕ × ℕ) → Type 0
IsDonor s replica (Some (donor, size)) = HasStateFor s replica donor size
    × ((other more : ℕ) → HasStateFor s replica other more
    → (more < size) ⊎ ((more ≡ size) × (donor ≤ other)))
IsDonor s replica None = (donor size : ℕ) → HasStateFor s replica donor size → ⊥

-- Checkpoints of the greatest size.
use Rattle.std.specs.Prelude.{ℕ, ◌+◌, ◌*◌}

-- the size in bytes of a checkpoint of this many customers and replies
abbrev pub size_of : ℕ → ℕ → ℕ
size_of customers replies = 36 + 16 * customers + 9 * replies

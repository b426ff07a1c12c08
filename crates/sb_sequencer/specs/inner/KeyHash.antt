-- What the hasher of a log's keys computes.
use Rattle.std.specs.Prelude.{ℕ, ◌+◌, ◌*◌, ◌/◌, ◌%◌, ◌^◌, List, ◌∷◌, bit_xor}
use Rattle.sb_sequencer.specs.declared.key_hasher.KeyHasher.{KeyHasher}
use Rattle.sb_sequencer.specs.declared.key_hasher.TheConstants.{BLOCK, TAG_STEP, SEED, MULTIPLIER}

-- the number in the first four bytes, the lowest first; fewer bytes count as 0
abbrev pub first_number : List ℕ → ℕ
first_number (a ∷ b ∷ c ∷ d ∷ rest) = a + b * 2 ^ 8 + c * 2 ^ 16 + d * 2 ^ 24
first_number _ = 0

-- the state has the last two numbers that were written, of 32 bits each
abbrev pub after_write : KeyHasher → List ℕ → KeyHasher
after_write h bytes = record { state = (h.state * 2 ^ 32 + first_number bytes) % 2 ^ 64 }

-- the two halves of a product's 128 bits, joined by xor
abbrev pub xor_halves : ℕ → ℕ
xor_halves product = bit_xor (product % 2 ^ 64) (product / 2 ^ 64)

-- the hash that a block of requests has in common
abbrev pub block_hash : ℕ → ℕ
block_hash block = xor_halves (bit_xor block SEED * MULTIPLIER)

-- a request's hash is that of its block, but for the bits that hold its place in the block
abbrev pub key_hash : KeyHasher → ℕ
key_hash h = bit_xor (block_hash (h.state / BLOCK)) (h.state % BLOCK * TAG_STEP)

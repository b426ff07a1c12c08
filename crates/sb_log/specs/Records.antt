-- The records of a log file.
use Rattle.std.specs.Prelude.{ℕ, ◌-◌, ◌^◌, ◌<◌, List, [], ◌∷◌, ◌++◌, length}
use Rattle.std.specs.Int.{w32, to_be_bytes}
use Rattle.std.specs.List.{flat_map}
use Rattle.sha2.specs.Sha256.{sha256}

-- a body fits a record: its length has four bytes
abbrev pub IsBody : List ℕ → Type 0
IsBody body = length body < 2 ^ 32

-- a body's length, and the length's complement
unfoldable pub size_field : ℕ → List ℕ
size_field size = to_be_bytes w32 size ++ to_be_bytes w32 (2 ^ 32 - 1 - size)

-- what stands before a body: its length with its complement, and the digest of all bodies up to and
-- with this one; `before` are the bytes of the earlier bodies
unfoldable pub head : List ℕ → List ℕ → List ℕ
head before body = size_field (length body) ++ sha256 (before ++ body)

-- the record of a body behind earlier ones
unfoldable pub record_after : List ℕ → List ℕ → List ℕ
record_after before body = head before body ++ body

-- the records of these bodies behind earlier ones, in order
abbrev pub records_after : List ℕ → List (List ℕ) → List ℕ
records_after before [] = []
records_after before (body ∷ bodies) = record_after before body ++ records_after (before ++ body) bodies

-- the records of these bodies, in order
abbrev pub records : List (List ℕ) → List ℕ
records bodies = records_after [] bodies

-- the bytes of these bodies, in order
abbrev pub body_bytes : List (List ℕ) → List ℕ
body_bytes bodies = flat_map (λ body. body) bodies

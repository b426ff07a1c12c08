-- How the bytes of a log file are read.
use Rattle.std.specs.Prelude.{◌≡◌, ◌≢◌, ◌⊎◌, ℕ, ◌+◌, ◌<◌, ◌^◌, List, ◌++◌, length, take}
use Rattle.std.specs.List.{All}
use Rattle.sb_log.specs.Records.{IsBody, body_bytes, record_after, records, size_field}

-- a list begins with another
abbrev pub Begins : {A : Type 0} → List A → List A → Type 0
Begins {A} front all = (more : List A) × (all ≡ front ++ more)

-- the bytes are the records of these bodies, the longest list of whole ones, and then this rest
pub record ReadsRecords (bytes : List ℕ) (bodies : List (List ℕ)) (rest : List ℕ) : Type 0 where
  pub fit : All IsBody bodies
  pub whole : bytes ≡ records bodies ++ rest
  pub longest : (body more : List ℕ) → IsBody body → rest ≢ record_after (body_bytes bodies) body ++ more

-- a beginning of a record that isn't whole, by its length and the length's complement; or zeros
-- alone, which a crash may leave behind what was written
abbrev pub IsTorn : List ℕ → Type 0
IsTorn rest = ((size : ℕ) × (size < 2 ^ 32) × Begins (take 8 rest) (size_field size) × (length rest < 40 + size))
    ⊎ All (λ byte. byte ≡ 0) rest

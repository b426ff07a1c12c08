-- What stands at a place of a log's file.
use Rattle.std.specs.Prelude.{◌≡◌, ◌≢◌, ℕ, List, ◌++◌, drop, length}
use Rattle.sha2.specs.declared.Sha256.{Sha256}
use Rattle.sha2.specs.Hashers.{Holds256}
use Rattle.sb_log.specs.Reading.{IsTorn}
use Rattle.sb_log.specs.Records.{IsBody, record_after}
use Rattle.sb_log.specs.declared.front.Front.{Front}
use Rattle.sb_log.specs.declared.record.TheConstants.{HEAD}
use Rattle.sb_log.specs.declared.front.Front.TheVariants.{Record, Torn, Damaged}

-- no whole record stands at the front of these bytes, behind these bodies
abbrev pub HasNoRecord : List ℕ → List ℕ → Type 0
HasNoRecord before rest = (body more : List ℕ) → IsBody body → rest ≢ record_after before body ++ more

-- whatever file this was read of: the hasher holds the body in the buffer too, if it is a whole record
abbrev pub HashesFront : List ℕ → Front → List ℕ → Sha256 → Type 0
HashesFront before Record buffer hasher = Holds256 hasher (before ++ drop HEAD buffer)
HashesFront before other buffer hasher = Holds256 hasher before

-- this stands at the front of these bytes, behind these bodies; the buffer has the record, and the
-- hasher holds its body too
abbrev pub IsFront : List ℕ → List ℕ → Front → List ℕ → Sha256 → Type 0
IsFront before rest Record buffer hasher = (body : List ℕ) × (more : List ℕ) × IsBody body
    × (buffer ≡ record_after before body) × (rest ≡ buffer ++ more) × Holds256 hasher (before ++ body)
IsFront before rest (Torn size) buffer hasher =
    IsTorn rest × (size ≡ length rest) × HasNoRecord before rest × Holds256 hasher before
IsFront before rest (Damaged size) buffer hasher =
    (IsTorn rest → ⊥) × (size ≡ length rest) × HasNoRecord before rest

-- What is read from the stream of a client who is served alone, and what is written to it.
use Rattle.std.specs.Prelude.{◌≡◌, ◌↔◌, ◌<◌, ℕ, true, Option, Some, None, List, [], length, take, IfNone, IfSome, IsTrue}
use Rattle.std.specs.Io.KnownBytes.{Appends, Consumes, IsAtEnd, Keeps}
use Rattle.bank_clients.specs.Streams.{StreamOf}

-- so many bytes were read from the front of what remained, to the front of a chunk, and none only at the
-- end; or reading failed, and nothing was read
abbrev pub ReadsPiece : Option (List ℕ) → Option (List ℕ) → Option ℕ → List ℕ → Type 0
ReadsPiece old new None chunk = Keeps old new
ReadsPiece old new (Some count) chunk =
    Consumes old new (take count chunk) × (count ≡ 0 → 0 < length chunk → IsAtEnd new)

-- that was read from the stream of a client who is there: with no bytes its end was read, and else its
-- connection failed if nothing was
abbrev pub ReadsStream : Option StreamOf → Option StreamOf → Option ℕ → List ℕ → Type 0
ReadsStream None new read chunk = ⊥
ReadsStream (Some old) None read chunk = ⊥
ReadsStream (Some old) (Some new) read chunk = ReadsPiece old.remaining new.remaining read chunk
    × IfSome read (λ count. IsTrue new.ended ↔ (count ≡ 0)) × IfNone read (new.failed ≡ true)

-- exactly these bytes were written to the stream of the client who is there, and none if nobody is
abbrev pub WritesStream : Option StreamOf → Option StreamOf → List ℕ → Type 0
WritesStream None new bytes = (new ≡ None) × (bytes ≡ [])
WritesStream (Some old) None bytes = ⊥
WritesStream (Some old) (Some new) bytes = Appends old.contents new.contents bytes

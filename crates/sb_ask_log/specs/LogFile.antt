-- The file of a log: its opening text, and then its asks in batches.
use Rattle.std.specs.Prelude.{◌≡◌, ◌≢◌, ◌==◌, ◌-◌, ℕ, if◌then◌else◌, Ok, List, [], ◌∷◌, ◌++◌, codes, length, map, slice_index}
use Rattle.std.specs.List.{All, flat_map}
use Rattle.sb_rows.specs.Opening.{OpeningText, opening_of}
use Rattle.sb_calls.specs.declared.ask.Key.{Key}
use Rattle.sb_calls.specs.declared.call.Call.{Call}
use Rattle.sb_sequencer.specs.Numbering.{IsLog}
use Rattle.sha2.specs.Sha256.{sha256}
use Rattle.sb_ask_log.specs.Asks.{IsAsk, asks_field}

-- what stands before the opening text
abbrev pub log_magic : List ℕ
log_magic = codes "SBLOG001"

-- the text is an opening up to and with its line `begin` and the end of that line
pub record IsOpeningText (text : List ℕ) : Type 0 where
  pub opening : OpeningText
  pub read : opening_of text ≡ Ok opening
  pub whole : opening.consumed ≡ length text
  pub ended : (front : List ℕ) × (text ≡ front ++ 10 ∷ [])

-- a text that isn't empty ends with the end of a line, which is added if it isn't there
abbrev pub with_line_end : List ℕ → List ℕ
with_line_end text =
    if length text == 0 then [] else if slice_index text (length text - 1) == 10 then text else text ++ 10 ∷ []

-- these batches are a log: none is empty, and no key stands twice
pub record AreBatchesOf (batches : List (List (Key × Call))) (log : List (Key × Call)) : Type 0 where
  pub some : All (λ batch. batch ≢ []) batches
  pub valid : All IsAsk log
  pub log_is : log ≡ flat_map (λ batch. batch) batches
  pub one_each : IsLog log

-- the bodies of the records of an opening and batches
abbrev pub bodies_of : List ℕ → List (List (Key × Call)) → List (List ℕ)
bodies_of text batches = (log_magic ++ text) ∷ map asks_field batches

-- the bytes of all its bodies, however the asks are parted into batches
abbrev pub log_bytes : List ℕ → List (Key × Call) → List ℕ
log_bytes text log = log_magic ++ text ++ asks_field log

-- the digest of a log, which says which opening and which asks these are
abbrev pub log_digest : List ℕ → List (Key × Call) → List ℕ
log_digest text log = sha256 (log_bytes text log)

-- these are the bodies of a log with this opening
pub record AreBodiesOf (bodies : List (List ℕ)) (text : List ℕ) (log : List (Key × Call)) : Type 0 where
  pub batches : List (List (Key × Call))
  pub bodies_are : bodies ≡ bodies_of text batches
  pub opening : IsOpeningText text
  pub log_is : AreBatchesOf batches log

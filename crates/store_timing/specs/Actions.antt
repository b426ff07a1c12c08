-- What the words of the program say.
use Rattle.std.specs.Prelude.{◌≡◌, ℕ, Some, List, length, map, String, codes, slice_get, string_bytes}
use Rattle.std.specs.Str.Parse.{IsNumeral, digits_value, without_leading_plus}
use Rattle.store_timing.specs.declared.payees.Payees.TheVariants.{One, Many}
use Rattle.store_timing.specs.declared.words.Absence.{Absence}
use Rattle.store_timing.specs.declared.words.CrewChoice.{CrewChoice}
use Rattle.store_timing.specs.declared.words.CrewChoice.TheVariants.{InPlace, InThreads, Wait, Buffered}
use Rattle.store_timing.specs.declared.words.Measurement.{Measurement}
use Rattle.store_timing.specs.declared.words.Measurement.TheVariants.{Drain, Write, Read, Adopt, Open, ByState, ByEntries}

module _ {A : Type 0} where
  -- there are this many words, and the second is this one
  abbrev pub NamesAction : List (String A) → ℕ → List ℕ → Type 0
  NamesAction words many action = (length words ≡ many) × (slice_get (map string_bytes words) 1 ≡ Some action)

  -- the word at a position is the number's digits, after an optional `+`
  abbrev pub HasIntegerAt : List (String A) → ℕ → ℕ → Type 0
  HasIntegerAt words position number = (text : List ℕ) × (slice_get (map string_bytes words) position ≡ Some text)
      × IsNumeral 10 (without_leading_plus text) × (number ≡ digits_value 10 (without_leading_plus text))

  -- the words are the program's name, the crew, and its numbers in order
  abbrev pub GivesDrain : CrewChoice → List (String A) → Type 0
  GivesDrain (InPlace steps calls) words = NamesAction words 4 (codes "none")
      × HasIntegerAt words 2 steps × HasIntegerAt words 3 calls
  GivesDrain (InThreads workers steps calls) words = NamesAction words 5 (codes "workers")
      × HasIntegerAt words 2 workers × HasIntegerAt words 3 steps × HasIntegerAt words 4 calls
  GivesDrain (Wait workers) words = NamesAction words 3 (codes "wait") × HasIntegerAt words 2 workers
  GivesDrain (Buffered One calls) words = NamesAction words 3 (codes "one-customer") × HasIntegerAt words 2 calls
  GivesDrain (Buffered Many calls) words = NamesAction words 3 (codes "many-customers") × HasIntegerAt words 2 calls

  -- the three numbers after the second word: customers, the length of the log before, and entries
  -- since
  abbrev pub GivesAbsence : Absence → List (String A) → Type 0
  GivesAbsence absence words = HasIntegerAt words 2 absence.customers
      × HasIntegerAt words 3 absence.before × HasIntegerAt words 4 absence.entries

  -- the words are the program's name, what is measured, and its numbers in order
  abbrev pub GivesMeasurement : Measurement → List (String A) → Type 0
  GivesMeasurement (Drain choice) words = GivesDrain choice words
  GivesMeasurement (Write count) words = NamesAction words 3 (codes "write") × HasIntegerAt words 2 count
  GivesMeasurement (Read count) words = NamesAction words 3 (codes "read") × HasIntegerAt words 2 count
  GivesMeasurement (Adopt count) words = NamesAction words 3 (codes "adopt") × HasIntegerAt words 2 count
  GivesMeasurement (Open count) words = NamesAction words 3 (codes "open") × HasIntegerAt words 2 count
  GivesMeasurement (ByState absence) words = NamesAction words 5 (codes "by-state") × GivesAbsence absence words
  GivesMeasurement (ByEntries absence) words = NamesAction words 5 (codes "by-entries") × GivesAbsence absence words

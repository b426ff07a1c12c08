-- The life of a log file: what is appended and synced, what fails, what a crash leaves, and what is
-- read back.
use Rattle.std.specs.Prelude.{◌≡◌, ℕ, max, min, Bool, true, false, List, [], ◌∷◌, ◌++◌, length, take}
use Rattle.sb_log.specs.Reading.{Begins, IsTorn, ReadsRecords}
use Rattle.sb_log.specs.Records.{IsBody, body_bytes, record_after, records}

-- a file's bytes; how many of them are synced; the bodies that were given to it, and those that were
-- told, in order; and whether it is healthy, so that it takes appends and syncs
pub record Life : Type 0 where
  pub content : List ℕ
  pub synced : ℕ
  pub given : List (List ℕ)
  pub told : List (List ℕ)
  pub healthy : Bool

-- a file before its first byte
abbrev pub newborn : Life
newborn = record { content = []; synced = 0; given = []; told = []; healthy = true }

pub data Event : Type 0 where
  Append : (body : List ℕ) → Event
  -- of the record so many bytes are left, or all of them
  AppendFails : (body : List ℕ) (kept : ℕ) → Event
  Sync : Event
  SyncFails : Event
  -- so many bytes are left, but at least those that were synced
  Crash : (kept : ℕ) → Event
  -- what follows these bodies' records is cut off
  Cut : (bodies : List (List ℕ)) (rest : List ℕ) → Event
  -- the same, and the file is synced; these bodies count as given and told
  ReadBack : (bodies : List (List ℕ)) (rest : List ℕ) → Event

-- what an event does
abbrev pub Happens : Life → Event → Life → Type 0
-- the record goes last
Happens l (Append body) m = (l.healthy ≡ true) × IsBody body
    × (m ≡ record l { content = l.content ++ record_after (body_bytes l.given) body; given = l.given ++ body ∷ [] })
-- a beginning of the record goes last
Happens l (AppendFails body kept) m = (l.healthy ≡ true) × IsBody body
    × (m ≡ record l {
      content = l.content ++ take kept (record_after (body_bytes l.given) body);
      given = l.given ++ body ∷ [];
      healthy = false;
    })
-- everything is synced, and all that was given is told
Happens l Sync m = (l.healthy ≡ true) × (m ≡ record l { synced = length l.content; told = l.given })
-- nobody knows how much is synced
Happens l SyncFails m = (l.healthy ≡ true) × (m ≡ record l { healthy = false })
Happens l (Crash kept) m = m ≡ record l { content = take (max l.synced kept) l.content; healthy = false }
Happens l (Cut bodies rest) m = ReadsRecords l.content bodies rest × IsTorn rest
    × (m ≡ record l { content = records bodies; synced = min (length (records bodies)) l.synced })
Happens l (ReadBack bodies rest) m = ReadsRecords l.content bodies rest × IsTorn rest
    × (m ≡ record {
      content = records bodies;
      synced = length
          (records bodies);
      given = bodies;
      told = bodies;
      healthy = true;
    })

-- these events, one after another
abbrev pub HappensAll : Life → List Event → Life → Type 0
HappensAll l [] m = m ≡ l
HappensAll l (event ∷ events) m = (mid : Life) × Happens l event mid × HappensAll mid events m

-- whatever happened: the bodies that are read of the file begin with all that were told, and are a
-- beginning of those that were given, in order; and the rest is torn
abbrev pub KeepsWhatItTold : Type 0
KeepsWhatItTold = (events : List Event) (l : Life) (bodies : List (List ℕ)) (rest : List ℕ)
    → HappensAll newborn events l → ReadsRecords l.content bodies rest
    → Begins l.told bodies × Begins bodies l.given × IsTorn rest

-- what was told once is told ever after
abbrev pub TellsForGood : Type 0
TellsForGood = (before after : List Event) (l m : Life) → HappensAll newborn before l → HappensAll l after m
    → Begins l.told m.told

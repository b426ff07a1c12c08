-- A state: a replica's checkpoint, which another replica that lags adopts in place of the log's
-- entries.
use Rattle.std.specs.Prelude.{◌≡◌, ◌≢◌, ◌⊎◌, ℕ, ◌<◌, ◌≤◌, Option, Some, None, List, length}
use Rattle.cown_board.specs.Board.{length_of}
use Rattle.sb_checkpoint.specs.Checkpoint.{CheckpointOf, SpellsFor, Origin}
use Rattle.sb_checkpoint.specs.Reading.{first_fault, head_fault}
use Rattle.sb_checkpoint.specs.Stores.{StoreStep, Get}
use Rattle.sb_checkpoint.specs.declared.fault.CheckpointFault.TheVariants as checkpoint
use Rattle.sb_replica.specs.Log.{none_held}
use Rattle.sb_replica.specs.Replica.{ReplicaOf, origin_of}
use Rattle.sb_replica.specs.Restarting.{IsBoardOn}
use Rattle.sb_replica.specs.declared.adopted.Adopted.{Adopted}
use Rattle.sb_replica.specs.declared.adopted.Adopted.TheVariants as adopted
use Rattle.sb_replica.specs.declared.fault.AdoptFault.{AdoptFault}
use Rattle.sb_replica.specs.declared.fault.AdoptFault.TheVariants as adopt

-- the bytes are a state: a checkpoint of a bank of this origin, in either layout, of this many
-- entries
pub record IsStateOf (origin : Origin) (size : ℕ) (bytes : List ℕ) : Type 0 where
  pub checkpoint : CheckpointOf
  pub spelled : SpellsFor origin checkpoint bytes
  pub size_is : length checkpoint.replies ≡ size

-- what a store with these bytes gives: its checkpoint with its length, or nothing if it holds none,
-- or one of no entry
abbrev pub Gives : Origin → Option (List ℕ) → Option (ℕ × List ℕ) → Type 0
Gives origin content (Some (size, bytes)) = (content ≡ Some bytes) × IsStateOf origin size bytes × (1 ≤ size)
Gives origin content None = (content ≡ None) ⊎ ((bytes : List ℕ) × (content ≡ Some bytes) × IsStateOf origin 0 bytes)

-- the length of a state, 0 for none
abbrev pub state_length : Option (ℕ × List ℕ) → ℕ
state_length (Some (size, bytes)) = size
state_length None = 0

-- adopting, by its answer: the board is opened anew on the state and no op is held, or the state
-- has no more entries than the replica's own log
abbrev pub Adopts : {S : Type 0} → ReplicaOf S → List ℕ → Adopted → ReplicaOf S → Type 0
Adopts old bytes (adopted.Adopted size) new =
    (length_of old.board < size) × (length_of new.board ≡ size)
    × IsBoardOn old.opening (origin_of old) (Some bytes) new.board
    × (new ≡ record old { board = new.board; held = none_held })
Adopts old bytes (adopted.Behind own) new =
    (own ≡ length_of old.board) × ((size : ℕ) × IsStateOf (origin_of old) size bytes × (size ≤ own))
    × (new ≡ old)

-- why a state isn't adopted: the bytes aren't a checkpoint of this bank, or memory was refused,
-- which only bytes that begin well can need
abbrev pub IsAdoptFaultOf : Origin → List ℕ → AdoptFault → Type 0
IsAdoptFaultOf origin bytes (adopt.BadCheckpoint fault) =
    (fault ≢ checkpoint.OutOfMemory) × (first_fault bytes origin ≡ Some fault)
IsAdoptFaultOf origin bytes adopt.OutOfMemory = head_fault bytes origin.customers ≡ None

module _ {S : Type 0} (does : S → StoreStep → S → Type 0) where
  -- the store was read, and this is the state that it gives; all but the store is as it was
  pub record ReadsState (old : ReplicaOf S) (state : Option (ℕ × List ℕ)) (new : ReplicaOf S) : Type 0 where
    pub content : Option (List ℕ)
    pub got : does old.store (Get content) new.store
    pub gives : Gives (origin_of old) content state
    pub stays : new ≡ record old { store = new.store }

-- A replica goes back to its store's checkpoint.
use Rattle.std.specs.Prelude.{◌≡◌, ◌≢◌, ◌⊎◌, ℕ, Option, Some, None, List, []}
use Rattle.sb_rows.specs.Balances.{Balances}
use Rattle.sb_calls.specs.declared.op.Op.{Op}
use Rattle.cown_board.specs.Board.{BoardOf, length_of}
use Rattle.cown_board.specs.BoardCalls.{board_at_opening}
use Rattle.sb_checkpoint.specs.Checkpoint.{CheckpointOf, SpellsFor, Origin}
use Rattle.sb_checkpoint.specs.Reading.{first_fault, head_fault}
use Rattle.sb_checkpoint.specs.Stores.{StoreStep, Get, GetFault}
use Rattle.sb_checkpoint.specs.declared.fault.CheckpointFault.TheVariants as checkpoint
use Rattle.sb_checkpoint.specs.declared.store.StoreFault.{StoreFault}
use Rattle.sb_checkpoint.specs.declared.store.StoreFault.TheVariants as store
use Rattle.sb_replica.specs.Log.{none_held}
use Rattle.sb_replica.specs.Replica.{ReplicaOf, origin_of}
use Rattle.sb_replica.specs.declared.fault.RestartFault.{RestartFault}
use Rattle.sb_replica.specs.declared.fault.RestartFault.TheVariants as restart

-- what the store holds is this checkpoint of a bank of this origin, in either layout; if it holds
-- nothing, this is the opening, without replies
abbrev pub IsStoredAs : Balances → Origin → Option (List ℕ) → CheckpointOf → Type 0
IsStoredAs opening origin None checkpoint = checkpoint ≡ record { columns = opening; replies = [] }
IsStoredAs opening origin (Some bytes) checkpoint = SpellsFor origin checkpoint bytes

-- a board that was opened on what the store holds
pub record IsBoardOn (opening : Balances) (origin : Origin) (content : Option (List ℕ))
    (board : BoardOf Op) : Type 0 where
  pub checkpoint : CheckpointOf
  pub is_stored : IsStoredAs opening origin content checkpoint
  pub board_is : board ≡ board_at_opening checkpoint.columns checkpoint.replies

-- a restart's fault for a fault of the store, or of the checkpoint in it
abbrev pub of_store_fault : StoreFault → RestartFault
of_store_fault store.Device = restart.Device
of_store_fault store.OutOfMemory = restart.OutOfMemory

-- what the store holds, if anything, has a sound beginning for this many customers and isn't short
abbrev pub BeginsWell : ℕ → Option (List ℕ) → Type 0
BeginsWell customers None = Unit {0}
BeginsWell customers (Some bytes) = head_fault bytes customers ≡ None

-- why a restart refuses what the store holds: it isn't a checkpoint of this bank, or memory was
-- refused, which only bytes that begin well can need
abbrev pub IsRefusalOf : Origin → Option (List ℕ) → RestartFault → Type 0
IsRefusalOf origin content restart.Device = ⊥
IsRefusalOf origin content (restart.BadCheckpoint fault) =
    (bytes : List ℕ) × (content ≡ Some bytes) × (fault ≢ checkpoint.OutOfMemory)
    × (first_fault bytes origin ≡ Some fault)
IsRefusalOf origin content restart.OutOfMemory = BeginsWell origin.customers content

module _ {S : Type 0} (does : S → StoreStep → S → Type 0) where
  -- the board is opened anew on what the store holds, and no op is held
  pub record Restarts (old : ReplicaOf S) (size : ℕ) (new : ReplicaOf S) : Type 0 where
    pub content : Option (List ℕ)
    pub got : does old.store (Get content) new.store
    pub board : IsBoardOn old.opening (origin_of old) content new.board
    pub length_is : size ≡ length_of new.board
    pub stays : new ≡ record old { board = new.board; held = none_held; store = new.store }

  -- the store failed, or what it holds was refused; all but the store is as it was
  abbrev pub IsRestartFaultOf : ReplicaOf S → RestartFault → ReplicaOf S → Type 0
  IsRestartFaultOf old fault new = (new ≡ record old { store = new.store })
      × (((failed : StoreFault) × does old.store (GetFault failed) new.store × (fault ≡ of_store_fault failed))
      ⊎ ((content : Option (List ℕ)) × does old.store (Get content) new.store
      × IsRefusalOf (origin_of old) content fault))

-- Saving node 0: a checkpoint is put, read back and compared.
use Rattle.std.specs.Prelude.{◌≡◌, ◌≢◌, ◌⊎◌, ℕ, Option, Some, Ok, List}
use Rattle.sb_rows.specs.Balances.{Balances}
use Rattle.sb_calls.specs.Behaviour.{declared_cowns, effect_of}
use Rattle.cown_board.specs.Board.{IsAfterAll, unfinished_of}
use Rattle.sb_checkpoint.specs.Checkpoint.{Second, SpellsInLayout}
use Rattle.sb_checkpoint.specs.Stores.{StoreStep, Get, GetFault}
use Rattle.sb_checkpoint.specs.declared.store.StoreFault.TheVariants as store
use Rattle.sb_replica.specs.Marking.{IsMarkFaultOf, Puts}
use Rattle.sb_replica.specs.Replica.{ReplicaOf, origin_of, board_replies}
use Rattle.sb_replica.specs.declared.fault.MarkFault.TheVariants as mark
use Rattle.bank_server.specs.declared.node0.save_fault.SaveFault.{SaveFault}
use Rattle.bank_server.specs.declared.node0.save_fault.SaveFault.TheVariants.{Device, ReadBack, OutOfMemory, Busy}

-- something else was read back, or nothing
abbrev pub ReadsOther : List ℕ → StoreStep → Type 0
ReadsOther bytes read = (content : Option (List ℕ)) × (content ≢ Some bytes) × (read ≡ Get content)

module _ {S : Type 0} (does : S → StoreStep → S → Type 0) where
  -- a checkpoint of all entries was put, and then reading it back was this step of the store
  pub record PutsThen (old : ReplicaOf S) (step : List ℕ → StoreStep → Type 0) (new : ReplicaOf S) : Type 0 where
    pub mid : ReplicaOf S
    pub puts : Puts does old (Ok tt) mid
    pub read : StoreStep
    pub does_so : does mid.store read new.store
    pub which : step puts.bytes read
    pub stays : new ≡ record old { store = new.store }

  -- what was put was read back
  abbrev pub Saves : ReplicaOf S → ReplicaOf S → Type 0
  Saves old new = PutsThen old (λ bytes read. read ≡ Get (Some bytes)) new

  -- the checkpoint couldn't be put, or couldn't be read back, or something else was read back
  abbrev pub IsSaveFaultOf : ReplicaOf S → SaveFault → ReplicaOf S → Type 0
  IsSaveFaultOf old Device new = IsMarkFaultOf does old mark.Device new
      ⊎ PutsThen old (λ bytes read. read ≡ GetFault store.Device) new
  IsSaveFaultOf old ReadBack new = PutsThen old ReadsOther new
  IsSaveFaultOf old OutOfMemory new = IsMarkFaultOf does old mark.OutOfMemory new
      ⊎ PutsThen old (λ bytes read. read ≡ GetFault store.OutOfMemory) new
  IsSaveFaultOf old Busy new = IsMarkFaultOf does old mark.Busy new

-- the replica was idle, and its store holds the spelling of the balances after its whole log, of
-- the opening total and of all its replies, in the second layout
pub record StoresCheckpoint {S : Type 0} (slot : S → Option (List ℕ)) (old new : ReplicaOf S) : Type 0 where
  pub idle : unfinished_of old.board ≡ 0
  pub columns : Balances
  pub after : IsAfterAll declared_cowns effect_of old.board columns
  pub bytes : List ℕ
  pub spelled : SpellsInLayout Second (origin_of old).opening_total
      (record { columns = columns; replies = board_replies old.board }) bytes
  pub holds : slot new.store ≡ Some bytes

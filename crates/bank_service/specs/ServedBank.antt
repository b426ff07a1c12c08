-- A served bank: its output, and what is left of it.
use Rattle.std.specs.Prelude.{◌≡◌, ℕ, Bool}
use Rattle.sb_checkpoint.specs.Stores.{StoreModel}
use Rattle.sb_ask_log.specs.Keeping.{KeeperModel}
use Rattle.bank_server.specs.Primary.{HasWholeLog, PrimaryOf}
use Rattle.sb_sequencer.specs.Numbering.{IsLog}
use Rattle.bank_service.specs.StoreAfter.{IsStoreAfter}

-- the bank has the same names, over the same opening
pub record IsSameBank {S K : Type 0} (old new : PrimaryOf S K) : Type 0 where
  pub names : new.node.names ≡ old.node.names
  pub opening : new.node.board.opening ≡ old.node.board.opening

-- the same bank after this many sessions: its log has one number for each key, node 0 has executed
-- all of it, all of it is kept, in a file of the same opening, and its store is as `IsStoreAfter` says
pub record IsBankAfter {S K : Type 0} (model : StoreModel S) (keeper : KeeperModel K) (saves : Bool)
    (sessions : ℕ) (old new : PrimaryOf S K) : Type 0 where
  pub bank : IsSameBank old new
  pub one_each : IsLog new.log
  pub all : HasWholeLog new
  pub kept_log : keeper.Keeps new.keeper new.log
  pub text : keeper.opening new.keeper ≡ keeper.opening old.keeper
  pub kept : IsStoreAfter model saves sessions old.node.store new.node

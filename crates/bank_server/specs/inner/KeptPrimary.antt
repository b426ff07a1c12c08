-- The log, node 0 and the keeper of the log.
use Rattle.sb_ask_log.specs.Keeping.{KeeperModel, KeepsBeginning}
use Rattle.bank_server.specs.Primary.{IsPrimary, PrimaryOf}

-- what always holds of the log and node 0, and the keeper keeps a beginning of the log
pub record IsKeptPrimary {S K : Type 0} (model : KeeperModel K) (primary : PrimaryOf S K) : Type 0 where
  pub valid : IsPrimary primary
  pub begins : KeepsBeginning model primary.keeper primary.log

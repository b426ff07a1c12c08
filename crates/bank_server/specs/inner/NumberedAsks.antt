-- What numbering asks does to the bank.
use Rattle.std.specs.Prelude.{◌≡◌, ◌≤◌, length}
use Rattle.sb_ask_log.specs.Keeping.{KeeperModel}
use Rattle.bank_server.specs.Primary.{PreservesBank, PrimaryOf}

-- asks were numbered: the log is at least as long, node 0 stays, and the bank is preserved
pub record NumbersAsks {S K : Type 0} (model : KeeperModel K) (old new : PrimaryOf S K) : Type 0 where
  pub grows : length old.log ≤ length new.log
  pub node : new.node ≡ old.node
  pub bank : PreservesBank model old new

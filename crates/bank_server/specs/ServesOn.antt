-- What every step of a session keeps of the bank.
use Rattle.std.specs.Prelude.{◌≡◌, Bool, false, Result, IfErr}
use Rattle.sb_ask_log.specs.Keeping.{KeeperModel}
use Rattle.cown_workers.specs.Draining.{HasNoneOut}
use Rattle.bank_server.specs.Primary.{PreservesBank, PrimaryOf}
use Rattle.bank_server.specs.SessionFaults.{LosesCrew, LosesLog}
use Rattle.bank_server.specs.declared.session.session_fault.SessionFault.{SessionFault}

-- what every step of a session keeps of the bank, and what its fault shows, if it has this result:
-- what was kept stays kept, and a crew that keeps no job leaves no op out, after a fault too
pub record ServesOn {T S K : Type 0} (model : KeeperModel K) (crew_keeps : Bool) (result : Result T SessionFault)
    (old new : PrimaryOf S K) : Type 0 where
  pub bank : PreservesBank model old new
  pub none_out : crew_keeps ≡ false → HasNoneOut old.node.board → HasNoneOut new.node.board
  pub crew_lost : IfErr result (LosesCrew crew_keeps old.node.board)
  pub log_lost : IfErr result (LosesLog model.fails (model.has_failed new.keeper))

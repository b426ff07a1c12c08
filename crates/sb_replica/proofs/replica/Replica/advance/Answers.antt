use Rattle.std.proofs.Common.{◌≡◌, ℕ, ◌+◌, suc, Ok, sym, subst, ◌∙◌, arith}
use Rattle.cown_board.specs.Board.{length_of}
use Rattle.sb_replica.specs.Log.{next_held}
use Rattle.sb_replica.specs.Offers.{after_advance, next_offer_answer}
use Rattle.sb_replica.proofs.ChangedLogs.{log_changes}
use Rattle.sb_replica.specs.Replica.{ReplicaOf, log_of}
use Rattle.sb_replica.proofs.replica.Replica.advance.Goals as goal

pub returns-clause-state : goal.returns-clause-state
returns-clause-state g c = log_changes (λ r. after_advance (log_of r)) c.self.view_is c.in-Ok.ensures.state

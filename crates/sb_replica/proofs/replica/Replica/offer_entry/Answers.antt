use Rattle.std.proofs.Common.{◌≡◌, Ok, suc, subst}
use Rattle.std.specs.Prelude.{IfOk, OnErr}
use Rattle.cown_board.specs.Board.{length_of}
use Rattle.sb_replica.specs.Offers.{after_offer, offer_answer}
use Rattle.sb_replica.specs.declared.offered.Offered.TheVariants.{Next}
use Rattle.sb_replica.proofs.ChangedLogs.{answered_log_changes}
use Rattle.sb_replica.specs.Replica.{ReplicaOf}
use Rattle.sb_replica.proofs.replica.Replica.offer_entry.Goals as goal

pub returns-clause-answer : goal.returns-clause-answer
returns-clause-answer g c =
    subst (λ (r : ReplicaOf g.row.S.Denot). IfOk c.offer_entry.result (λ answer. answer ≡ offer_answer r.board c.args.number)) c.self.view_is
    c.offer_entry.ensures.answer

pub returns-clause-err : goal.returns-clause-err
returns-clause-err g c =
    subst (λ (r : ReplicaOf g.row.S.Denot). OnErr c.offer_entry.result (offer_answer r.board c.args.number ≡ Next)) c.self.view_is c.offer_entry.ensures.err

pub returns-clause-state : goal.returns-clause-state
returns-clause-state g c =
    answered_log_changes c.offer_entry.new.self c.offer_entry.result (λ log answer. after_offer log c.args.op answer) c.self.view_is c.offer_entry.ensures.state

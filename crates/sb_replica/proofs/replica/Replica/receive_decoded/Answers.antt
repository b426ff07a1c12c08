use Rattle.std.proofs.Common.{◌≡◌, ℕ, Ok, rules, suc, sym, ap, subst, ◌∙◌}
use Rattle.std.proofs.lemmas.Result.{err_from_is_err_and}
use Rattle.cown_board.specs.Board.{length_of}
use Rattle.sb_calls.specs.Op.{op_of}
use Rattle.sb_calls.specs.declared.op.Op.{Op}
use Rattle.sb_replica.specs.Offers.{after_offer, offer_answer}
use Rattle.sb_replica.specs.declared.offered.Offered.{Offered}
use Rattle.sb_replica.specs.declared.offered.Offered.TheVariants.{Next}
use Rattle.sb_replica.proofs.ChangedLogs.{log_changes}
use Rattle.sb_replica.specs.Frames.{after_frame, entry_answer, frame_answer}
use Rattle.sb_replica.specs.Replica.{ReplicaOf, log_of, with_log}
use Rattle.sb_replica.specs.declared.heard.Heard.TheVariants as heard
use Rattle.sb_replica.proofs.replica.Replica.receive_decoded.Goals as goal

pub returns-in_default : goal.returns-in_default
returns-in_default g c =
    let old = c.args.self.now in
    let told : heard.Ignored ≡ frame_answer old.board c.args.frame.now = search rules in
    let after : old ≡ with_log old (after_frame old.names (log_of old) c.args.frame.now) = search rules in
    record { answer = told; err = tt; state = after }

pub returns-in_err-offered : goal.returns-in_err-offered
returns-in_err-offered g c =
    let p = err_from_is_err_and c.from_residual.result c.from_residual.ensures.1 in
    let number = c.in-Entry.number in
    let next : offer_answer c.args.self.now.board number ≡ Next =
    subst (λ (r : ReplicaOf g.row.S.Denot). offer_answer r.board number ≡ Next) c.self.view_is c.in_err-offered.ensures.err in
    rw p.1
    (record {
      answer = tt;
      err = (number, rw c.in-Entry.is (ap (entry_answer number) next));
      state = log_changes (λ r. log_of r) c.self.view_is c.in_err-offered.ensures.state;
    })

pub returns-clause-answer : goal.returns-clause-answer
returns-clause-answer g c =
    let number = c.in-Entry.number in
    let answer = c.in_ok-offered.ensures.answer ∙ ap (λ (r : ReplicaOf g.row.S.Denot). offer_answer r.board number) c.self.view_is in
    rw c.in-Entry.is (c.entry_answer.ensures ∙ ap (entry_answer number) answer)

pub returns-clause-state : goal.returns-clause-state
returns-clause-state g c =
    let number = c.in-Entry.number in
    let call = c.in-Entry.call in
    let node = c.self.inside in
    let offer = c.in_ok-offered.ensures in
    let state = offer.state ∙ ap (λ (op : Op). after_offer node.log op c.in_ok-offered.offered) c.resolve-op.ensures.value
    ∙ ap (λ (answer : Offered). after_offer node.log (op_of node.directory call) answer) offer.answer in
    rw c.in-Entry.is
    (log_changes (λ r. after_offer (log_of r) (op_of r.names call) (offer_answer r.board number)) c.self.view_is state)

use Rattle.std.proofs.Common.{◌≡◌, ap, subst, ◌∙◌}
use Rattle.cown_board.specs.Board.{unfinished_of}
use Rattle.sb_frames.specs.Entries.{HasEntryOp}
use Rattle.sb_replica.proofs.ChangedLogs.{log_changes}
use Rattle.sb_replica.proofs.ReceivedFrames.{entry_received, other_received}
use Rattle.sb_replica.specs.Frames.{entry_answer}
use Rattle.sb_replica.specs.Offers.{after_offer, offer_answer}
use Rattle.sb_replica.specs.Replica.{ReplicaOf, log_of}
use Rattle.sb_replica.specs.declared.offered.Offered.{Offered}
use Rattle.sb_replica.proofs.replica.Replica.receive.Goals as goal

pub returns-in_default-clause-outcome : goal.returns-in_default-clause-outcome
returns-in_default-clause-outcome g c =
    other_received c.args.self.now c.args.stream.now c.other_frame.new.stream c.other_frame.result c.other_frame.ensures

pub returns-clause-outcome : goal.returns-clause-outcome
returns-clause-outcome g c =
    let node = c.self.inside in
    let entry = c.in-Some.field-0 in
    let offer = c.in-Ok.ensures in
    let unfinished : c.unfinished.result ≡ unfinished_of c.args.self.now.board =
    c.unfinished.ensures.value ∙ ap unfinished_of c.board.ensures.value in
    let answered = offer.answer ∙ ap (λ (r : ReplicaOf g.row.S.Denot). offer_answer r.board entry.number) c.self.view_is in
    let has = subst (λ (r : ReplicaOf g.row.S.Denot). HasEntryOp r.names c.args.stream.now entry) c.self.view_is c.in-Some.ensures.entry in
    let state = offer.state ∙ ap (λ (answer : Offered). after_offer node.log entry.op answer) offer.answer in
    entry_received c.args.self.now c.args.stream.now c.skip_entry.new.self entry c.entry_answer.result _ has
    (λ full. c.if-unfinished-eq-OPEN_BEHAVIOURS.false (unfinished ∙ full))
    (c.entry_answer.ensures ∙ ap (entry_answer entry.number) answered)
    (log_changes (λ r. after_offer (log_of r) entry.op (offer_answer r.board entry.number)) c.self.view_is state)
    c.skip_entry.ensures

use Rattle.std.proofs.Common.{◌++◌, List, ℕ, take, refl, sym, ap, subst, ◌∙◌}
use Rattle.std.specs.List.{flat_map}
use Rattle.sb_calls.specs.Log.{replies_to}
use Rattle.sb_frames.specs.Grammar.{spelling}
use Rattle.sb_replica.specs.Replica.{ReplicaOf}
use Rattle.sb_sequencer.specs.Numbering.{calls_of}
use Rattle.bank_server.specs.Execution.{HasReplies}
use Rattle.bank_server.specs.Primary.{opening_rows_of}
use Rattle.bank_server.specs.Session.{outcome_by}
use Rattle.bank_server.specs.declared.session.inbox.PendingAsk.{PendingAsk}
use Rattle.bank_server.specs.inner.ClientSteps.{inbox_state}
use Rattle.bank_server.proofs.clients.ClientSteps.{tells_due}
use Rattle.bank_server.proofs.sessions.Keeping.{stays_bank}
use Rattle.bank_server.proofs.boards.WholeReplies.{tells_all}
use Rattle.bank_server.proofs.session.inbox.Inbox.push_due.Goals as goal

pub returns-clause-tells : goal.returns-clause-tells
returns-clause-tells g c =
    let primary = c.args.primary.now in
    let inbox = c.args.self.now in
    let replies = replies_to (opening_rows_of primary) (calls_of primary.log) in
    let tells : HasReplies c.node.result.now.board replies =
    subst (λ (node : ReplicaOf g.row.S.Denot). HasReplies node.board replies) (sym c.node.ensures.value)
    (tells_all primary primary c.node.ensures.valid.customers c.requires.whole_log refl
    (stays_bank {model = g.K.Keeper.model} primary)) in
    let spelled : List PendingAsk → List ℕ = λ pending. flat_map (λ (w : PendingAsk). flat_map spelling (outcome_by replies w.key w.standing)) pending in
    tells_due (opening_rows_of primary) (inbox_state primary.log inbox c.args.out.now.items) _ (spelled (take inbox.due inbox.pending.items))
    refl c.forget_front.ensures refl refl
    (c.in_ok-push_outcomes.ensures replies tells
    ∙ ap (λ (l : List PendingAsk). c.args.out.now.items ++ spelled (take inbox.due l)) c.deref.ensures.value)

pub returns-clause-behind : goal.returns-clause-behind
returns-clause-behind g c =
    let primary = c.args.primary.now in
    let replies = replies_to (opening_rows_of primary) (calls_of primary.log) in
    let tells : HasReplies c.node.result.now.board replies =
    subst (λ (node : ReplicaOf g.row.S.Denot). HasReplies node.board replies) (sym c.node.ensures.value)
    (tells_all primary primary c.node.ensures.valid.customers c.requires.whole_log refl
    (stays_bank {model = g.K.Keeper.model} primary)) in
    (_, c.in_ok-push_outcomes.ensures replies tells)

use Rattle.std.proofs.Common.{◌≡◌, ◌+◌, ℕ, length, ap, subst, sym, ◌∙◌}
use Rattle.ask_client.specs.Asking.{LeavesAll}
use Rattle.ask_client.specs.Connections.{BringsAll}
use Rattle.ask_client.specs.declared.plan.AskPlan.{AskPlan}
use Rattle.ask_client.specs.inner.Progress.{BringsSoFar, ask_start, ask_state}
use Rattle.ask_client.proofs.Asked.{asks_all, asks_some, begins}
use Rattle.ask_client.proofs.asking.ask_all.Goals as goal

pub returns-in-Ok : goal.returns-in-Ok
returns-in-Ok g c =
    let rem = g.D.Reader.Read.remaining in
    let plan = c.args.plan in
    let new = c.new-asker.result in
    let run = c.ask_input.new in
    let first_streams = g.D.Dialer.streams c.args.dialer.now in
    let text = g.O.Write.contents c.args.output.now in
    let then = g.D.Dialer.streams c.end.new.dialer in
    let start = ask_start plan.client plan.first first_streams text in
    let state = ask_state (g.D.Dialer.streams run.dialer) run.self.stream run.self.batch (g.O.Write.contents run.output) in
    let plan_is : plan ≡ run.self.plan = sym (c.ask_input.ensures.plan ∙ c.new-asker.ensures.plan) in
    asks_all rem start c.end.result state then c.end.ensures.fault
    (λ told has. subst (λ (n : ℕ). BringsAll rem n (LeavesAll rem c.end.result told) first_streams then plan.first told) has.client_is
    (subst (λ (p : AskPlan). BringsAll rem run.self.batch.client (LeavesAll rem c.end.result told) first_streams then p.first told) (sym plan_is)
    (c.end.ensures.ended first_streams told (has.next ∙ ap (λ (p : AskPlan). p.first + length told) plan_is)
    (subst (λ (p : AskPlan). BringsSoFar rem run.self.batch.client first_streams state.streams state.open_stream p.first told) plan_is
    (subst (λ (n : ℕ). BringsSoFar rem n first_streams state.streams state.open_stream plan.first told) (sym has.client_is) has.brought)))))
    (g.I.Read.remaining c.args.input.now)
    (c.in-Ok.ensures.run start (ap (λ (p : AskPlan). p.first) (sym c.new-asker.ensures.plan))
    (begins rem plan.client plan.first first_streams new.stream new.batch text c.new-asker.ensures.stream c.new-asker.ensures.batch))

pub returns : goal.returns
returns g c =
    let rem = g.D.Reader.Read.remaining in
    let plan = c.args.plan in
    let new = c.new-asker.result in
    let run = c.ask_input.new in
    let first_streams = g.D.Dialer.streams c.args.dialer.now in
    let text = g.O.Write.contents c.args.output.now in
    let start = ask_start plan.client plan.first first_streams text in
    let state = ask_state (g.D.Dialer.streams run.dialer) run.self.stream run.self.batch (g.O.Write.contents run.output) in
    asks_some rem start c.in-Err.fault state (g.D.Dialer.streams c.leave_server.new.dialer)
    (λ told brings. c.leave_server.ensures plan.client first_streams plan.first told brings)
    (g.I.Read.remaining c.args.input.now)
    (c.in-Err.ensures.run start (ap (λ (p : AskPlan). p.first) (sym c.new-asker.ensures.plan))
    (begins rem plan.client plan.first first_streams new.stream new.batch text c.new-asker.ensures.stream c.new-asker.ensures.batch))

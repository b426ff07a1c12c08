use Rattle.std.proofs.Common.{sym, ap, subst}
use Rattle.cown_queue.proofs.ListChanges.{IsInFront-held}
use Rattle.cown_queue.specs.Queues.{CownQueues, IsInFront}
use Rattle.cown_queue.proofs.queues.Queues.release.Goals as goal

pub pop_each-requires-clause-queued : goal.pop_each-requires-clause-queued
pop_each-requires-clause-queued c =
    IsInFront-held c.args.number c.args.cowns.now c.self.inside.tickets.lists
    (subst (IsInFront c.args.number c.args.cowns.now) (sym (ap (λ (q : CownQueues). q.lists) c.self.view_is)) c.requires.front)

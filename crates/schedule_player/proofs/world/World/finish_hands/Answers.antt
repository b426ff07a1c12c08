use Rattle.std.proofs.Common.{◌≡◌, suc, ◌+◌, length, sym, ap, subst, ◌∙◌, arith}
use Rattle.schedule_player.specs.inner.SettlingSteps.{IsAtRest, IsTrueAt}
use Rattle.schedule_player.specs.Settling.{after_events, finish_events}
use Rattle.schedule_player.specs.World.{world_move}
use Rattle.schedule_text.specs.declared.event.Event.TheVariants as event
use Rattle.schedule_text.specs.declared.event.NodeEvent.TheVariants as node_event
use Rattle.schedule_player.proofs.hands.SettledWorlds.{after_finish, hands_count, hands_emptied}
use Rattle.schedule_player.proofs.world.World.finish_hands.Goals as goal

-- one more hand is emptied
pub loop-worker-preserved : goal.loop-worker-preserved
loop-worker-preserved c =
    let world = c.args.self.now in
    let r = c.args.replica in
    let k = c.loop-worker.worker in
    let next : k + 1 ≡ suc k = omega arith in
    c.finish_hand.ensures
    ∙ ap (λ w. (world_move w (event.At r (node_event.Finish (k + 1)))).0) c.loop-worker.invariant
    ∙ ap (λ n. (world_move (after_events world (finish_events r k)) (event.At r (node_event.Finish n))).0) next
    ∙ sym (after_finish world r k)
    ∙ ap (λ n. after_events world (finish_events r n)) (sym next)

pub returns-clause-after : goal.returns-clause-after
returns-clause-after c =
    let all : c.loop-worker.worker ≡ c.workers-workers.result = omega (arith, c.loop-worker-test.false, c.loop-worker.auto.worker-end) in
    c.loop-worker.invariant ∙ ap (λ n. after_events c.args.self.now (finish_events c.args.replica n)) (all ∙ c.workers-workers.ensures.value)

pub returns-clause-at_rest : goal.returns-clause-at_rest
returns-clause-at_rest c =
    let all : c.loop-worker.worker ≡ c.workers-workers.result = omega (arith, c.loop-worker-test.false, c.loop-worker.auto.worker-end) in
    let after = c.loop-worker.invariant ∙ ap (λ n. after_events c.args.self.now (finish_events c.args.replica n)) (all ∙ c.workers-workers.ensures.value) in
    subst (λ w. IsTrueAt IsAtRest w c.args.replica) (sym after) (hands_emptied c.args.self.now c.args.replica c.requires c.workers-workers.ensures.able)

pub returns-clause-replicas : goal.returns-clause-replicas
returns-clause-replicas c =
    let all : c.loop-worker.worker ≡ c.workers-workers.result = omega (arith, c.loop-worker-test.false, c.loop-worker.auto.worker-end) in
    let after = c.loop-worker.invariant ∙ ap (λ n. after_events c.args.self.now (finish_events c.args.replica n)) (all ∙ c.workers-workers.ensures.value) in
    ap (λ w. length w.nodes) after ∙ hands_count c.args.self.now c.args.replica c.requires

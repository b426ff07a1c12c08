use Rattle.std.proofs.Common.{subst}
use Rattle.std.specs.Prelude.{option_map, IfOk}
use Rattle.schedule_player.specs.inner.NodeInvariant.{HasState}
use Rattle.schedule_player.specs.World.{bank_of}
use Rattle.schedule_player.proofs.observers.AuditResults.{looked_up, seen_as}
use Rattle.schedule_player.proofs.world.World.state_of.Goals as goal

pub returns-clause-has_state : goal.returns-clause-has_state
returns-clause-has_state c one here =
    let w = c.self.inside in
    let node = c.index_mut.result.now in
    let found = looked_up w.directory w.opening w.sequencer w.nodes.items c.args.self.now c.args.donor node c.self.view_is c.self.invariant
    c.requires c.index_mut.ensures.value in
    subst (λ seen. IfOk c.state_to_give.result (λ state. HasState (bank_of c.args.self.now) seen (option_map (λ bytes. bytes.items) state)))
    (seen_as c.args.self.now c.args.donor node one found here)
    (c.state_to_give.ensures.has_state (bank_of c.args.self.now) c.args.donor found.consistent)

use Rattle.std.proofs.Common.{◌≡◌, subst, arith}
use Rattle.std.specs.Prelude.{Some, IfOk, OnErr, slice_get, slice_set}
use Rattle.schedule_player.specs.inner.NodeInvariant.{Steps, machine_node}
use Rattle.schedule_player.specs.ReplicaMoves.{node_move}
use Rattle.schedule_player.specs.World.{MayWantMemory, bank_with, replica_move}
use Rattle.schedule_text.specs.declared.event.Event.TheVariants.{At}
use Rattle.schedule_player.proofs.Lists.{get_here}
use Rattle.schedule_player.proofs.events.WorldStep.{Stepped, steps, steps_wanted, world_of}
use Rattle.schedule_player.proofs.hands.OutInHands.{stays_staffed}
use Rattle.schedule_player.proofs.world.World.replica_step.Goals as goal

-- the replica is there
here : (c : goal.After-self-2-1) → slice_get c.self.inside.nodes.items c.args.replica ≡ Some c.in-Some.node.now
here c = get_here c.self.inside.nodes.items c.args.replica c.in-Some.node.now c.in-Some.ensures.item.3.0 c.in-Some.ensures.value

-- and moves
moves : (c : goal.After-self-2-1) → let w = c.self.inside in let bank = bank_with w.directory w.opening w.sequencer.synced.log in
    Steps bank c.args.replica c.in-Some.node.now c.step.new.self c.step.result
    (node_move bank w.sequencer.synced c.args.replica (machine_node c.in-Some.node.now) c.args.event)
moves c =
    let w = c.self.inside in
    let within = c.in-Some.ensures.item.3.0 in
    let few = c.self.invariant.few in
    c.step.ensures w.directory w.opening (omega (arith, within, few))
    (c.self.invariant.each c.args.replica c.in-Some.node.now (here c))

-- so does the world
stepped : (c : goal.After-self-2-1) → let w = c.self.inside in let bank = bank_with w.directory w.opening w.sequencer.synced.log in
    Stepped w.directory w.opening w.sequencer w.nodes.items c.args.replica c.step.new.self
    (λ node. node_move bank w.sequencer.synced c.args.replica node c.args.event) c.step.result
stepped c =
    let w = c.self.inside in
    let bank = bank_with w.directory w.opening w.sequencer.synced.log in
    steps w.directory w.opening w.sequencer w.nodes.items c.args.replica c.in-Some.node.now c.step.new.self
    (λ node. node_move bank w.sequencer.synced c.args.replica node c.args.event) c.step.result c.self.invariant (here c)
    (stays_staffed bank w.sequencer.synced c.args.replica (machine_node c.in-Some.node.now) c.args.event) (moves c)

pub invariant_of-self-2 : goal.invariant_of-self-2
invariant_of-self-2 c = (stepped c).is

pub returns-clause-moves : goal.returns-clause-moves
returns-clause-moves c =
    let w = c.self.inside in
    let new = world_of w.directory w.opening w.sequencer (slice_set w.nodes.items c.args.replica c.step.new.self) in
    subst (λ old. IfOk c.step.result (λ n. replica_move old c.args.replica c.args.event ≡ (new, n))) c.self.view_is (stepped c).moves

pub returns-clause-err : goal.returns-clause-err
returns-clause-err c =
    let w = c.self.inside in
    let new = world_of w.directory w.opening w.sequencer (slice_set w.nodes.items c.args.replica c.step.new.self) in
    subst (λ old. OnErr c.step.result (new ≡ old)) c.self.view_is (stepped c).err

pub returns-clause-wanted : goal.returns-clause-wanted
returns-clause-wanted c =
    let w = c.self.inside in
    subst (λ old. OnErr c.step.result (MayWantMemory old (At c.args.replica c.args.event))) c.self.view_is
    (steps_wanted w.directory w.opening w.sequencer w.nodes.items c.args.replica c.in-Some.node.now c.step.new.self c.args.event c.step.result
    (here c) (moves c))

use Rattle.std.proofs.Common.{◌≡◌, subst}
use Rattle.std.specs.Prelude.{slice_set, IfOk, OnErr}
use Rattle.sb_checkpoint.specs.Reading.{stated_reply_count}
use Rattle.schedule_player.specs.ReplicaMoves.{receive_move}
use Rattle.schedule_player.specs.World.{move_at}
use Rattle.schedule_player.proofs.checkpoints.WorldStates.{received}
use Rattle.schedule_player.proofs.events.WorldStep.{Stepped, world_of}
use Rattle.schedule_player.proofs.world.World.send_state.Goals as goal

-- the replica moves, and so the world does
stepped : (c : goal.After-self-1) → let w = c.self.inside in
    Stepped w.directory w.opening w.sequencer w.nodes.items c.args.replica c.receive_state.new.self
    (λ node. receive_move node (stated_reply_count c.args.bytes.items))
    c.receive_state.result
stepped c =
    let w = c.self.inside in
    received w.directory w.opening w.sequencer w.nodes.items c.args.self.now c.args.replica c.index_mut.result.now c.receive_state.new.self c.args.bytes.items
    c.receive_state.result c.self.view_is c.self.invariant c.requires.replica c.index_mut.ensures.value c.requires.state c.receive_state.ensures

pub invariant_of-self : goal.invariant_of-self
invariant_of-self c = (stepped c).is

pub returns-clause-moves : goal.returns-clause-moves
returns-clause-moves c =
    let w = c.self.inside in
    let new = world_of w.directory w.opening w.sequencer (slice_set w.nodes.items c.args.replica c.receive_state.new.self) in
    subst (λ old. IfOk c.receive_state.result (λ n. move_at old c.args.replica (λ node. receive_move node (stated_reply_count c.args.bytes.items)) ≡ (new, n)))
    c.self.view_is (stepped c).moves

pub returns-clause-err : goal.returns-clause-err
returns-clause-err c =
    let w = c.self.inside in
    let new = world_of w.directory w.opening w.sequencer (slice_set w.nodes.items c.args.replica c.receive_state.new.self) in
    subst (λ old. OnErr c.receive_state.result (new ≡ old)) c.self.view_is (stepped c).err

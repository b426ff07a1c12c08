use Rattle.std.proofs.Common.{◌≡◌, map, sym, ap, subst, ◌∙◌}
use Rattle.std.specs.Prelude.{slice_get, Some}
use Rattle.schedule_player.specs.inner.NodeInvariant.{machine_node}
use Rattle.schedule_player.specs.World.{from_move}
use Rattle.schedule_player.specs.inner.WorldInvariant.{IsWorld}
use Rattle.schedule_player.proofs.entries.ReceivedFrames.{hears_told}
use Rattle.schedule_player.proofs.Lists.{get_here}
use Rattle.schedule_player.proofs.events.WorldStep.{world_of}
use Rattle.schedule_player.proofs.world.World.deliver_report.Goals as goal

-- the sequencer hears the frame, and so the world moves
heard : (c : goal.After-receive_report) → let w = c.self.inside in IsWorld w.directory w.opening c.receive_report.new.sequencer.synced w.nodes.items
    × (from_move (world_of w.directory w.opening w.sequencer w.nodes.items) c.args.replica c.args.position (slice_get
    (map machine_node w.nodes.items) c.args.replica)
    ≡ (world_of w.directory w.opening c.receive_report.new.sequencer w.nodes.items, c.receive_report.result))
heard c =
    let w = c.self.inside in
    let found = c.in-Some.ensures.lookup in
    let here : slice_get w.nodes.items c.args.replica ≡ Some c.in-Some.node.now =
    ap (λ xs. slice_get xs c.args.replica) (sym c.deref.ensures.value) ∙ get_here c.deref.result.now c.args.replica c.in-Some.node.now found.3.0 found.1 in
    let sent = c.in-Some-get.ensures in
    let new = c.receive_report.new.sequencer in
    let told =
    hears_told w.directory w.opening w.sequencer.synced w.sequencer.unsynced w.nodes.items c.self.invariant c.args.replica c.args.position
    c.in-Some.node.now sent.0 c.receive_report.result new.synced here sent.1 (c.receive_report.ensures.receives sent.0 sent.2) in (
      told.0,
      told.1
          ∙ (λ j. (
            world_of w.directory w.opening (record { synced = new.synced; unsynced = sym c.receive_report.ensures.unsynced j }) w.nodes.items,
            c.receive_report.result,
          )),
    )

pub invariant_of-self : goal.invariant_of-self
invariant_of-self c = (heard c).0

pub returns : goal.returns
returns c =
    let w = c.self.inside in
    subst (λ old. from_move old c.args.replica c.args.position (slice_get old.nodes c.args.replica)
    ≡ (world_of w.directory w.opening c.receive_report.new.sequencer w.nodes.items, c.receive_report.result)) c.self.view_is (heard c).1

use Rattle.std.proofs.Common.{◌≡◌, inl, inr, length, sym, ap, subst, ◌∙◌, arith}
use Rattle.std.specs.Prelude.{option_map, IfOk}
use Rattle.sb_checkpoint.specs.Reading.{stated_reply_count}
use Rattle.schedule_player.specs.inner.NodeInvariant.{HasState, IsStateOfLog, machine_node}
use Rattle.schedule_player.specs.ReplicaMoves.{receive_move}
use Rattle.schedule_player.specs.World.{bank_of, move_at}
use Rattle.schedule_text.specs.declared.note.Note.TheVariants as note
use Rattle.schedule_player.proofs.checkpoints.WorldStates.{there, counted, has_these, gives, gives_nowhere, gives_nothing}
use Rattle.schedule_player.proofs.events.WorldStep.{on_err}
use Rattle.schedule_player.proofs.boards.Stages.{length-map}
use Rattle.schedule_player.proofs.world.World.give.Goals.{then-donor-len-via-then-donor-len, then-donor-len-via-else-donor-len+then-replica-len}
use Rattle.schedule_player.proofs.world.World.give.Goals as goal

pub send_state-requires-clause-state : goal.send_state-requires-clause-state
send_state-requires-clause-state c =
    let w = c.self.inside in
    let now = c.args.self.now in
    let donor = there now c.args.donor (counted w.directory w.opening w.sequencer w.nodes.items now c.args.donor c.len.result c.self.view_is
    (omega (arith, c.len.ensures)) c.if-donor-len.false) in
    subst (λ world. IsStateOfLog (bank_of world) c.in-Some.bytes.items) (sym c.in_ok-bytes.ensures.same)
    (has_these (λ bytes. bytes.items) (bank_of now) donor.0 c.in_ok-bytes.field-0 c.in-Some.bytes c.in-Some.is
    (c.in_ok-bytes.ensures.has_state donor.0 donor.1)).0

pub returns-clause-moves : goal.returns-clause-moves
returns-clause-moves c =
    let w = c.self.inside in
    let now = c.args.self.now in
    let donor = there now c.args.donor (counted w.directory w.opening w.sequencer w.nodes.items now c.args.donor c.len.result c.self.view_is
    (omega (arith, c.len.ensures)) c.if-donor-len.false) in
    let size = stated_reply_count c.in-Some.bytes.items in
    let has = has_these (λ bytes. bytes.items) (bank_of now) donor.0 c.in_ok-bytes.field-0 c.in-Some.bytes c.in-Some.is
    (c.in_ok-bytes.ensures.has_state donor.0 donor.1) in
    subst (λ moved. IfOk c.send_state.result (λ note. moved ≡ (c.send_state.new.self, note)))
    (ap (λ world. move_at world c.args.replica (λ node. receive_move node size)) c.in_ok-bytes.ensures.same
    ∙ gives now c.args.donor c.args.replica size donor.0 donor.1 has.1 has.2)
    c.send_state.ensures.moves

pub returns-clause-wanted : goal.returns-clause-wanted
returns-clause-wanted c =
    let w = c.self.inside in
    let now = c.args.self.now in
    on_err c.send_state.result (
      counted w.directory w.opening w.sequencer w.nodes.items now c.args.donor c.len.result c.self.view_is (omega (arith, c.len.ensures)) c.if-donor-len.false,
      counted w.directory w.opening w.sequencer w.nodes.items now c.args.replica c.len-else-donor-len.result c.self.view_is
          (omega (arith, c.len-else-donor-len.ensures)) c.if-replica-len.false,
    )

pub returns-in_err-bytes-clause-wanted : goal.returns-in_err-bytes-clause-wanted
returns-in_err-bytes-clause-wanted c =
    let w = c.self.inside in
    let now = c.args.self.now in
    on_err c.from_residual.result (
      counted w.directory w.opening w.sequencer w.nodes.items now c.args.donor c.len.result c.self.view_is (omega (arith, c.len.ensures)) c.if-donor-len.false,
      counted w.directory w.opening w.sequencer w.nodes.items now c.args.replica c.len-else-donor-len.result c.self.view_is
          (omega (arith, c.len-else-donor-len.ensures)) c.if-replica-len.false,
    )

pub returns-then-donor-len-clause-moves : goal.returns-then-donor-len-clause-moves
returns-then-donor-len-clause-moves c =
    let now = c.args.self.now in
    let size = ap (λ w. length w.nodes) c.self.view_is in
    let many = length-map machine_node c.self.inside.nodes.items in
    elim c.then-donor-len.branch [
      | then-donor-len-via-then-donor-len w ↦
          gives_nowhere now c.args.donor c.args.replica (inl (omega (arith, size, many, c.len.ensures, w.if-donor-len.true)))
      | then-donor-len-via-else-donor-len+then-replica-len w ↦
          gives_nowhere now c.args.donor c.args.replica (inr (omega (arith, size, many, w.len-else-donor-len.ensures, w.if-replica-len.true)))
    ]

pub returns-in_default-clause-moves : goal.returns-in_default-clause-moves
returns-in_default-clause-moves c =
    let w = c.self.inside in
    let now = c.args.self.now in
    let donor = there now c.args.donor (counted w.directory w.opening w.sequencer w.nodes.items now c.args.donor c.len.result c.self.view_is
    (omega (arith, c.len.ensures)) c.if-donor-len.false) in
    gives_nothing now c.args.donor c.args.replica donor.0 donor.1
    (subst (λ state. HasState (bank_of now) donor.0 (option_map (λ bytes. bytes.items) state)) c.in_default.is
    (c.in_ok-bytes.ensures.has_state donor.0 donor.1))
    ∙ ap (λ world. (world, note.Nothing)) (sym c.in_ok-bytes.ensures.same)

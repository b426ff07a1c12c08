use Rattle.std.proofs.Common.{sym, ap, ◌∙◌, arith}
use Rattle.schedule_player.specs.World.{audit_if, bank_of}
use Rattle.schedule_text.specs.declared.note.Note.TheVariants as note
use Rattle.schedule_player.proofs.checkpoints.WorldStates.{there, counted}
use Rattle.schedule_player.proofs.world.World.compare.Goals as goal

pub returns-clause-moves : goal.returns-clause-moves
returns-clause-moves c =
    let w = c.self.inside in
    let now = c.args.self.now in
    let first = there now c.args.first (counted w.directory w.opening w.sequencer w.nodes.items now c.args.first c.len.result c.self.view_is
    (omega (arith, c.len.ensures)) c.if-first-len.false) in
    let second = there now c.args.second (counted w.directory w.opening w.sequencer w.nodes.items now c.args.second c.len-else-first-len.result c.self.view_is
    (omega (arith, c.len-else-first-len.ensures)) c.if-second-len.false) in
    (λ j. (now, audit_if (bank_of now) c.args.first c.args.second (first.1 j) (second.1 j)))
    ∙ ap (λ found. (now, note.Audit found)) (sym (c.in_ok-audit.ensures.value first.0 second.0 first.1 second.1))

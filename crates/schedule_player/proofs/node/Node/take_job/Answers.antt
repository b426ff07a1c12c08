use Rattle.std.proofs.Common.{Some, refl, sym, subst}
use Rattle.std.specs.Vec.{with_item}
use Rattle.schedule_player.specs.inner.NodeInvariant.{MovesTo, machine_node}
use Rattle.schedule_player.specs.ReplicaMoves.{take_move}
use Rattle.schedule_text.specs.declared.note.Note.TheVariants as note
use Rattle.schedule_player.proofs.Lists.{none_here}
use Rattle.schedule_player.proofs.NodeMoves.{takes_nothing, takes_job}
use Rattle.schedule_player.proofs.node.Node.take_job.Goals as goal

pub returns-in_default-take_at : goal.returns-in_default-take_at
returns-in_default-take_at c bank r is =
    takes_nothing bank r c.args.self.now (record c.args.self.now { replica = c.take_at.new.self }) c.args.worker c.in-Some.hand c.args.index is
    c.in-Some.ensures.0
    (none_here c.args.self.now.hands.items c.in-Some.hand c.index.result.now c.in-Some.ensures.1 c.index.ensures c.if-is_some.ensures)
    (record { beside = c.in_default-take_at.ensures.rest; inbound = refl; outbound = refl; states = refl }) refl
    c.in_default-take_at.ensures.made.0 c.in_default-take_at.ensures.made.1

pub returns : goal.returns
returns c bank r is =
    let old = c.args.self.now in
    let new = record old { replica = c.take_at.new.self; hands = with_item old.hands c.in-Some.hand (Some c.in-Some-take_at.job) } in
    subst (λ n. MovesTo bank r new (note.Took n) (take_move bank (machine_node old) c.args.worker c.args.index)) (sym c.number-number.ensures)
    (takes_job bank r old new c.args.worker c.in-Some.hand c.args.index c.in-Some-take_at.job is
    c.in-Some.ensures.0
    (none_here old.hands.items c.in-Some.hand c.index.result.now c.in-Some.ensures.1 c.index.ensures c.if-is_some.ensures)
    (record { beside = c.in-Some-take_at.ensures.rest; inbound = refl; outbound = refl; states = refl }) refl
    c.in-Some-take_at.ensures.made)

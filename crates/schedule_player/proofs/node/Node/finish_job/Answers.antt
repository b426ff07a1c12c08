use Rattle.std.proofs.Common.{Some, refl, sym, ap, subst, ◌∙◌}
use Rattle.std.specs.List.{slice_set}
use Rattle.std.specs.Vec.{with_item}
use Rattle.schedule_player.specs.inner.NodeInvariant.{MovesTo, machine_node}
use Rattle.schedule_player.specs.ReplicaMoves.{finish_move}
use Rattle.schedule_text.specs.declared.note.Note.TheVariants as note
use Rattle.schedule_player.proofs.hands.FinishSteps.{finishes_nothing, finishes_stranger, finishes_done}
use Rattle.schedule_player.proofs.Lists.{get_here}
use Rattle.schedule_player.proofs.node.Node.finish_job.Goals as goal

pub returns-in_default-take : goal.returns-in_default-take
returns-in_default-take c bank r is =
    let old = c.args.self.now in
    let new = record old { hands = with_item old.hands c.in-Some.hand c.take.new.self } in
    finishes_nothing bank r old new c.args.worker c.in-Some.hand is c.in-Some.ensures.0
    (get_here old.hands.items c.in-Some.hand c.index_mut.result.now c.in-Some.ensures.1 c.index_mut.ensures.value
    ∙ ap (λ x. Some x) (sym c.take.ensures.value ∙ c.in_default-take.is))
    refl (record { beside = refl; inbound = refl; outbound = refl; states = refl })
    (ap (λ x. slice_set old.hands.items c.in-Some.hand x) c.take.ensures.after)

pub returns-in_default-finish : goal.returns-in_default-finish
returns-in_default-finish c bank r is =
    let old = c.args.self.now in
    let new = record old { replica = c.finish.new.self; hands = with_item old.hands c.in-Some.hand c.take.new.self } in
    subst (λ n. MovesTo bank r new (note.Stranger n) (finish_move bank (machine_node old) c.args.worker)) (sym c.number-number.ensures)
    (finishes_stranger bank r old new c.args.worker c.in-Some.hand c.in-Some-take.job c.run.result is c.in-Some.ensures.0
    (get_here old.hands.items c.in-Some.hand c.index_mut.result.now c.in-Some.ensures.1 c.index_mut.ensures.value
    ∙ ap (λ x. Some x) (sym c.take.ensures.value ∙ c.in-Some-take.is))
    (record { number = c.run.ensures.job.0; behaviour = c.run.ensures.job.1; inputs = c.run.ensures.job.2 })
    c.in_default-finish.ensures.made.0
    c.in_default-finish.ensures.made.2
    (record { beside = c.in_default-finish.ensures.rest; inbound = refl; outbound = refl; states = refl })
    (ap (λ x. slice_set old.hands.items c.in-Some.hand x) c.take.ensures.after))

pub returns : goal.returns
returns c bank r is =
    let old = c.args.self.now in
    let new = record old { replica = c.finish.new.self; hands = with_item old.hands c.in-Some.hand c.take.new.self } in
    subst (λ n. MovesTo bank r new (note.Finished n c.in-Ok.reply) (finish_move bank (machine_node old) c.args.worker)) (sym c.number-number.ensures)
    (finishes_done bank r old new c.args.worker c.in-Some.hand c.in-Some-take.job c.run.result c.in-Ok.reply is c.in-Some.ensures.0
    (get_here old.hands.items c.in-Some.hand c.index_mut.result.now c.in-Some.ensures.1 c.index_mut.ensures.value
    ∙ ap (λ x. Some x) (sym c.take.ensures.value ∙ c.in-Some-take.is))
    (record { number = c.run.ensures.job.0; behaviour = c.run.ensures.job.1; inputs = c.run.ensures.job.2 })
    c.in-Ok.ensures.made
    (record { beside = c.in-Ok.ensures.rest; inbound = refl; outbound = refl; states = refl })
    (ap (λ x. slice_set old.hands.items c.in-Some.hand x) c.take.ensures.after))

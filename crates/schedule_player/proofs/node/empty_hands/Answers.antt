use Rattle.std.proofs.Common.{None, ◌∷◌, ◌++◌, [], ap, ◌∙◌, arith}
use Rattle.std.proofs.lemmas.List.{replicate_more}
use Rattle.schedule_player.proofs.node.empty_hands.Goals as goal

pub loop-preserved : goal.loop-preserved
loop-preserved c = record {
  empty = c.push_reserved.ensures.items ∙ ap (λ hands. hands ++ None ∷ []) c.loop.invariant.empty ∙ replicate_more c.loop.counter None;
  room = let room = c.loop.invariant.room in let same = c.push_reserved.ensures.capacity in omega (arith, room, same);
}

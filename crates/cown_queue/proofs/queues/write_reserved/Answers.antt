use Rattle.std.proofs.Common.{[], ◌∷◌, ◌++◌, take, sym, ap, ◌∙◌, arith}
use Rattle.std.proofs.lemmas.List.{take_all, take_more}
use Rattle.cown_queue.proofs.queues.write_reserved.Goals as goal

pub push_reserved-requires : goal.push_reserved-requires
push_reserved-requires c =
    omega (arith, c.loop-cown.invariant.count, c.loop-cown.invariant.room, c.loop-cown-test.true)

pub loop-cown-preserved : goal.loop-cown-preserved
loop-cown-preserved c =
    let before = c.loop-cown.invariant in
    let pushed = c.push_reserved.ensures in
    let more = take_more c.args.cowns.now c.loop-cown.cown-index c.cown-item.result c.loop-cown-test.true in
    record {
      written = pushed.items ∙ ap (λ xs. xs ++ c.cown-item.result ∷ []) before.written
          ∙ ap (λ cown. take c.loop-cown.cown-index c.args.cowns.now ++ cown ∷ []) c.cown-item.is ∙ sym more;
      count = omega (arith, pushed.len, before.count);
      room = omega (arith, pushed.capacity, before.room);
    }

pub returns : goal.returns
returns c = c.loop-cown.invariant.written ∙ take_all c.loop-cown.cown-index c.args.cowns.now c.loop-cown-test.false

use Rattle.std.proofs.Common.{ℕ, ◌+◌, ◌<◌, List, [], ◌∷◌, ◌++◌, length, drop, ap, ◌∙◌, arith}
use Rattle.std.proofs.lemmas.List.{length-set}
use Rattle.cown_queue.proofs.ListChanges.{changed, changed_more, AreBelow-at, Appends-changed}
use Rattle.cown_queue.proofs.queues.push_each.Goals as goal

pub push-requires-clause-cown : goal.push-requires-clause-cown
push-requires-clause-cown c =
    let below = AreBelow-at _ c.args.cowns.now c.loop-cown.cown-index c.cown-item.result c.requires.cowns (omega arith) c.cown-item.is in
    omega (arith, below)

pub loop-cown-preserved : goal.loop-cown-preserved
loop-cown-preserved c =
    let add : List ℕ → List ℕ = λ list. list ++ c.args.number ∷ [] in
    let before = c.loop-cown.invariant in
    let within : c.loop-cown.cown-index < length c.args.cowns.now = omega arith in
    record {
      lists = ap (changed add (drop (c.loop-cown.cown-index + 1) c.args.cowns.now)) c.push.ensures.lists
          ∙ changed_more add c.args.cowns.now c.loop-cown.cown-index c.cown-item.result _ _ within c.cown-item.is before.lists;
      cown_count = ap length c.push.ensures.lists ∙ length-set _ _ _ ∙ before.cown_count;
      free = omega arith;
      places = c.push.ensures.places ∙ before.places;
    }

pub returns-clause-lists : goal.returns-clause-lists
returns-clause-lists c =
    Appends-changed c.args.number c.args.cowns.now c.loop-cown.cown-index _ _ c.requires.rising (omega arith) c.loop-cown.invariant.lists

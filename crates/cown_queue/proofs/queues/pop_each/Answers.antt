use Rattle.std.proofs.Common.{ℕ, ◌+◌, ◌<◌, List, length, drop, refl, sym, ap, ◌∙◌, subst, arith, eq-eqb}
use Rattle.std.proofs.lemmas.Bool.{or_left}
use Rattle.sb_calls.specs.Cowns.{IsRising}
use Rattle.sb_calls.specs.SerialRun.{is_among}
use Rattle.cown_queue.proofs.ListChanges.{changed, changed_more, drop-cown, held-rest, IsRising-rest, Releases-changed}
use Rattle.cown_queue.specs.Queues.{list_of}
use Rattle.cown_queue.proofs.queues.pop_each.Goals as goal

pub pop-requires : goal.pop-requires
pop-requires c =
    let cown = c.cown-item.result in
    let within : c.loop-cown.cown-index < length c.args.cowns.now = omega arith in
    let left = drop-cown c.args.cowns.now c.loop-cown.cown-index cown within c.cown-item.is in
    c.loop-cown.invariant.held cown
    (ap (is_among cown) left ∙ or_left _ (is_among cown (drop (c.loop-cown.cown-index + 1) c.args.cowns.now)) (eq-eqb cown cown refl))

pub loop-cown-preserved : goal.loop-cown-preserved
loop-cown-preserved c =
    let before = c.loop-cown.invariant in
    let cown = c.cown-item.result in
    let rest = drop (c.loop-cown.cown-index + 1) c.args.cowns.now in
    let within : c.loop-cown.cown-index < length c.args.cowns.now = omega arith in
    let left = drop-cown c.args.cowns.now c.loop-cown.cown-index cown within c.cown-item.is in
    let rising = subst IsRising left before.rising in
    record {
      lists = ap (changed (drop 1) rest) c.pop.ensures.lists
          ∙ changed_more (drop 1) c.args.cowns.now c.loop-cown.cown-index cown _ _ within c.cown-item.is before.lists;
      rising = IsRising-rest cown rest rising;
      held = λ other among.
          subst (λ (lists : List (List ℕ)). 0 < length (list_of lists other)) (sym c.pop.ensures.lists)
          (held-rest cown rest c.loop-cown.tickets.lists (drop 1 (list_of c.loop-cown.tickets.lists cown)) rising
          (λ each at. before.held each (ap (is_among each) left ∙ at)) other among);
      free = omega arith;
      places = c.pop.ensures.places ∙ before.places;
    }

pub returns-clause-lists : goal.returns-clause-lists
returns-clause-lists c = Releases-changed c.args.cowns.now c.loop-cown.cown-index _ _ c.requires.rising (omega arith) c.loop-cown.invariant.lists

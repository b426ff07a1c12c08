use Rattle.std.proofs.Common.{ℕ, ◌+◌, ◌<◌, ◌≤◌, List, [], ◌∷◌, ◌++◌, length, take, arith}
use Rattle.sb_calls.specs.Cowns.{AreBelow, IsRising}
use Rattle.cown_queue.proofs.ListChanges.{take-cown}
use Rattle.running_tests.proofs.queues.may_declare.Goals as goal

-- one more cown below a bound
AreBelow-push : (bound : ℕ) (cowns : List ℕ) (cown : ℕ) → AreBelow bound cowns → cown < bound → AreBelow bound (cowns ++ cown ∷ [])
AreBelow-push bound [] cown below l = (l, tt)
AreBelow-push bound (first ∷ cowns) cown below l = (below.0, AreBelow-push bound cowns cown below.1 l)

-- what is below a bound is below a greater one
AreBelow-more : (low high : ℕ) (cowns : List ℕ) → low ≤ high → AreBelow low cowns → AreBelow high cowns
AreBelow-more low high [] l below = tt
AreBelow-more low high (cown ∷ cowns) l below = (omega (arith, below.0), AreBelow-more low high cowns l below.1)

-- a cown above all others comes last
IsRising-push : (cowns : List ℕ) (cown : ℕ) → IsRising cowns → AreBelow cown cowns → IsRising (cowns ++ cown ∷ [])
IsRising-push [] cown rising below = tt
IsRising-push (first ∷ []) cown rising below = (below.0, tt)
IsRising-push (first ∷ second ∷ more) cown rising below = (rising.0, IsRising-push (second ∷ more) cown rising.1 below.1)

pub loop-cown-preserved : goal.loop-cown-preserved
loop-cown-preserved c =
    let before = c.loop-cown.invariant in
    let cown = c.cown-item.result in
    let within : c.loop-cown.cown-index < length c.args.cowns.now = omega arith in
    let more = take-cown c.args.cowns.now c.loop-cown.cown-index cown within c.cown-item.is in
    let done : List ℕ = take c.loop-cown.cown-index c.args.cowns.now in
    let earlier = AreBelow-more c.loop-cown.least cown done (omega arith) before.earlier in
    record {
      below = rw more (AreBelow-push c.args.bound done cown before.below (omega arith));
      rising = rw more (IsRising-push done cown before.rising earlier);
      earlier = rw more
          (AreBelow-push (c.id-id.result + 1) done cown (AreBelow-more c.loop-cown.least _ done (omega arith) before.earlier)
          (omega arith));
    }

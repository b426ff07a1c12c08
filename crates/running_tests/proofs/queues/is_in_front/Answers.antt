use Rattle.std.proofs.Common.{◌≡◌, ℕ, ◌<◌, Some, List, [], ◌∷◌, ◌++◌, length, take, sym, ap, ◌∙◌, arith}
use Rattle.cown_queue.specs.Queues.{front_of, IsInFront}
use Rattle.cown_queue.proofs.ListChanges.{take-cown}
use Rattle.running_tests.proofs.queues.is_in_front.Goals as goal

-- one more cown at which the number is in front
IsInFront-push : (number : ℕ) (cowns : List ℕ) (cown : ℕ) (lists : List (List ℕ)) → IsInFront number cowns lists
    → front_of lists cown ≡ Some number → IsInFront number (cowns ++ cown ∷ []) lists
IsInFront-push number [] cown lists front e = (e, tt)
IsInFront-push number (first ∷ cowns) cown lists front e = (front.0, IsInFront-push number cowns cown lists front.1 e)

pub loop-cown-preserved : goal.loop-cown-preserved
loop-cown-preserved c =
    let within : c.loop-cown.cown-index < length c.args.cowns.now = omega arith in
    rw (take-cown c.args.cowns.now c.loop-cown.cown-index c.cown-item.result within c.cown-item.is)
    (IsInFront-push c.args.number (take c.loop-cown.cown-index c.args.cowns.now) c.cown-item.result c.args.queues.now.lists c.loop-cown.invariant
    (sym c.in-Some.ensures ∙ ap Some c.if-front-number.true))

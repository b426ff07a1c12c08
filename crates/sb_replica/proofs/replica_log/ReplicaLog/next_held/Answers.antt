use Rattle.std.proofs.Common.{◌≡◌, ◌<◌, Some, IfSome, get_or, length, sym, ap, subst, ◌∙◌}
use Rattle.std.specs.Prelude.{option_and_then, slice_get}
use Rattle.sb_calls.specs.Op.{IsOpWithin}
use Rattle.sb_calls.specs.declared.call.TheConstants.{LOG_CALLS}
use Rattle.cown_board.specs.Board.{length_of}
use Rattle.sb_replica.specs.Log.{LogOf, next_held}
use Rattle.sb_replica.proofs.LogInvariant.{keeps_next}
use Rattle.sb_replica.proofs.LogView.{seen, seen_next}
use Rattle.sb_replica.proofs.replica_log.ReplicaLog.next_held.Goals as goal

-- what was read is the first that callers see
first_is : (c : goal.After-index-self-slot_of)
    → slice_get (seen c.self.inside.board c.self.inside.held).held 0 ≡ Some (get_or c.self.inside.held c.slot_of.result c.index-self-slot_of.result)
first_is c =
    seen_next c.self.inside.board c.self.inside.held c.self.invariant c.length-next.result c.slot_of.result c.index-self-slot_of.result
    c.length-next.ensures.value c.slot_of.ensures

pub returns-clause-value : goal.returns-clause-value
returns-clause-value c = sym (ap (option_and_then (λ held. held)) (first_is c)) ∙ ap next_held c.self.view_is

pub returns-clause-within : goal.returns-clause-within
returns-clause-within c =
    let item = get_or c.self.inside.held c.slot_of.result c.index-self-slot_of.result in
    subst (λ (log : LogOf). IfSome item (IsOpWithin (length log.board.opening.savings))) c.self.view_is
    (keeps_next (seen c.self.inside.board c.self.inside.held) c.self.invariant item (first_is c)).0

pub returns-clause-has_room : goal.returns-clause-has_room
returns-clause-has_room c =
    let item = get_or c.self.inside.held c.slot_of.result c.index-self-slot_of.result in
    subst (λ (log : LogOf). IfSome item (λ op. length_of log.board < LOG_CALLS)) c.self.view_is
    (keeps_next (seen c.self.inside.board c.self.inside.held) c.self.invariant item (first_is c)).1

use Rattle.std.proofs.Common.{Some, None, subst}
use Rattle.std.specs.Prelude.{option_map}
use Rattle.sb_replica.specs.States.{ReadsState}
use Rattle.schedule_player.proofs.checkpoints.StateMoves.{has_state}
use Rattle.schedule_player.proofs.checkpoints.CheckpointSteps.{Does}
use Rattle.schedule_player.proofs.node.Node.state_to_give.Goals as goal

pub returns-in-Ok-Some-clause-has_state : goal.returns-in-Ok-Some-clause-has_state
returns-in-Ok-Some-clause-has_state c bank r is =
    has_state bank r c.args.self.now c.kept_state.new.self (Some (c.in-Ok-Some.field-0-0-0, c.in-Ok-Some.bytes.items)) is
    (subst (λ state. ReadsState Does c.args.self.now.replica (option_map (λ stored. (stored.0, stored.1.items)) state) c.kept_state.new.self)
    c.in-Ok-Some.field-0-is c.in-Ok-Some.ensures.ok)

pub returns-in-Ok-None-clause-has_state : goal.returns-in-Ok-None-clause-has_state
returns-in-Ok-None-clause-has_state c bank r is =
    has_state bank r c.args.self.now c.kept_state.new.self None is
    (subst (λ state. ReadsState Does c.args.self.now.replica (option_map (λ stored. (stored.0, stored.1.items)) state) c.kept_state.new.self)
    c.in-Ok-None.field-0-is c.in-Ok-None.ensures.ok)

use Rattle.std.proofs.Common.{refl}
use Rattle.sb_calls.proofs.EffectIsProcedure.{effect_performs}
use Rattle.sb_calls.specs.Op.{op_of}
use Rattle.sb_calls.proofs.laws.effects_by_procedure.Goals as goal

pub returns : goal.returns
returns c directory b call same = effect_performs directory b call (op_of directory call) same refl

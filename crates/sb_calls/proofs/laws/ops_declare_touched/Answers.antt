use Rattle.std.proofs.Common.{refl}
use Rattle.sb_calls.proofs.DeclaredTouches.{declares_touched}
use Rattle.sb_calls.specs.Op.{op_of}
use Rattle.sb_calls.proofs.laws.ops_declare_touched.Goals as goal

pub returns : goal.returns
returns c directory b call same = declares_touched directory b call (op_of directory call) same refl

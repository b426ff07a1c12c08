use Rattle.std.proofs.Common.{arith}
use Rattle.schedule_text.proofs.OpeningFaults.{fault_within}
use Rattle.schedule_text.proofs.reading.read_below.Goals as goal

pub overflow_add-result : goal.overflow_add-result
overflow_add-result c =
    let within = fault_within c.args.text.now c.in-Err-Line.line c.in-Err-Line.fault (rw c.in-Err-Line.field-0-is at c.in-Err-Line.ensures.exact) in
    omega (arith, within)

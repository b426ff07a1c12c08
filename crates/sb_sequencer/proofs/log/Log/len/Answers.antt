use Rattle.std.proofs.Common.{arith}
use Rattle.sb_sequencer.proofs.LogColumns.{columns}
use Rattle.sb_sequencer.proofs.log.Log.len.Goals as goal

pub returns : goal.returns
returns c =
    let s = c.self.inside in
    let is = columns s.keys.keys s.calls.items c.args.self.now c.self.view_is c.self.invariant in
    omega (arith, c.len.ensures, is.calls_count, s.calls.ok.0)

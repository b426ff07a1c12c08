use Rattle.std.proofs.Common.{sym}
use Rattle.sb_sequencer.proofs.LogColumns.{columns}
use Rattle.sb_sequencer.proofs.log.Log.into_calls.Goals as goal

pub returns : goal.returns
returns c =
    let s = c.self.inside in
    sym (columns s.keys.keys s.calls.items c.args.self c.self.view_is c.self.invariant).calls_are

use Rattle.std.proofs.Common.{sym, ◌∙◌}
use Rattle.sb_sequencer.proofs.LogColumns.{columns}
use Rattle.sb_sequencer.proofs.log.Log.calls.Goals as goal

pub returns : goal.returns
returns c =
    let s = c.self.inside in
    c.as_slice.ensures.value ∙ sym (columns s.keys.keys s.calls.items c.args.self.now c.self.view_is c.self.invariant).calls_are

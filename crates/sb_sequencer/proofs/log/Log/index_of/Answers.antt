use Rattle.std.proofs.Common.{ℕ, ◌<◌, IfSome, position, ap, sym, subst, ◌∙◌}
use Rattle.sb_sequencer.specs.Numbering.{same_key}
use Rattle.sb_sequencer.proofs.Keys.{place_of_key-keys}
use Rattle.sb_sequencer.proofs.LogColumns.{columns}
use Rattle.sb_sequencer.proofs.log.Log.index_of.Goals as goal

pub returns-clause-value : goal.returns-clause-value
returns-clause-value c =
    let s = c.self.inside in
    let is = columns s.keys.keys s.calls.items c.args.self.now c.self.view_is c.self.invariant in
    c.get_index_of.ensures.index ∙ ap (position (same_key c.args.key.now)) (sym is.keys_are) ∙ place_of_key-keys c.args.self.now c.args.key.now

pub returns-clause-within : goal.returns-clause-within
returns-clause-within c =
    let s = c.self.inside in
    let is = columns s.keys.keys s.calls.items c.args.self.now c.self.view_is c.self.invariant in
    subst (λ (count : ℕ). IfSome c.get_index_of.result (λ index. index < count)) is.keys_count c.get_index_of.ensures.within

use Rattle.std.proofs.Common.{◌≡◌, ◌<◌, Some, length, slice_get, refl, ap, sym, ◌∙◌, arith}
use Rattle.std.proofs.lemmas.Option.{slice_get_read}
use Rattle.sb_sequencer.proofs.Keys.{entry_from_value}
use Rattle.sb_sequencer.proofs.LogColumns.{columns}
use Rattle.sb_sequencer.proofs.log.Log.find.Goals as goal

pub index-requires : goal.index-requires
index-requires c =
    let s = c.self.inside in
    let is = columns s.keys.keys s.calls.items c.args.self.now c.self.view_is c.self.invariant in
    omega (arith, c.in_ok-index.ensures.within, is.calls_count, s.calls.ok.0)

pub returns-clause-entry : goal.returns-clause-entry
returns-clause-entry c =
    let log = c.args.self.now in
    let s = c.self.inside in
    let index = c.in_ok-index.index in
    let is = columns s.keys.keys s.calls.items log c.self.view_is c.self.invariant in
    let within : index < length s.calls.items = omega (arith, c.in_ok-index.ensures.within, is.calls_count) in
    let call : slice_get s.calls.items index ≡ Some c.index.result.now =
    slice_get_read s.calls.items (length s.calls.items) index c.index.result.now refl within c.index.ensures in
    entry_from_value log c.args.key.now c.index.result.now index (sym c.in_ok-index.ensures.value) (ap (λ calls. slice_get calls index) is.calls_are ∙ call)

use Rattle.std.proofs.Common.{slice_get, ap, sym, ◌∙◌, arith}
use Rattle.std.specs.Option.{option_copied}
use Rattle.std.proofs.lemmas.Option.{slice_get-map}
use Rattle.sb_sequencer.proofs.LogColumns.{columns, key_within, none_at, some_at}
use Rattle.sb_sequencer.proofs.log.Log.keyed_call.Goals as goal

pub returns-in_default : goal.returns-in_default
returns-in_default c = none_at (slice_get c.args.self.now c.args.index) c.in_default.ensures

pub unwrap-key-requires : goal.unwrap-key-requires
unwrap-key-requires c =
    let s = c.self.inside in
    let is = columns s.keys.keys s.calls.items c.args.self.now c.self.view_is c.self.invariant in
    c.get_index.ensures.found.1 (omega (arith, is.keys_count, key_within c.args.self.now c.args.index c.in-Some.call.now c.in-Some.ensures))

pub returns : goal.returns
returns c =
    let s = c.self.inside in
    let log = c.args.self.now in
    let is = columns s.keys.keys s.calls.items log c.self.view_is c.self.invariant in
    some_at (slice_get log c.args.index) c.unwrap-key.result.now c.in-Some.call.now
    (ap option_copied (sym c.unwrap-key.ensures) ∙ c.get_index.ensures.key ∙ ap (λ keys. slice_get keys c.args.index) (sym is.keys_are)
    ∙ slice_get-map (λ entry. entry.0) log c.args.index)
    c.in-Some.ensures

use Rattle.std.proofs.Common.{◌≡◌, ℕ, nat_lt, Option, Some, None, is_some, IfSome, List, length, slice_get, get_or, Bor, refl, ap, sym, ◌∙◌}
use Rattle.std.specs.Option.{option_copied}
use Rattle.std.proofs.lemmas.Bool.{ltb-true, ltb-false}
use Rattle.std.proofs.lemmas.Option.{slice_get-map, slice_get_past, slice_get_read}
use Rattle.sb_calls.specs.declared.call.Call.{Call}
use Rattle.sb_sequencer.proofs.LogColumns.{columns}
use Rattle.sb_sequencer.proofs.log.Log.get.Goals as goal

-- what is read at an index
read_at : (calls : List Call) (index : ℕ) (found : Option (Bor Call)) → is_some found ≡ nat_lt index (length calls)
    → IfSome found (λ call. call.now ≡ get_or calls index call.now) → option_copied found ≡ slice_get calls index
read_at calls index None past at = sym (slice_get_past calls index (ltb-false index (length calls) (sym past)))
read_at calls index (Some call) within at = sym (slice_get_read calls (length calls) index call.now refl (ltb-true index (length calls) (sym within)) at)

pub returns : goal.returns
returns c =
    let log = c.args.self.now in
    let s = c.self.inside in
    let is = columns s.keys.keys s.calls.items log c.self.view_is c.self.invariant in
    let lookup = c.get.ensures.lookup in
    read_at c.as_slice.result.now c.args.index c.get.result lookup.0 lookup.1
    ∙ ap (λ calls. slice_get calls c.args.index) (c.as_slice.ensures.value ∙ sym is.calls_are)
    ∙ slice_get-map (λ entry. entry.1) log c.args.index

use Rattle.std.proofs.Common.{◌+◌, List, sym, ap, ◌∙◌}
use Rattle.std.proofs.lemmas.List.{drop-drop}
use Rattle.sb_calls.specs.declared.call.Call.{Call}
use Rattle.ask_client.specs.Batches.{BatchOf, after_outcomes}
use Rattle.ask_client.proofs.batch.Batch.pop_first.Goals as goal

pub returns : goal.returns
returns c =
    let inside = c.self.inside in
    let with_calls : List Call → BatchOf = λ calls. record { client = inside.client; first = inside.first + 1; calls = calls } in
    ap with_calls (sym (drop-drop 1 inside.told inside.calls.items)) ∙ ap (after_outcomes 1) c.self.view_is

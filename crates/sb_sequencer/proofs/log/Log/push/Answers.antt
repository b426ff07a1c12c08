use Rattle.std.proofs.Common.{◌≡◌, [], ◌∷◌, ◌++◌, List, length, ap, ◌∙◌, arith, rules}
use Rattle.std.specs.List.{zip}
use Rattle.std.specs.Result.{is_ok, IsOk}
use Rattle.std.proofs.lemmas.Bool.{cond-true}
use Rattle.std.proofs.lemmas.List.{length_push}
use Rattle.sb_calls.specs.declared.call.Call.{Call}
use Rattle.sb_sequencer.proofs.LogColumns.{columns, insert_key-last, zip-push}
use Rattle.sb_sequencer.proofs.log.Log.push.Goals as goal

-- the call's room was made before, so it is appended
appended : (c : goal.After-extend_from_slice) → c.extend_from_slice.new.self.items ≡ c.self.inside.calls.items ++ c.args.call.now ∷ []
appended c =
    let fits : IsOk c.extend_from_slice.result = c.extend_from_slice.ensures.succeeds (omega (arith, c.in_ok-reserve.ensures.ok, c.from_ref.ensures.len)) in
    c.extend_from_slice.ensures.items
    ∙ cond-true (is_ok c.extend_from_slice.result) (c.reserve.new.self.items ++ c.from_ref.result.now) c.reserve.new.self.items fits
    ∙ ap (λ (items : List Call). items ++ c.from_ref.result.now) c.reserve.ensures.items
    ∙ ap (λ (call : List Call). c.self.inside.calls.items ++ call) c.from_ref.ensures.value

pub invariant_of-self-2 : goal.invariant_of-self-2
invariant_of-self-2 c =
    let s = c.self.inside in
    let is = columns s.keys.keys s.calls.items c.args.self.now c.self.view_is c.self.invariant in
    let keys = c.in_ok-insert.ensures.keys ∙ insert_key-last s.keys.keys c.args.self.now c.args.key is.keys_are c.requires in
    omega (arith, ap length keys, ap length (appended c), length_push s.keys.keys c.args.key, length_push s.calls.items c.args.call.now, c.self.invariant)

pub returns-clause-pushed : goal.returns-clause-pushed
returns-clause-pushed c =
    let s = c.self.inside in
    let is = columns s.keys.keys s.calls.items c.args.self.now c.self.view_is c.self.invariant in
    let keys = c.in_ok-insert.ensures.keys ∙ insert_key-last s.keys.keys c.args.self.now c.args.key is.keys_are c.requires in
    let log : zip c.insert.new.self.keys c.extend_from_slice.new.self.items ≡ c.args.self.now ++ (c.args.key, c.args.call.now) ∷ [] =
    (λ j. zip (keys j) (appended c j))
    ∙ zip-push s.keys.keys s.calls.items c.args.key c.args.call.now c.self.invariant
    ∙ ap (λ log. log ++ (c.args.key, c.args.call.now) ∷ []) c.self.view_is in
    search rules

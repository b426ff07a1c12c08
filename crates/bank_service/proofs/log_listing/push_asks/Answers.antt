use Rattle.std.proofs.Common.{◌≡◌, ℕ, ◌+◌, ◌<◌, Some, List, [], ◌∷◌, ◌++◌, length, take, sym, ap, subst, ◌∙◌, arith, add-one, append_assoc}
use Rattle.std.specs.Prelude.{slice_get}
use Rattle.std.proofs.lemmas.List.{flat_map_more, map-append, take_more}
use Rattle.std.proofs.lemmas.Option.{get_or_from_slice_get}
use Rattle.sb_rows.specs.Text.{unlines}
use Rattle.sb_calls.specs.Ask.{ask_line}
use Rattle.sb_calls.specs.declared.ask.Key.{Key}
use Rattle.sb_calls.specs.declared.call.Call.{Call}
use Rattle.sb_sequencer.specs.Numbering.{ask_of_number}
use Rattle.bank_service.specs.LogListing.{ask_lines_of}
use Rattle.bank_service.proofs.log_listing.push_asks.Goals as goal

-- one more line
one_listed : (log : List (Key × Call)) (before : ℕ) (start out longer : List ℕ) (ask : Key × Call) → before < length log → ask_of_number log
    (before + 1) ≡ Some ask
    → out ≡ start ++ unlines (ask_lines_of (take before log)) → longer ≡ (out ++ ask_line (record { key = Some ask.0; call = ask.1 })) ++ 10 ∷ []
    → longer ≡ start ++ unlines (ask_lines_of (take (before + 1) log))
one_listed log before start out longer ask lt is so_far grown =
    let there : slice_get log before ≡ Some ask = subst (λ (n : ℕ). ask_of_number log n ≡ Some ask) (add-one before) is in
    let next : take (before + 1) log ≡ take before log ++ ask ∷ [] =
    take_more log before ask lt ∙ ap (λ (a : Key × Call). take before log ++ a ∷ []) (get_or_from_slice_get log before ask ask there) in
    let line : List ℕ = ask_line (record { key = Some ask.0; call = ask.1 }) in
    let here : List (List ℕ) = ask_lines_of (take before log) in
    let mapped : ask_lines_of (take before log ++ ask ∷ []) ≡ here ++ line ∷ [] =
    map-append (λ (a : Key × Call). ask_line (record { key = Some a.0; call = a.1 })) (take before log) (ask ∷ []) in
    grown ∙ append_assoc out line (10 ∷ []) ∙ ap (λ (l : List ℕ). l ++ (line ++ 10 ∷ [])) so_far ∙ append_assoc start (unlines here) (line ++ 10 ∷ [])
    ∙ ap (λ (l : List ℕ). start ++ l) (flat_map_more (λ (l : List ℕ). l ++ 10 ∷ []) [] here line)
    ∙ ap (λ (ls : List (List ℕ)). start ++ unlines ls) (sym mapped)
    ∙ ap (λ (l : List (Key × Call)). start ++ unlines (ask_lines_of l)) (sym next)

pub loop-before-preserved : goal.loop-before-preserved
loop-before-preserved c =
    one_listed c.args.log.now.log c.loop-before.before c.args.out.now.items c.loop-before.out.items c.push_ask_line.new.out.items c.unwrap-call.result
    (omega (arith, c.length-before-end.ensures.value, c.loop-before-test.true)) (sym c.ask_of.ensures ∙ c.unwrap-call.ensures) c.loop-before.invariant
    c.in_ok-push_ask_line.ensures

use Rattle.std.proofs.Common.{◌≡◌, List, ℕ, [], ◌∷◌, ◌++◌, sym, ap, ◌∙◌, append_assoc}
use Rattle.std.specs.Result.{is_ok}
use Rattle.std.specs.Prelude.{if◌then◌else◌, Result, Ok, Err, OnOk, codes}
use Rattle.sb_calls.specs.Call.{call_line}
use Rattle.sb_calls.specs.declared.call.Call.{Call}
use Rattle.sb_calls.specs.declared.call.Call.TheVariants.{Amalgamate}
use Rattle.bank_service.proofs.log_listing.push_call.Goals as goal

-- the verb, a name and a space, and a name
amalgamated : {E : Type 0} (done : Result (Unit {0}) E) (call : Call) (from to out first second third from_text to_text : List ℕ) → call ≡ Amalgamate from to
    → first ≡ out ++ codes "amalgamate " → from_text ≡ from → second ≡ (first ++ from_text) ++ 32 ∷ [] → to_text ≡ to
    → third ≡ (if is_ok done then second ++ to_text else second) → OnOk done (third ≡ out ++ call_line call)
amalgamated (Ok done) call from to out first second third from_text to_text is a f b t c =
    c ∙ ap (λ (l : List ℕ). second ++ l) t ∙ ap (λ (l : List ℕ). l ++ to) (b ∙ ap (λ (l : List ℕ). (first ++ l) ++ 32 ∷ []) f ∙ ap (λ (l : List ℕ).
    (l ++ from) ++ 32 ∷ []) a)
    ∙ together out (codes "amalgamate ") from to ∙ ap (λ (k : Call). out ++ call_line k) (sym is)
  where
    together : (out verb from to : List ℕ) → (((out ++ verb) ++ from) ++ 32 ∷ []) ++ to ≡ out ++ (verb ++ (from ++ (32 ∷ to)))
    together out verb from to = simp append_assoc
amalgamated (Err fault) call from to out first second third from_text to_text is a f b t c = tt

pub returns-in_ok-push_field-in-Amalgamate : goal.returns-in_ok-push_field-in-Amalgamate
returns-in_ok-push_field-in-Amalgamate c =
    amalgamated c.extend_from_slice-in-Amalgamate-2.result c.args.call.now c.in-Amalgamate.from c.in-Amalgamate.to c.args.out.now.items
    c.extend_from_slice-in-Amalgamate.new.self.items c.push_field.new.out.items c.extend_from_slice-in-Amalgamate-2.new.self.items
    c.text-in-Amalgamate.result.now c.text-in-Amalgamate-2.result.now c.in-Amalgamate.is c.in_ok-extend_from_slice-in-Amalgamate.ensures.items
    c.text-in-Amalgamate.ensures.value c.in_ok-push_field-in-Amalgamate.ensures c.text-in-Amalgamate-2.ensures.value
    c.extend_from_slice-in-Amalgamate-2.ensures.items

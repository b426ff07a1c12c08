use Rattle.std.proofs.Common.{◌≡◌, ◌≢◌, ◌++◌, ◌∷◌, MatchOption, Option, Some, None, List, ℕ, Bor, arith, ap, ◌∙◌, sym}
use Rattle.std.proofs.lemmas.List.{append_cancel_left}
use Rattle.std.proofs.lemmas.Str.Pattern.{strip_prefix_char}
use Rattle.program_words.proofs.options.after_equals.Goals as goal

abbrev Text : Type 0
Text = List ℕ

after_name : (word option rest : Text) (r : Option (Bor Text)) → word ≡ option ++ rest
    → MatchOption r ((text : Text) → rest ≢ 61 ∷ text) (λ x. rest ≡ 61 ∷ x.now)
    → MatchOption r ((text : Text) → word ≢ option ++ (61 ∷ text)) (λ x. word ≡ option ++ (61 ∷ x.now))
after_name word option rest None is none = λ text e. none text (append_cancel_left option rest (61 ∷ text) (sym is ∙ e))
after_name word option rest (Some x) is some = is ∙ ap (λ t. option ++ t) some

pub returns : goal.returns
returns c =
    let first : c.args.word.now ≡ c.args.option.now ++ c.in_ok-strip_prefix.field-0.now =
    let cases = c.in_ok-strip_prefix.ensures.cases in cases.1.1 ∙ ap (λ t. c.args.option.now ++ t) (sym cases.2) in
    after_name c.args.word.now c.args.option.now c.in_ok-strip_prefix.field-0.now c.strip_prefix-2.result first
    (strip_prefix_char 61 c.in_ok-strip_prefix.field-0.now c.strip_prefix-2.result c.strip_prefix-2.ensures.cases (omega arith))

use Rattle.std.proofs.Common.{rules, Bool, Option, Some, None, List, ℕ, subst, map}
use Rattle.std.specs.Borrow.{Bor}
use Rattle.std.specs.Prelude.{MatchOption, codes, string_bytes}
use Rattle.program_words.specs.Words.{GivesAddress, GivesStore, HasValue, MayHaveText}
use Rattle.program_words.specs.inner.WordValues.{IsPlanOf}
use Rattle.program_words.proofs.words.serve.serve_words.Goals as goal

-- a value that is found is one that the words may have
may_have : (option : List ℕ) (found : Option (Bor (List ℕ))) (words : List (List ℕ))
    → MatchOption found ((text : List ℕ) → ¬ (HasValue option text words)) (λ text. HasValue option text.now words) → MayHaveText option found words
may_have option None words is = is
may_have option (Some text) words is = is

pub returns : goal.returns
returns c =
    let plan = c.in_ok-plan.plan in
    let words = map string_bytes c.args.options.now in
    let (range, gives, saves, host) =
    subst (λ (logs : Bool). IsPlanOf c.args.options.now c.ip.result c.store_of-saves.result.0 logs plan) c.is_some.ensures c.in_ok-plan.ensures in
    let address : GivesAddress plan.host c.port.result words = search rules in
    let store : GivesStore plan.saves c.store_of-saves.result.1.now words = search rules in
    ((search rules, range), (address, gives, store, may_have (codes "--log") c.value-log.result words c.value-log.ensures))

use Rattle.std.proofs.Common.{rules, ◌≡◌, ◌≢◌, ◌∙◌, ◌∷◌, length, string_bytes, sym}
use Rattle.program_words.proofs.OptionSearch.{word_here, word_behind, no_words_left}
use Rattle.program_words.proofs.options.has_word.Goals as goal

pub returns-then-eq : goal.returns-then-eq
returns-then-eq c =
    let first : c.loop-first.rest.now ≡ c.in-Some.first.now ∷ c.in-Some.others.now = search rules in
    let named : string_bytes c.in-Some.first.now ≡ c.args.word.now = search rules in
    sym (word_here c.args.word.now c.in-Some.first.now c.loop-first.rest.now c.in-Some.others.now first named) ∙ c.loop-first.invariant

pub loop-first-preserved : goal.loop-first-preserved
loop-first-preserved c =
    let first : c.loop-first.rest.now ≡ c.in-Some.first.now ∷ c.in-Some.others.now = search rules in
    let other : string_bytes c.in-Some.first.now ≢ c.args.word.now = search rules in
    sym (word_behind c.args.word.now c.in-Some.first.now c.loop-first.rest.now c.in-Some.others.now first other) ∙ c.loop-first.invariant

pub returns : goal.returns
returns c =
    let none : length c.loop-first.rest.now ≡ 0 = search rules in
    sym (no_words_left c.args.word.now c.loop-first.rest.now none) ∙ c.loop-first.invariant

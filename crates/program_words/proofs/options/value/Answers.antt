use Rattle.std.proofs.Common.{rules, ◌≡◌, ◌≢◌, ◌++◌, ◌∷◌, string_bytes, ℕ, List, None, length}
use Rattle.program_words.proofs.OptionSearch.{next_word, same_word, later_word, only_later, last_word, no_word}
use Rattle.program_words.proofs.options.value.Goals as goal

pub returns-in_err-next : goal.returns-in_err-next
returns-in_err-next c =
    let first : c.loop-word.rest.now ≡ c.in-Some.word.now ∷ c.in-Some.others.now = search rules in
    let none : length c.in-Some.others.now ≡ 0 = search rules in
    let named : string_bytes c.in-Some.word.now ≡ c.args.option.now = search rules in
    let gone : c.from_residual.result ≡ None = search rules in
    rw gone (λ text stands. last_word c.args.option.now text c.in-Some.word.now c.loop-word.rest.now c.in-Some.others.now first none named
    (c.loop-word.invariant.left text stands))

pub returns-then-eq : goal.returns-then-eq
returns-then-eq c =
    let first : c.loop-word.rest.now ≡ c.in-Some.word.now ∷ c.in-Some.others.now = search rules in
    let second : c.in-Some.others.now ≡ c.in_ok-next.next.now ∷ c.in_ok-next.field-0-1.now = search rules in
    let named : string_bytes c.in-Some.word.now ≡ c.args.option.now = search rules in
    c.loop-word.invariant.stands c.as_str.result.now (next_word c.args.option.now c.as_str.result.now c.in-Some.word.now c.in_ok-next.next.now
    c.loop-word.rest.now c.in-Some.others.now c.in_ok-next.field-0-1.now first second named (search rules))

pub returns-in-Some-after_equals : goal.returns-in-Some-after_equals
returns-in-Some-after_equals c =
    let first : c.loop-word.rest.now ≡ c.in-Some.word.now ∷ c.in-Some.others.now = search rules in
    let named : string_bytes c.in-Some.word.now ≡ c.args.option.now ++ (61 ∷ c.in-Some-after_equals.value.now) = search rules in
    c.loop-word.invariant.stands c.in-Some-after_equals.value.now (same_word c.args.option.now c.in-Some-after_equals.value.now c.in-Some.word.now
    c.loop-word.rest.now c.in-Some.others.now first named)

pub loop-word-preserved : goal.loop-word-preserved
loop-word-preserved c =
    let first : c.loop-word.rest.now ≡ c.in-Some.word.now ∷ c.in-Some.others.now = search rules in
    let other : string_bytes c.in-Some.word.now ≢ c.args.option.now = search rules in
    let bare : (text : List ℕ) → string_bytes c.in-Some.word.now ≢ c.args.option.now ++ (61 ∷ text) = search rules in
    record {
      stands = λ text later. c.loop-word.invariant.stands text (later_word c.args.option.now text c.in-Some.word.now
          c.loop-word.rest.now c.in-Some.others.now first later);
      left = λ text stands. only_later c.args.option.now text c.in-Some.word.now c.loop-word.rest.now c.in-Some.others.now first other (bare text)
          (c.loop-word.invariant.left text stands);
    }

pub returns : goal.returns
returns c =
    let none : length c.loop-word.rest.now ≡ 0 = search rules in
    λ text stands. no_word c.args.option.now text c.loop-word.rest.now none (c.loop-word.invariant.left text stands)

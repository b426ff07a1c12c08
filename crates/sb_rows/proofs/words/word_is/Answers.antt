-- A word begins with a text of its own length exactly if it is that text.
use Rattle.std.proofs.Common.{ap, ◌∙◌, arith, length}
use Rattle.std.specs.Str.{bytes_eq}
use Rattle.std.proofs.lemmas.Cmp.{nat_list_eq_equiv}
use Rattle.std.proofs.lemmas.List.{take_all}
use Rattle.sb_rows.proofs.words.word_is.Goals as goal

pub returns-then-word-text : goal.returns-then-word-text
returns-then-word-text c =
    let word = c.args.word.now in
    let text = c.args.text.now in
    c.starts_with.ensures.value ∙ ap (bytes_eq text) (take_all (length text) word (omega (arith, c.if-word-text.true)))
    ∙ nat_list_eq_equiv.symm text word

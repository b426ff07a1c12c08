use Rattle.sb_rows.proofs.SplitAtFirstByte.{words-first, words-whole, to_end}
use Rattle.sb_rows.proofs.text.next_word.Goals as goal

pub returns-in-Some : goal.returns-in-Some
returns-in-Some c = rw to_end (words-first c.args.line.now c.in-Some.end c.in-Some.ensures)

pub returns-in-None : goal.returns-in-None
returns-in-None c = words-whole c.args.line.now c.in-None.ensures

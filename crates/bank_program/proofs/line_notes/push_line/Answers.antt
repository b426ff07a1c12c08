use Rattle.bank_program.proofs.LinesShown.{shown_front}
use Rattle.bank_program.proofs.line_notes.push_line.Goals as goal

pub returns : goal.returns
returns c =
    shown_front c.push_shown.result c.args.line.now c.args.note.now.items c.extend_from_slice.new.self.items c.push_shown.new.out.items c.min.result
    c.min.ensures c.in_ok-extend_from_slice.ensures.items c.push_shown.ensures

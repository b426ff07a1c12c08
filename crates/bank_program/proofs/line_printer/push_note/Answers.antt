use Rattle.std.proofs.Common.{rules, ◌≡◌, ◌++◌, ◌∷◌, [], ◌∙◌, List, ℕ, ap}
use Rattle.std.specs.Prelude.{codes, decimal}
use Rattle.bank_program.proofs.JoinedTexts.{joined}
use Rattle.bank_program.proofs.line_printer.push_note.Goals as goal

pub returns : goal.returns
returns c =
    let words = c.extend_from_slice.new.self.items in
    let number : c.as_bytes.result.now ≡ decimal c.args.dropped = search rules in
    let written = c.in_ok-extend_from_slice-2.ensures.items ∙ ap (λ (l : List ℕ). words ++ l) number in
    joined c.args.text.now.items (codes "unprinted lines: ") (decimal c.args.dropped) (10 ∷ []) words c.extend_from_slice-2.new.self.items
    c.push.new.self.items c.in_ok-extend_from_slice.ensures.items written c.in_ok-push.ensures.items

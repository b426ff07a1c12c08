use Rattle.std.proofs.Common.{◌≡◌, Some, refl, sym, ap, subst, ◌∙◌}
use Rattle.cown_board.specs.Board.{BoardOf, length_of}
use Rattle.cown_board.proofs.board.Board.cut.Goals as goal

pub returns-in-Some : goal.returns-in-Some
returns-in-Some g c =
    record { made = (sym c.cut_length.ensures.value ∙ c.in-Some.is, refl) }

pub returns-in_default-copy : goal.returns-in_default-copy
returns-in_default-copy g c =
    record { made = (sym c.cut_length.ensures.value ∙ c.in_default.is, refl) }

pub returns : goal.returns
returns g c =
    let old = c.args.self.now in
    let number = c.length-number.result in
    record {
      made = (
        sym c.cut_length.ensures.value ∙ c.in_default.is,
        c.length-number.ensures.value,
        subst (λ (v : BoardOf g.row.B.Denot). record v { cut = Some number } ≡ record old { cut = Some (length_of old) }) (sym c.self.view_is)
            (ap (λ n. record old { cut = Some n }) c.length-number.ensures.value),
      );
    }

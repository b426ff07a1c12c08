use Rattle.std.proofs.Common.{◌≡◌, [], ◌++◌, map, drop, sym, ap, ◌∙◌, append-nil}
use Rattle.std.proofs.lemmas.List.{drop_all}
use Rattle.sb_rows.specs.Text.{unlines}
use Rattle.bank_server.specs.Standing.{standing_line}
use Rattle.bank_server.proofs.answers.push_answers.Goals as goal

pub returns : goal.returns
returns g c replies tells =
    let loop = c.loop-standing in
    let none : drop loop.standing-index c.args.standings.now ≡ [] = drop_all loop.standing-index c.args.standings.now c.loop-standing-test.false in
    sym (append-nil loop.out.items) ∙ ap (λ ls. loop.out.items ++ unlines (map (standing_line replies) ls)) (sym none)
    ∙ loop.invariant replies tells

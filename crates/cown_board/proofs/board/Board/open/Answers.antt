use Rattle.std.proofs.Common.{◌≡◌, ◌*◌, ap, sym, ◌∙◌, subst, length, replicate, [], List, ℕ}
use Rattle.sb_rows.specs.Balances.{IsBalances}
use Rattle.cown_board.proofs.OpenInvariant.{IsBoard-opened}
use Rattle.cown_board.proofs.board.Board.open.Goals as goal

pub invariant_of-result : goal.invariant_of-result
invariant_of-result g c =
    let copied : c.in_ok-opening.opening ≡ c.args.columns = c.in_ok-opening.ensures in
    let valid : IsBalances c.in_ok-opening.opening = subst IsBalances (sym copied) c.customers.ensures.valid in
    let made = c.in_ok-links.ensures in
    rw (c.new.ensures.items, c.new-2.ensures.items)
    (IsBoard-opened g.B.Behaviour.touches g.B.Behaviour.effect c.in_ok-opening.opening c.args.columns c.args.base c.args.replies.items
    c.in_ok-links.links valid (sym copied) c.requires.replies c.requires.limit made.0
    (made.1 ∙ ap (λ n. replicate {A = List ℕ} (2 * n) []) (c.customers.ensures.value ∙ ap (λ b. length b.savings) (sym copied))) made.2 made.3)

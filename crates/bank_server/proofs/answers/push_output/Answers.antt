use Rattle.std.proofs.Common.{◌≡◌, ◌≢◌, List, ℕ, Option, ◌++◌, ap, subst, ◌∙◌, append_assoc, Bor}
use Rattle.std.specs.Prelude.{MatchOption, IfSome}
use Rattle.sb_rows.specs.Balances.{Balances, IsBalances}
use Rattle.sb_rows.specs.Rows.{rows_of}
use Rattle.sb_rows.specs.Text.{unlines}
use Rattle.sb_calls.specs.Behaviour.{declared_cowns, effect_of}
use Rattle.sb_calls.specs.Log.{replies_to}
use Rattle.sb_text.specs.Listing.{row_lines}
use Rattle.cown_board.specs.Board.{unfinished_of, IsAfterAll}
use Rattle.bank_server.proofs.answers.push_output.Goals as goal

pub returns : goal.returns
returns g c calls one =
    let names = c.args.replica.now.names in
    let board = c.args.replica.now.board in
    let columns = c.unwrap-columns.result.now in
    let told = c.in_ok-push_answers.ensures (replies_to (rows_of names board.opening) calls) one.replies in
    let after = subst
    (λ (o : Option (Bor Balances)). MatchOption o (unfinished_of board ≢ 0)
    (λ lent. (unfinished_of board ≡ 0) × IsAfterAll declared_cowns effect_of board lent.now))
    c.unwrap-columns.ensures c.final_columns.ensures.value in
    let bank = subst (λ (o : Option (Bor Balances)). IfSome o (λ lent. IsBalances lent.now)) c.unwrap-columns.ensures c.final_columns.ensures.bank in
    let rows = one.rows columns bank after.1 in
    ◌∙◌ {A = List ℕ} c.in_ok-list_rows.ensures
    (◌∙◌ {A = List ℕ} (ap (λ (d : List (List ℕ)). c.push_answers.new.out.items ++ unlines (row_lines d (rows_of d columns))) c.directory.ensures)
    (◌∙◌ {A = List ℕ} (λ j. told j ++ unlines (row_lines names (rows.1 j)))
    (append_assoc c.args.out.now.items _ _)))

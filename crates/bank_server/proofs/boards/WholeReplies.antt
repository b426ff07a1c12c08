-- What is answered once the whole log is executed.
use Rattle.std.proofs.Common.{◌≡◌, ℕ, true, false, Result, Ok, Err, List, refl, ap, subst, ◌∙◌}
use Rattle.std.specs.Prelude.{IfErr, OnErr, OnOk}
use Rattle.std.specs.Result.{is_err}
use Rattle.sb_rows.specs.Rows.{Rows, SameCustomers, rows_of}
use Rattle.sb_calls.specs.Log.{replies_to}
use Rattle.sb_calls.specs.declared.ask.Key.{Key}
use Rattle.sb_calls.specs.declared.call.Call.{Call}
use Rattle.bank_server.specs.Execution.{HasReplies}
use Rattle.sb_sequencer.specs.Numbering.{calls_of}
use Rattle.sb_ask_log.specs.Keeping.{KeeperModel}
use Rattle.bank_server.specs.Primary.{HasWholeLog, PreservesBank, PrimaryOf, opening_rows_of}
use Rattle.bank_server.proofs.boards.Boards.{all_replies}

-- the rows on which the log is executed stay
pub same_opening : {S K : Type 0} {model : KeeperModel K} (old new : PrimaryOf S K)
    → PreservesBank model old new
    → opening_rows_of new ≡ opening_rows_of old
same_opening old new bank =
    ap (λ (names : List (List ℕ)). rows_of names new.node.board.opening) (ap (λ b. b.names) bank.rest) ∙ ap (rows_of old.node.names) bank.opening

-- its replies are those of the log run one by one
pub tells_all : {S K : Type 0} {model : KeeperModel K} (old new : PrimaryOf S K)
    → SameCustomers new.node.names new.node.board.opening → HasWholeLog new → new.log ≡ old.log
    → PreservesBank model old new → HasReplies new.node.board (replies_to (opening_rows_of old) (calls_of old.log))
tells_all old new same all log bank =
    subst (λ (l : List (Key × Call)). HasReplies new.node.board (replies_to (opening_rows_of old) (calls_of l))) log
    (subst (λ (rows : Rows). HasReplies new.node.board (replies_to rows (calls_of new.log))) (same_opening old new bank)
    (all_replies new.node.names new.node.board.opening (calls_of new.log) new.node.board same refl all.log all.idle all.base_replies))

-- what holds after `Ok` holds if there is no error
pub after_ok : {T E P : Type 0} (r : Result T E) → false ≡ is_err r → OnOk r P → P
after_ok (Ok x) e h = h
after_ok (Err x) e h = absurd (false_is_true e)
  where
    false_is_true : false ≡ true → ⊥
    false_is_true f = cc

-- what follows from what an error says holds too
pub if_err : {T E : Type 0} {P Q : E → Type 0} (r : Result T E) → ((e : E) → P e → Q e) → IfErr r P → IfErr r Q
if_err (Ok x) f p = tt
if_err (Err e) f p = f e p

-- what holds anyway holds after `Ok`
pub ok_always : {T E P : Type 0} (r : Result T E) → P → OnOk r P
ok_always (Ok x) p = p
ok_always (Err e) p = tt

-- and after `Err`
pub err_always : {T E P : Type 0} (r : Result T E) → P → OnErr r P
err_always (Ok x) p = tt
err_always (Err e) p = p

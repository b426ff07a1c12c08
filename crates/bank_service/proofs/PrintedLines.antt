-- What is printed, piece after piece.
use Rattle.std.proofs.Common.{◌≡◌, ℕ, ◌+◌, Option, List, [], ◌∷◌, ◌++◌, length, sym, ap, subst, ◌∙◌, arith}
use Rattle.std.specs.Io.KnownBytes.{Appends}
use Rattle.std.proofs.KnownBytes.{Appends-trans}
use Rattle.std.proofs.lemmas.Grind.{flat_map-append}
use Rattle.sb_rows.specs.Text.{unlines}
use Rattle.sb_rows.specs.Balances.{Balances}
use Rattle.sb_rows.specs.Rows.{rows_of}
use Rattle.bank_server.specs.Primary.{PrimaryOf, opening_rows_of}
use Rattle.bank_server.specs.Clients.{End}
use Rattle.bank_service.specs.ServedBank.{IsSameBank}
use Rattle.bank_service.specs.ServeOutput.{PrintsLines, session_line, session_lines}

-- lines, and then more lines
pub PrintsLines-trans : (a b c : Option (List ℕ)) (xs ys : List (List ℕ)) → PrintsLines xs a b → PrintsLines ys b c → PrintsLines (xs ++ ys) a c
PrintsLines-trans a b c xs ys first second =
    subst (λ (bytes : List ℕ). Appends a c bytes) (sym (flat_map-append (λ (line : List ℕ). line ++ 10 ∷ []) xs ys))
    (Appends-trans a b c (unlines xs) (unlines ys) first second)

-- one more session
pub session_lines-push : (first : ℕ) (ends : List End) (end : End)
    → session_lines first (ends ++ end ∷ []) ≡ session_lines first ends ++ session_line (first + length ends) end ∷ []
unfolding session_lines
session_lines-push first [] end = ap (λ (n : ℕ). session_line n end ∷ []) (omega arith)
session_lines-push first (e ∷ ends) end =
    ap (λ (ls : List (List ℕ)). session_line first e ∷ ls) (session_lines-push (first + 1) ends end)
    ∙ ap (λ (n : ℕ). session_line first e ∷ (session_lines (first + 1) ends ++ session_line n end ∷ [])) (omega arith)

-- the same bank has the same opening rows
pub same_rows : {S K : Type 0} (old new : PrimaryOf S K) → IsSameBank old new → opening_rows_of new ≡ opening_rows_of old
same_rows old new same =
    ap (λ (names : List (List ℕ)). rows_of names new.node.board.opening) same.names
    ∙ ap (λ (opening : Balances). rows_of old.node.names opening) same.opening

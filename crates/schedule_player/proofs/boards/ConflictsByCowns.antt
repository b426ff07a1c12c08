-- Two calls wait for one another by their cowns exactly if they do by the balances that they touch.
use Rattle.std.proofs.Common.{◌≡◌, ◌⊎◌, inl, inr, Bool, true, false, List, [], ◌∷◌, refl, sym, ap, subst}
use Rattle.std.specs.Prelude.{◌||◌}
use Rattle.std.specs.List.{list_any}
use Rattle.std.proofs.lemmas.Bool.{true≢false}
use Rattle.std.proofs.lemmas.Slice.Eq.{bytes_eq-Decides}
use Rattle.sb_rows.specs.Rows.{SameCustomers}
use Rattle.sb_calls.specs.Behaviour.{declared_cowns}
use Rattle.sb_calls.specs.SerialRun.{share_cown}
use Rattle.sb_calls.specs.Op.{op_of}
use Rattle.sb_calls.specs.Touches.{BalanceCell, Savings, Checking, touched_cells}
use Rattle.sb_calls.specs.declared.call.Call.{Call}
use Rattle.sb_calls.proofs.Conflicts.{conflicts}
use Rattle.sb_calls.proofs.ListMembers.{IsOneOf, one_from_Contains, Contains-from_one}
use Rattle.schedule_player.specs.Bank.{BankOf, opening_rows}
use Rattle.schedule_player.specs.Readiness.{same_balance, share_balance}

one_place : (a b : BalanceCell) → same_balance a b ≡ true → a ≡ b
one_place (Savings a) (Savings b) same = ap Savings ((bytes_eq-Decides a b).0 same)
one_place (Checking a) (Checking b) same = ap Checking ((bytes_eq-Decides a b).0 same)
one_place (Savings a) (Checking b) same = absurd (true≢false (sym same))
one_place (Checking a) (Savings b) same = absurd (true≢false (sym same))

same_as_itself : (a : BalanceCell) → same_balance a a ≡ true
same_as_itself (Savings a) = (bytes_eq-Decides a a).1 refl
same_as_itself (Checking a) = (bytes_eq-Decides a a).1 refl

any_first : (b c : Bool) → b ≡ true → (b || c) ≡ true
any_first true c e = refl
any_first false c e = absurd (true≢false (sym e))

any_second : (b c : Bool) → c ≡ true → (b || c) ≡ true
any_second true c e = refl
any_second false c e = e

either : (b c : Bool) → (b || c) ≡ true → (b ≡ true) ⊎ (c ≡ true)
either true c e = inl refl
either false c e = inr e

found_place : (place : BalanceCell) (others : List BalanceCell) → list_any (same_balance place) others ≡ true → IsOneOf others place
found_place place [] found = absurd (true≢false (sym found))
found_place place (other ∷ others) found = elim (either (same_balance place other) (list_any (same_balance place) others) found) [
  | inl same ↦ inl (sym (one_place place other same))
  | inr more ↦ inr (found_place place others more)
]

place_found : (place : BalanceCell) (others : List BalanceCell) → IsOneOf others place → list_any (same_balance place) others ≡ true
place_found place [] one = absurd one
place_found place (other ∷ others) (inl is) =
    any_first (same_balance place other) (list_any (same_balance place) others) (subst (λ p. same_balance place p ≡ true) (sym is) (same_as_itself place))
place_found place (other ∷ others) (inr more) =
    any_second (same_balance place other) (list_any (same_balance place) others) (place_found place others more)

shared_found : (these others : List BalanceCell) → share_balance these others ≡ true
    → (place : BalanceCell) × IsOneOf these place × IsOneOf others place
shared_found [] others found = absurd (true≢false (sym found))
shared_found (place ∷ these) others found =
    elim (either (list_any (same_balance place) others) (share_balance these others) found) [
      | inl here ↦ (place, inl refl, found_place place others here)
      | inr more ↦ let rest = shared_found these others more in (rest.0, inr rest.1, rest.2)
    ]

found_shared : (these others : List BalanceCell) (place : BalanceCell) → IsOneOf these place → IsOneOf others place
    → share_balance these others ≡ true
found_shared [] others place one other = absurd one
found_shared (p ∷ these) others place (inl is) other =
    any_first (list_any (same_balance p) others) (share_balance these others)
    (place_found p others (subst (λ q. IsOneOf others q) (sym is) other))
found_shared (p ∷ these) others place (inr more) other =
    any_second (list_any (same_balance p) others) (share_balance these others) (found_shared these others place more other)

both_or_none : (a b : Bool) → (a ≡ true → b ≡ true) → (b ≡ true → a ≡ true) → a ≡ b
both_or_none true b f g = sym (f refl)
both_or_none false true f g = g refl
both_or_none false false f g = refl

pub shared_alike : (bank : BankOf) (first second : Call) → SameCustomers bank.names bank.opening
    → share_cown (declared_cowns (op_of bank.names first)) (declared_cowns (op_of bank.names second))
    ≡ share_balance (touched_cells (opening_rows bank) first) (touched_cells (opening_rows bank) second)
shared_alike bank first second same =
    let law = conflicts bank.names bank.opening first second same in
    let ones = touched_cells (opening_rows bank) first in
    let others = touched_cells (opening_rows bank) second in
    both_or_none _ _
    (λ by_cowns. let found = law.0 by_cowns in
    found_shared ones others found.0 (one_from_Contains ones found.0 found.1) (one_from_Contains others found.0 found.2))
    (λ by_place. let found = shared_found ones others by_place in
    law.1 (found.0, Contains-from_one ones found.0 found.1, Contains-from_one others found.0 found.2))

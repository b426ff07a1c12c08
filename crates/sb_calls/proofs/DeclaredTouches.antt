-- The cowns that an op declares are those of the balances that its call touches.
use Rattle.std.proofs.Common.{◌≡◌, ◌≢◌, ℕ, ◌<◌, ◌≤◌, ℤ, Bool, true, false, not, ◌&&◌, ◌⊎◌, inl, inr, Option, Some, None, is_some, List, [], ◌∷◌, refl, sym, ap, ◌∙◌, arith}
use Rattle.std.specs.Prelude.{◌↔◌}
use Rattle.std.proofs.lemmas.Bool.{cases_lt}
use Rattle.std.specs.Str.{bytes_eq}
use Rattle.std.proofs.lemmas.Slice.Eq.{bytes_eq-Decides}
use Rattle.sb_rows.proofs.NamePlaces.{place_of_within, place_of_found}
use Rattle.sb_rows.proofs.RowsByPlace.{get-rows_of_absent}
use Rattle.sb_rows.specs.Balances.{Balances}
use Rattle.sb_rows.specs.Directory.{place_of}
use Rattle.sb_rows.specs.Rows.{rows_of, SameCustomers}
use Rattle.sb_calls.proofs.Amalgamation.{different_names}
use Rattle.sb_calls.proofs.EffectCases.{cowns_giver_first, cowns_taker_first, cowns_payer_first, cowns_payee_first}
use Rattle.sb_calls.proofs.ListMembers.{IsOneOf, one_from_Contains, Contains-from_one}
use Rattle.sb_calls.proofs.OpOrigins.{HasMissingName, IsOfTwo, comes_from}
use Rattle.sb_calls.proofs.CustomerRows.{HasRow-unread, row_is}
use Rattle.sb_calls.specs.Behaviour.{amalgamation_cowns, payment_cowns, declared_cowns}
use Rattle.sb_calls.specs.CownLaws.{cown_of, DeclaresTouched}
use Rattle.sb_calls.specs.Cowns.{savings_cown, checking_cown}
use Rattle.sb_calls.specs.Op.{op_of}
use Rattle.sb_calls.specs.Touches.{BalanceCell, Savings, Checking, has_name, touched_cells}
use Rattle.sb_calls.specs.declared.call.Call.{Call}
use Rattle.sb_calls.specs.declared.call.Call.TheVariants as calls
use Rattle.sb_calls.specs.declared.op.Op.{Op}
use Rattle.sb_calls.specs.declared.op.Op.TheVariants.{Balance, DepositChecking, TransactSavings, Amalgamate, WriteCheck, SendPayment, NoCustomer, SameCustomer}

-- ---- the cowns of balances

-- each cown is that of the balance beside it
abbrev pub AreCownsOf : List (List ℕ) → List BalanceCell → List ℕ → Type 0
AreCownsOf directory [] [] = Unit {0}
AreCownsOf directory [] (cown ∷ cowns) = ⊥
AreCownsOf directory (place ∷ places) [] = ⊥
AreCownsOf directory (place ∷ places) (cown ∷ cowns) = (cown_of directory place ≡ Some cown) × AreCownsOf directory places cowns

-- so a cown is among them exactly if it is that of one of the balances
cown_has_place : (directory : List (List ℕ)) (places : List BalanceCell) (cowns : List ℕ) (cown : ℕ) → AreCownsOf directory places cowns → IsOneOf cowns cown
    → (place : BalanceCell) × IsOneOf places place × (cown_of directory place ≡ Some cown)
cown_has_place directory [] [] cown are one = absurd one
cown_has_place directory [] (c ∷ cowns) cown are one = absurd are
cown_has_place directory (place ∷ places) [] cown are one = absurd are
cown_has_place directory (place ∷ places) (c ∷ cowns) cown are (inl is) = (place, inl refl, are.0 ∙ ap Some is)
cown_has_place directory (place ∷ places) (c ∷ cowns) cown are (inr one) =
    let rest = cown_has_place directory places cowns cown are.1 one in (rest.0, inr rest.1, rest.2)

place_has_cown : (directory : List (List ℕ)) (places : List BalanceCell) (cowns : List ℕ) (cown : ℕ) (place : BalanceCell) → AreCownsOf directory places cowns
    → IsOneOf places place → cown_of directory place ≡ Some cown
    → IsOneOf cowns cown
place_has_cown directory [] cowns cown place are one e = absurd one
place_has_cown directory (p ∷ places) [] cown place are one e = absurd are
place_has_cown directory (p ∷ places) (c ∷ cowns) cown place are (inl is) e =
    let same : ◌≡◌ {A = Option ℕ} (Some c) (Some cown) = sym are.0 ∙ ap (cown_of directory) is ∙ e in inl cc
place_has_cown directory (p ∷ places) (c ∷ cowns) cown place are (inr one) e = inr (place_has_cown directory places cowns cown place are.1 one e)

-- lists with the same members
abbrev HaveSame : List BalanceCell → List BalanceCell → Type 0
HaveSame a b = (place : BalanceCell) → IsOneOf a place ↔ IsOneOf b place

-- what a call touches, in any order, with its cowns
declares : (directory : List (List ℕ)) (b : Balances) (call : Call) (places : List BalanceCell) (cowns : List ℕ)
    → HaveSame (touched_cells (rows_of directory b) call) places → AreCownsOf directory places cowns → DeclaresTouched directory b call cowns
declares directory b call places cowns same are cown = (
  (λ c. let at = cown_has_place directory places cowns cown are (one_from_Contains cowns cown c) in
      (at.0, Contains-from_one (touched_cells (rows_of directory b) call) at.0 ((same at.0).1 at.1), at.2)),
  (λ at. Contains-from_one cowns cown (place_has_cown directory places cowns cown at.0 are
      ((same at.0).0 (one_from_Contains (touched_cells (rows_of directory b) call) at.0 at.1)) at.2)),
)

-- what a call touches, with its cowns in order
declares_in_order : (directory : List (List ℕ)) (b : Balances) (call : Call) (places : List BalanceCell) (cowns : List ℕ)
    → touched_cells (rows_of directory b) call ≡ places → AreCownsOf directory places cowns → DeclaresTouched directory b call cowns
declares_in_order directory b call places cowns e are = declares directory b call places cowns (rw e (λ place. ((λ one. one), (λ one. one)))) are

-- a list has the same members as one whose last comes first
turned : (a b c : BalanceCell) → HaveSame (a ∷ b ∷ c ∷ []) (c ∷ a ∷ b ∷ [])
turned a b c place = (to, from)
  where
    to : IsOneOf (a ∷ b ∷ c ∷ []) place → IsOneOf (c ∷ a ∷ b ∷ []) place
    to (inl e) = inr (inl e)
    to (inr (inl e)) = inr (inr (inl e))
    to (inr (inr (inl e))) = inl e
    to (inr (inr (inr none))) = absurd none

    from : IsOneOf (c ∷ a ∷ b ∷ []) place → IsOneOf (a ∷ b ∷ c ∷ []) place
    from (inl e) = inr (inr (inl e))
    from (inr (inl e)) = inl e
    from (inr (inr (inl e))) = inr (inl e)
    from (inr (inr (inr none))) = absurd none

-- and so has a list of two
swapped : (a b : BalanceCell) → HaveSame (a ∷ b ∷ []) (b ∷ a ∷ [])
swapped a b place = (to a b, to b a)
  where
    to : (x y : BalanceCell) → IsOneOf (x ∷ y ∷ []) place → IsOneOf (y ∷ x ∷ []) place
    to x y (inl e) = inr (inl e)
    to x y (inr (inl e)) = inl e
    to x y (inr (inr none)) = absurd none

-- ---- names

-- a name at a place is in the rows
has_name-at : (directory : List (List ℕ)) (b : Balances) (name : List ℕ) (place : ℕ) → SameCustomers directory b → place_of directory name ≡ Some place
    → has_name (rows_of directory b) name ≡ true
has_name-at directory b name place same found =
    let lt = place_of_within directory name place found in
    ap (λ (o : Option (ℤ × ℤ)). is_some o) (row_is (HasRow-unread directory b name place same found (omega (arith, same.same_length))))

-- a name without a place isn't
pub has_name-absent : (directory : List (List ℕ)) (b : Balances) (name : List ℕ) → SameCustomers directory b → place_of directory name ≡ None
    → has_name (rows_of directory b) name ≡ false
has_name-absent directory b name same missing = ap (λ (o : Option (ℤ × ℤ)). is_some o) (get-rows_of_absent directory b name same missing)

-- the cowns of a name at a place
savings_at : (directory : List (List ℕ)) (name : List ℕ) (place : ℕ) → place_of directory name ≡ Some place
    → cown_of directory (Savings name) ≡ Some (savings_cown place)
savings_at directory name place found = rw found refl

checking_at : (directory : List (List ℕ)) (name : List ℕ) (place : ℕ) → place_of directory name ≡ Some place
    → cown_of directory (Checking name) ≡ Some (checking_cown place)
checking_at directory name place found = rw found refl

-- ---- calls

-- three tests, if the second fails
none_of_three : (a c : Bool) → (a && false && c) ≡ false
none_of_three true c = refl
none_of_three false c = refl

-- a call with a name that has no place touches nothing
nothing_touched : (directory : List (List ℕ)) (b : Balances) (call : Call) → SameCustomers directory b → HasMissingName directory call
    → touched_cells (rows_of directory b) call ≡ []
nothing_touched directory b (calls.Balance name) same missing = rw (has_name-absent directory b name same missing) refl
nothing_touched directory b (calls.DepositChecking name amount) same missing = rw (has_name-absent directory b name same missing) refl
nothing_touched directory b (calls.TransactSavings name amount) same missing = rw (has_name-absent directory b name same missing) refl
nothing_touched directory b (calls.Amalgamate from to) same (inl missing) = rw (has_name-absent directory b from same missing) refl
nothing_touched directory b (calls.Amalgamate from to) same (inr missing) =
    rw (has_name-absent directory b to same missing, none_of_three (has_name (rows_of directory b) from) (not (bytes_eq from to))) refl
nothing_touched directory b (calls.WriteCheck name amount) same missing = rw (has_name-absent directory b name same missing) refl
nothing_touched directory b (calls.SendPayment from to amount) same (inl missing) = rw (has_name-absent directory b from same missing) refl
nothing_touched directory b (calls.SendPayment from to amount) same (inr missing) =
    rw (has_name-absent directory b to same missing, none_of_three (has_name (rows_of directory b) from) (not (bytes_eq from to))) refl

-- two names at different places
two_touched : (directory : List (List ℕ)) (b : Balances) (from to : List ℕ) (p q : ℕ) → SameCustomers directory b → place_of directory from ≡ Some p
    → place_of directory to ≡ Some q → p ≢ q
    → touched_cells (rows_of directory b) (calls.Amalgamate from to) ≡ Savings from ∷ Checking from ∷ Checking to ∷ []
two_touched directory b from to p q same found_from found_to differs =
    rw (
      has_name-at directory b from p same found_from,
      has_name-at directory b to q same found_to,
      different_names directory from to p q found_from found_to differs,
    ) refl

-- so their cowns are declared, whichever comes first
two_declared : (directory : List (List ℕ)) (b : Balances) (from to : List ℕ) (p q : ℕ) → SameCustomers directory b → place_of directory from ≡ Some p
    → place_of directory to ≡ Some q → p ≢ q
    → DeclaresTouched directory b (calls.Amalgamate from to) (amalgamation_cowns p q)
two_declared directory b from to p q same found_from found_to differs = by (cases_lt p q)
  where
    there : touched_cells (rows_of directory b) (calls.Amalgamate from to) ≡ Savings from ∷ Checking from ∷ Checking to ∷ []
    there = two_touched directory b from to p q same found_from found_to differs

    by : (p < q) ⊎ (q ≤ p) → DeclaresTouched directory b (calls.Amalgamate from to) (amalgamation_cowns p q)
    by (inl lt) = rw (cowns_giver_first p q lt)
        (declares_in_order directory b (calls.Amalgamate from to) (Savings from ∷ Checking from ∷ Checking to ∷ [])
        (savings_cown p ∷ checking_cown p ∷ checking_cown q ∷ []) there
        (savings_at directory from p found_from, (checking_at directory from p found_from, (checking_at directory to q found_to, tt))))
    by (inr le) = rw (cowns_taker_first p q (omega (arith, differs)))
        (declares directory b (calls.Amalgamate from to) (Checking to ∷ Savings from ∷ Checking from ∷ [])
        (checking_cown q ∷ savings_cown p ∷ checking_cown p ∷ [])
        (rw there (turned (Savings from) (Checking from) (Checking to)))
        (checking_at directory to q found_to, (savings_at directory from p found_from, (checking_at directory from p found_from, tt))))

-- a payment between two names at different places
checkings_touched : (directory : List (List ℕ)) (b : Balances) (from to : List ℕ) (amount : ℤ) (p q : ℕ) → SameCustomers directory b
    → place_of directory from ≡ Some p → place_of directory to ≡ Some q → p ≢ q
    → touched_cells (rows_of directory b) (calls.SendPayment from to amount) ≡ Checking from ∷ Checking to ∷ []
checkings_touched directory b from to amount p q same found_from found_to differs =
    rw (
      has_name-at directory b from p same found_from,
      has_name-at directory b to q same found_to,
      different_names directory from to p q found_from found_to differs,
    ) refl

-- so their checking cowns are declared, whichever comes first
checkings_declared : (directory : List (List ℕ)) (b : Balances) (from to : List ℕ) (amount : ℤ) (p q : ℕ) → SameCustomers directory b
    → place_of directory from ≡ Some p → place_of directory to ≡ Some q → p ≢ q
    → DeclaresTouched directory b (calls.SendPayment from to amount) (payment_cowns p q)
checkings_declared directory b from to amount p q same found_from found_to differs = by (cases_lt p q)
  where
    there : touched_cells (rows_of directory b) (calls.SendPayment from to amount) ≡ Checking from ∷ Checking to ∷ []
    there = checkings_touched directory b from to amount p q same found_from found_to differs

    by : (p < q) ⊎ (q ≤ p) → DeclaresTouched directory b (calls.SendPayment from to amount) (payment_cowns p q)
    by (inl lt) = rw (cowns_payer_first p q lt)
        (declares_in_order directory b (calls.SendPayment from to amount) (Checking from ∷ Checking to ∷ [])
        (checking_cown p ∷ checking_cown q ∷ []) there
        (checking_at directory from p found_from, (checking_at directory to q found_to, tt)))
    by (inr le) = rw (cowns_payee_first p q (omega (arith, differs)))
        (declares directory b (calls.SendPayment from to amount) (Checking to ∷ Checking from ∷ []) (checking_cown q ∷ checking_cown p ∷ [])
        (rw there (swapped (Checking from) (Checking to)))
        (checking_at directory to q found_to, (checking_at directory from p found_from, tt)))

-- a name together with itself
one_untouched : (directory : List (List ℕ)) (b : Balances) (call : Call) (from to : List ℕ) (place : ℕ) → SameCustomers directory b → IsOfTwo from to call
    → place_of directory from ≡ Some place → place_of directory to ≡ Some place → touched_cells (rows_of directory b) call ≡ []
one_untouched directory b call from to place same of_two found_from found_to =
    let one : ◌≡◌ {A = Option (List ℕ)} (Some from) (Some to) = sym (place_of_found directory from place found_from)
    ∙ place_of_found directory to place found_to in
    let equal : bytes_eq from to ≡ true = (bytes_eq-Decides from to).1 cc in
    let there = has_name-at directory b from place same found_from in
    let there_too = has_name-at directory b to place same found_to in
    elim of_two [ inl is ↦ rw (is, there, there_too, equal) refl | inr paid ↦ rw (paid.1, there, there_too, equal) refl ]

-- an op declares the cowns of what its call touches
pub declares_touched : (directory : List (List ℕ)) (b : Balances) (call : Call) (op : Op) → SameCustomers directory b → op ≡ op_of directory call
    → DeclaresTouched directory b call (declared_cowns op)
declares_touched directory b call (Balance place) same e =
    let made = comes_from directory call (Balance place) e in
    let there : touched_cells (rows_of directory b) (calls.Balance made.0) ≡ Savings made.0 ∷ Checking made.0 ∷ [] =
    rw (has_name-at directory b made.0 place same made.2) refl in
    rw (made.1) (declares_in_order directory b (calls.Balance made.0) (Savings made.0 ∷ Checking made.0 ∷ []) (declared_cowns (Balance place)) there
    (savings_at directory made.0 place made.2, (checking_at directory made.0 place made.2, tt)))
declares_touched directory b call (DepositChecking place amount) same e =
    let made = comes_from directory call (DepositChecking place amount) e in
    let there : touched_cells (rows_of directory b) (calls.DepositChecking made.0 amount) ≡ Checking made.0 ∷ [] =
    rw (has_name-at directory b made.0 place same made.2) refl in
    rw (made.1) (declares_in_order directory b (calls.DepositChecking made.0 amount) (Checking made.0 ∷ [])
    (declared_cowns (DepositChecking place amount)) there (checking_at directory made.0 place made.2, tt))
declares_touched directory b call (TransactSavings place amount) same e =
    let made = comes_from directory call (TransactSavings place amount) e in
    let there : touched_cells (rows_of directory b) (calls.TransactSavings made.0 amount) ≡ Savings made.0 ∷ [] =
    rw (has_name-at directory b made.0 place same made.2) refl in
    rw (made.1) (declares_in_order directory b (calls.TransactSavings made.0 amount) (Savings made.0 ∷ []) (declared_cowns (TransactSavings place amount)) there
    (savings_at directory made.0 place made.2, tt))
declares_touched directory b call (Amalgamate places) same e =
    let made = comes_from directory call (Amalgamate places) e in
    rw (made.2) (two_declared directory b made.0 made.1 places.0 places.1 same made.3 made.4 made.5)
declares_touched directory b call (WriteCheck place amount) same e =
    let made = comes_from directory call (WriteCheck place amount) e in
    let there : touched_cells (rows_of directory b) (calls.WriteCheck made.0 amount) ≡ Savings made.0 ∷ Checking made.0 ∷ [] =
    rw (has_name-at directory b made.0 place same made.2) refl in
    rw (made.1) (declares_in_order directory b (calls.WriteCheck made.0 amount) (Savings made.0 ∷ Checking made.0 ∷ [])
    (declared_cowns (WriteCheck place amount)) there (savings_at directory made.0 place made.2, (checking_at directory made.0 place made.2, tt)))
declares_touched directory b call (SendPayment places amount) same e =
    let made = comes_from directory call (SendPayment places amount) e in
    rw (made.2) (checkings_declared directory b made.0 made.1 amount places.0 places.1 same made.3 made.4 made.5)
declares_touched directory b call NoCustomer same e =
    declares_in_order directory b call [] [] (nothing_touched directory b call same (comes_from directory call NoCustomer e)) tt
declares_touched directory b call SameCustomer same e =
    let made = comes_from directory call SameCustomer e in
    declares_in_order directory b call [] [] (one_untouched directory b call made.0 made.1 made.2 same made.3 made.4 made.5) tt

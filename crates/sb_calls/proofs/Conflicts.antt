-- Two calls share a declared cown exactly if they share a touched balance.
use Rattle.std.proofs.Common.{◌≡◌, ℕ, Bool, true, false, not, ◌&&◌, inl, inr, Option, Some, None, List, [], ◌∷◌, refl, sym, ap, subst, ◌∙◌, arith}
use Rattle.std.specs.List.{Contains}
use Rattle.std.specs.Prelude.{if◌then◌else◌, ◌==◌, option_map, slice_get}
use Rattle.std.specs.Str.{bytes_eq}
use Rattle.std.proofs.lemmas.Bool.{and_parts, both_ways, eqb-true, or_cases, or_left, or_right, true≢false}
use Rattle.sb_rows.proofs.NamePlaces.{place_of_found}
use Rattle.sb_rows.specs.Balances.{Balances}
use Rattle.sb_rows.specs.Directory.{place_of}
use Rattle.sb_rows.specs.Rows.{Rows, rows_of, SameCustomers}
use Rattle.sb_calls.proofs.CownContents.{eqb-refl, share_from, shared_cown}
use Rattle.sb_calls.proofs.CallLocality.{name_of}
use Rattle.sb_calls.proofs.ListMembers.{IsOneOf, one_from_Contains, Contains-from_one}
use Rattle.sb_calls.proofs.DeclaredTouches.{declares_touched, has_name-absent}
use Rattle.sb_calls.specs.Behaviour.{declared_cowns}
use Rattle.sb_calls.specs.CownLaws.{cown_of}
use Rattle.sb_calls.specs.Conflicts.{ConflictsByName}
use Rattle.sb_calls.specs.Cowns.{savings_cown, checking_cown}
use Rattle.sb_calls.specs.SerialRun.{is_among, share_cown}
use Rattle.sb_calls.specs.Op.{op_of}
use Rattle.sb_calls.specs.Touches.{BalanceCell, Savings, Checking, both_of, has_name, touched_cells}
use Rattle.sb_calls.specs.declared.call.Call.{Call}
use Rattle.sb_calls.specs.declared.call.Call.TheVariants.{Balance, DepositChecking, TransactSavings, Amalgamate, WriteCheck, SendPayment}

-- ---- the members of a list of cowns

one_from_among : (cown : ℕ) (cowns : List ℕ) → is_among cown cowns ≡ true → IsOneOf cowns cown
one_from_among cown [] among = absurd (true≢false (sym among))
one_from_among cown (c ∷ cowns) among = elim (or_cases (cown == c) (is_among cown cowns) among) [
  | inl same ↦ inl (sym (eqb-true cown c same))
  | inr later ↦ inr (one_from_among cown cowns later)
]

among_from_one : (cown : ℕ) (cowns : List ℕ) → IsOneOf cowns cown → is_among cown cowns ≡ true
among_from_one cown [] one = absurd one
among_from_one cown (c ∷ cowns) (inl same) = or_left (cown == c) (is_among cown cowns) (ap (λ k. cown == k) same ∙ eqb-refl cown)
among_from_one cown (c ∷ cowns) (inr later) = or_right (cown == c) (is_among cown cowns) (among_from_one cown cowns later)

-- ---- a balance that a call touches has a cown

-- the names of these balances are in the rows
abbrev AreNamed : Rows → List BalanceCell → Type 0
AreNamed rows [] = Unit {0}
AreNamed rows (place ∷ places) = (has_name rows (name_of place) ≡ true) × AreNamed rows places

one_is_named : (rows : Rows) (places : List BalanceCell) (place : BalanceCell) → AreNamed rows places → IsOneOf places place
    → has_name rows (name_of place) ≡ true
one_is_named rows [] place named one = absurd one
one_is_named rows (p ∷ places) place named (inl is) = ap (λ q. has_name rows (name_of q)) (sym is) ∙ named.0
one_is_named rows (p ∷ places) place named (inr later) = one_is_named rows places place named.1 later

named_where : (rows : Rows) (test : Bool) (places : List BalanceCell) → (test ≡ true → AreNamed rows places)
    → AreNamed rows (if test then places else [])
named_where rows true places named = named refl
named_where rows false places named = tt

touched_are_named : (rows : Rows) (call : Call) → AreNamed rows (touched_cells rows call)
touched_are_named rows (Balance name) = named_where rows (has_name rows name) (both_of name) (λ there. (there, (there, tt)))
touched_are_named rows (DepositChecking name amount) = named_where rows (has_name rows name) (Checking name ∷ []) (λ there. (there, tt))
touched_are_named rows (TransactSavings name amount) = named_where rows (has_name rows name) (Savings name ∷ []) (λ there. (there, tt))
touched_are_named rows (Amalgamate from to) =
    let both = has_name rows from && has_name rows to in
    let differ = not (bytes_eq from to) in
    named_where rows (both && differ) (Savings from ∷ Checking from ∷ Checking to ∷ []) (λ there.
    let names = and_parts (has_name rows from) (has_name rows to) (and_parts both differ there).0 in
    (names.0, (names.0, (names.1, tt))))
touched_are_named rows (WriteCheck name amount) = named_where rows (has_name rows name) (both_of name) (λ there. (there, (there, tt)))
touched_are_named rows (SendPayment from to amount) =
    let both = has_name rows from && has_name rows to in
    let differ = not (bytes_eq from to) in
    named_where rows (both && differ) (Checking from ∷ Checking to ∷ []) (λ there.
    let names = and_parts (has_name rows from) (has_name rows to) (and_parts both differ there).0 in
    (names.0, (names.1, tt)))

-- a name in the rows has a place
place_of_row : (directory : List (List ℕ)) (b : Balances) (name : List ℕ) → SameCustomers directory b → has_name (rows_of directory b) name ≡ true
    → (place : ℕ) × (place_of directory name ≡ Some place)
place_of_row directory b name same there = by (place_of directory name) refl
  where
    by : (o : Option ℕ) → place_of directory name ≡ o → (place : ℕ) × (place_of directory name ≡ Some place)
    by None missing = absurd (both_ways (has_name (rows_of directory b) name) (has_name-absent directory b name same missing) there)
    by (Some place) found = (place, found)

-- so its balances have cowns
cown_of_named : (directory : List (List ℕ)) (b : Balances) (place : BalanceCell) → SameCustomers directory b
    → has_name (rows_of directory b) (name_of place) ≡ true → (cown : ℕ) × (cown_of directory place ≡ Some cown)
cown_of_named directory b (Savings name) same there =
    let at = place_of_row directory b name same there in (savings_cown at.0, ap (option_map savings_cown) at.1)
cown_of_named directory b (Checking name) same there =
    let at = place_of_row directory b name same there in (checking_cown at.0, ap (option_map checking_cown) at.1)

-- ---- a cown is that of one balance

-- names at the same place are equal
one_name : (directory : List (List ℕ)) (n m : List ℕ) (p q : ℕ) → place_of directory n ≡ Some p → place_of directory m ≡ Some q → p ≡ q → n ≡ m
one_name directory n m p q found_n found_m one =
    let at_p = place_of_found directory n p found_n in
    let at_q = place_of_found directory m q found_m in
    let same : ◌≡◌ {A = Option (List ℕ)} (Some n) (Some m) = sym at_p ∙ ap (slice_get directory) one ∙ at_q in
    cc

-- the place that the cown of a name comes from
place_behind : (directory : List (List ℕ)) (cown_at : ℕ → ℕ) (name : List ℕ) (cown : ℕ) → option_map cown_at (place_of directory name) ≡ Some cown
    → (place : ℕ) × (place_of directory name ≡ Some place) × (cown_at place ≡ cown)
place_behind directory cown_at name cown e = by (place_of directory name) refl e
  where
    by : (o : Option ℕ) → place_of directory name ≡ o → option_map cown_at o ≡ Some cown
        → (place : ℕ) × (place_of directory name ≡ Some place) × (cown_at place ≡ cown)
    by None found none = absurd cc
    by (Some place) found same = (place, found, cc)

cown_of-injective : (directory : List (List ℕ)) (first second : BalanceCell) (cown : ℕ) → cown_of directory first ≡ Some cown
    → cown_of directory second ≡ Some cown → first ≡ second
cown_of-injective directory (Savings n) (Savings m) cown of_first of_second =
    let at_n = place_behind directory savings_cown n cown of_first in
    let at_m = place_behind directory savings_cown m cown of_second in
    ap Savings (one_name directory n m at_n.0 at_m.0 at_n.1 at_m.1 (omega (arith, at_n.2, at_m.2)))
cown_of-injective directory (Savings n) (Checking m) cown of_first of_second =
    let at_n = place_behind directory savings_cown n cown of_first in
    let at_m = place_behind directory checking_cown m cown of_second in
    absurd (omega (arith, at_n.2, at_m.2))
cown_of-injective directory (Checking n) (Savings m) cown of_first of_second =
    let at_n = place_behind directory checking_cown n cown of_first in
    let at_m = place_behind directory savings_cown m cown of_second in
    absurd (omega (arith, at_n.2, at_m.2))
cown_of-injective directory (Checking n) (Checking m) cown of_first of_second =
    let at_n = place_behind directory checking_cown n cown of_first in
    let at_m = place_behind directory checking_cown m cown of_second in
    ap Checking (one_name directory n m at_n.0 at_m.0 at_n.1 at_m.1 (omega (arith, at_n.2, at_m.2)))

-- ---- both ways

pub conflicts : ConflictsByName
conflicts directory b first second same = (there, back)
  where
    -- the balances that a call touches
    balances : Call → List BalanceCell
    balances call = touched_cells (rows_of directory b) call

    cowns : Call → List ℕ
    cowns call = declared_cowns (op_of directory call)

    there : share_cown (cowns first) (cowns second) ≡ true → (place : BalanceCell) × Contains (balances first) place × Contains (balances second) place
    there shared =
        let cown = shared_cown (cowns first) (cowns second) shared in
        let at = (declares_touched directory b first (op_of directory first) same refl cown.0).0
        (Contains-from_one (cowns first) cown.0 (one_from_among cown.0 (cowns first) cown.1)) in
        let beside = (declares_touched directory b second (op_of directory second) same refl cown.0).0
        (Contains-from_one (cowns second) cown.0 (one_from_among cown.0 (cowns second) cown.2)) in
        let one : beside.0 ≡ at.0 = cown_of-injective directory beside.0 at.0 cown.0 beside.2 at.2 in
        (at.0, at.1, subst (Contains (balances second)) one beside.1)

    back : (place : BalanceCell) × Contains (balances first) place × Contains (balances second) place → share_cown (cowns first) (cowns second) ≡ true
    back (place, of_first, of_second) =
        let named = one_is_named (rows_of directory b) (balances first) place (touched_are_named (rows_of directory b) first)
        (one_from_Contains (balances first) place of_first) in
        let cown = cown_of_named directory b place same named in
        let in_first = (declares_touched directory b first (op_of directory first) same refl cown.0).1 (place, of_first, cown.1) in
        let in_second = (declares_touched directory b second (op_of directory second) same refl cown.0).1 (place, of_second, cown.1) in
        share_from cown.0 (cowns first) (cowns second) (among_from_one cown.0 (cowns first) (one_from_Contains (cowns first) cown.0 in_first))
        (among_from_one cown.0 (cowns second) (one_from_Contains (cowns second) cown.0 in_second))

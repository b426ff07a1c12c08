-- Which call an op comes from.
use Rattle.std.proofs.Common.{◌≡◌, ◌≢◌, ℕ, ℤ, Bool, true, false, cond, ◌==◌, ◌⊎◌, inl, inr, List, Option, Some, None, refl, sym, ap, subst}
use Rattle.std.proofs.lemmas.Bool.{both_ways, eq-eqb, eqb-true}
use Rattle.sb_rows.specs.Directory.{place_of}
use Rattle.sb_calls.specs.Op.{at_place, at_two_places, op_of}
use Rattle.sb_calls.specs.declared.call.Call.{Call}
use Rattle.sb_calls.specs.declared.call.Call.TheVariants as calls
use Rattle.sb_calls.specs.declared.op.Op.{Op}
use Rattle.sb_calls.specs.declared.op.Op.TheVariants.{Balance, DepositChecking, TransactSavings, Amalgamate, WriteCheck, SendPayment, NoCustomer, SameCustomer}

-- a name of the call has no place
abbrev pub HasMissingName : List (List ℕ) → Call → Type 0
HasMissingName directory (calls.Balance name) = place_of directory name ≡ None
HasMissingName directory (calls.DepositChecking name amount) = place_of directory name ≡ None
HasMissingName directory (calls.TransactSavings name amount) = place_of directory name ≡ None
HasMissingName directory (calls.Amalgamate from to) = (place_of directory from ≡ None) ⊎ (place_of directory to ≡ None)
HasMissingName directory (calls.WriteCheck name amount) = place_of directory name ≡ None
HasMissingName directory (calls.SendPayment from to amount) = (place_of directory from ≡ None) ⊎ (place_of directory to ≡ None)

-- a call of these two customers
abbrev pub IsOfTwo : List ℕ → List ℕ → Call → Type 0
IsOfTwo from to call = (call ≡ calls.Amalgamate from to) ⊎ ((amount : ℤ) × (call ≡ calls.SendPayment from to amount))

-- the call is of the op's kind, and its names are at the op's places
abbrev pub ComesFrom : List (List ℕ) → Op → Call → Type 0
ComesFrom directory (Balance place) call = (name : List ℕ) × (call ≡ calls.Balance name) × (place_of directory name ≡ Some place)
ComesFrom directory (DepositChecking place amount) call = (name : List ℕ) × (call ≡ calls.DepositChecking name amount) × (place_of directory name ≡ Some place)
ComesFrom directory (TransactSavings place amount) call = (name : List ℕ) × (call ≡ calls.TransactSavings name amount) × (place_of directory name ≡ Some place)
ComesFrom directory (Amalgamate places) call =
    (from : List ℕ) × (to : List ℕ) × (call ≡ calls.Amalgamate from to) × (place_of directory from ≡ Some places.0) × (place_of directory to ≡ Some places.1)
    × (places.0 ≢ places.1)
ComesFrom directory (WriteCheck place amount) call = (name : List ℕ) × (call ≡ calls.WriteCheck name amount) × (place_of directory name ≡ Some place)
ComesFrom directory (SendPayment places amount) call =
    (from : List ℕ) × (to : List ℕ) × (call ≡ calls.SendPayment from to amount) × (place_of directory from ≡ Some places.0)
    × (place_of directory to ≡ Some places.1) × (places.0 ≢ places.1)
ComesFrom directory NoCustomer call = HasMissingName directory call
ComesFrom directory SameCustomer call =
    (from : List ℕ) × (to : List ℕ) × (place : ℕ) × IsOfTwo from to call × (place_of directory from ≡ Some place)
    × (place_of directory to ≡ Some place)

-- an op made at one place: a fact that holds with a place, and one that holds without
made_at_place : (P : Op → Type 0) (op : ℕ → Op) (place : Option ℕ) → ((p : ℕ) → place ≡ Some p → P (op p)) → (place ≡ None → P NoCustomer)
    → P (at_place op place)
made_at_place P op None there nowhere = nowhere refl
made_at_place P op (Some p) there nowhere = there p refl

-- an op made at two places, in the same way
made_at_two_places : (P : Op → Type 0) (op : ℕ × ℕ → Op) (from to : Option ℕ)
    → ((p q : ℕ) → from ≡ Some p → to ≡ Some q → p ≢ q → P (op (p, q)))
    → ((p : ℕ) → from ≡ Some p → to ≡ Some p → P SameCustomer)
    → ((from ≡ None) ⊎ (to ≡ None) → P NoCustomer) → P (at_two_places op from to)
made_at_two_places P op None to there one nowhere = nowhere (inl refl)
made_at_two_places P op (Some p) None there one nowhere = nowhere (inr refl)
made_at_two_places P op (Some p) (Some q) there one nowhere = by (p == q) refl
  where
    by : (same : Bool) → (p == q) ≡ same → P (cond same SameCustomer (op (p, q)))
    by true e = one p refl (ap Some (sym (eqb-true p q e)))
    by false e = there p q refl refl (λ one. both_ways (p == q) e (eq-eqb p q one))

-- each call is one that its op comes from
resolved_from : (directory : List (List ℕ)) (call : Call) → ComesFrom directory (op_of directory call) call
resolved_from directory (calls.Balance name) =
    made_at_place (λ op. ComesFrom directory op (calls.Balance name)) Balance (place_of directory name) (λ place found. (name, refl, found))
    (λ missing. missing)
resolved_from directory (calls.DepositChecking name amount) =
    made_at_place (λ op. ComesFrom directory op (calls.DepositChecking name amount)) (λ place. DepositChecking place amount) (place_of directory name)
    (λ place found. (name, refl, found)) (λ missing. missing)
resolved_from directory (calls.TransactSavings name amount) =
    made_at_place (λ op. ComesFrom directory op (calls.TransactSavings name amount)) (λ place. TransactSavings place amount) (place_of directory name)
    (λ place found. (name, refl, found)) (λ missing. missing)
resolved_from directory (calls.Amalgamate from to) =
    made_at_two_places (λ op. ComesFrom directory op (calls.Amalgamate from to)) Amalgamate (place_of directory from) (place_of directory to)
    (λ p q found_from found_to differs. (from, to, refl, found_from, found_to, differs))
    (λ p found_from found_to. (from, to, p, inl refl, found_from, found_to))
    (λ missing. missing)
resolved_from directory (calls.WriteCheck name amount) =
    made_at_place (λ op. ComesFrom directory op (calls.WriteCheck name amount)) (λ place. WriteCheck place amount) (place_of directory name)
    (λ place found. (name, refl, found)) (λ missing. missing)
resolved_from directory (calls.SendPayment from to amount) =
    made_at_two_places (λ op. ComesFrom directory op (calls.SendPayment from to amount)) (λ places. SendPayment places amount) (place_of directory from)
    (place_of directory to) (λ p q found_from found_to differs. (from, to, refl, found_from, found_to, differs))
    (λ p found_from found_to. (from, to, p, inr (amount, refl), found_from, found_to))
    (λ missing. missing)

-- what an op says about the call that resolves to it
pub comes_from : (directory : List (List ℕ)) (call : Call) (op : Op) → op ≡ op_of directory call → ComesFrom directory op call
comes_from directory call op e = subst (λ o. ComesFrom directory o call) (sym e) (resolved_from directory call)

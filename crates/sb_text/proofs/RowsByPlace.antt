-- Rows listed by place.
use Rattle.std.proofs.Common.{◌≡◌, ℕ, zero, suc, ◌+◌, ◌≤◌, ℤ, pos, ◌+ℤ◌, List, [], ◌∷◌, ◌++◌, Option, Some, None, slice_get, drop, map, length, codes, refl, sym, ap, ◌∙◌, arith, add-one, append_assoc, append-nil}
use Rattle.std.specs.FinMap.{get}
use Rattle.std.specs.Option.{unwrap_or}
use Rattle.std.proofs.lemmas.Grind.{flat_map-append}
use Rattle.std.proofs.lemmas.Int.{ints}
use Rattle.sb_amount.specs.Money.{money}
use Rattle.sb_rows.specs.Balances.{Balances}
use Rattle.sb_rows.specs.Customer.{Customer, customers_of}
use Rattle.sb_rows.specs.Listing.{rows_in_order, row_of, total_of}
use Rattle.sb_rows.specs.Opening.{customer_line}
use Rattle.sb_rows.specs.Rows.{Rows, SameCustomers, rows_of}
use Rattle.sb_rows.proofs.NamePlaces.{place_of_at}
use Rattle.sb_rows.proofs.RowsByPlace.{get-rows_of}
use Rattle.lane_audit.specs.Columns.{total}
use Rattle.sb_text.specs.Listing.{row_lines}
use Rattle.sb_rows.specs.Text.{unlines}

-- a customer with this name and these balances
abbrev pub customer : List ℕ → ℤ → ℤ → Customer
customer name savings checking = record { name = name; savings = savings; checking = checking }

none_is_some : {A : Type 0} {x : A} → None ≡ Some x → ⊥
none_is_some e = cc

-- the customers from place i on begin with the one at i
pub customers_step : (names : List (List ℕ)) (savings checking : List ℤ) (i : ℕ) (name : List ℕ) (s c : ℤ)
    → slice_get names i ≡ Some name → slice_get savings i ≡ Some s → slice_get checking i ≡ Some c
    → drop i (customers_of names (record { savings = savings; checking = checking }))
    ≡ customer name s c ∷ drop (suc i) (customers_of names (record { savings = savings; checking = checking }))
customers_step [] savings checking i name s c e f g = absurd (none_is_some e)
customers_step (x ∷ names) [] checking i name s c e f g = absurd (none_is_some f)
customers_step (x ∷ names) (y ∷ savings) [] i name s c e f g = absurd (none_is_some g)
customers_step (x ∷ names) (y ∷ savings) (z ∷ checking) zero name s c e f g =
    let same_name : x ≡ name = cc in
    let same_savings : y ≡ s = cc in
    let same_checking : z ≡ c = cc in
    λ j. customer (same_name j) (same_savings j) (same_checking j) ∷ customers_of names (record { savings = savings; checking = checking })
customers_step (x ∷ names) (y ∷ savings) (z ∷ checking) (suc i) name s c e f g = customers_step names savings checking i name s c e f g

-- the line of a customer and the lines after it
pub lines_by_step : (out : List ℕ) (names : List (List ℕ)) (b : Balances) (i : ℕ) (name : List ℕ) (s c : ℤ)
    → slice_get names i ≡ Some name → slice_get b.savings i ≡ Some s → slice_get b.checking i ≡ Some c
    → (out ++ customer_line (customer name s c) ++ 10 ∷ []) ++ unlines (map customer_line (drop (i + 1) (customers_of names b))) ≡ out
    ++ unlines (map customer_line (drop i (customers_of names b)))
lines_by_step out names b i name s c e f g =
    ap (λ text. text ++ unlines (map customer_line (drop (i + 1) (customers_of names b)))) (append_assoc out (customer_line (customer name s c)) (10 ∷ []))
    ∙ (append_assoc out (customer_line (customer name s c) ++ 10 ∷ []) (unlines (map customer_line (drop (i + 1) (customers_of names b))))
    ∙ ap (λ rest. out ++ unlines (map customer_line rest))
    (ap (λ k. customer name s c ∷ drop k (customers_of names b)) (add-one i) ∙ sym (customers_step names b.savings b.checking i name s c e f g)))

-- the columns' totals are the customers'
total_of_columns : (names : List (List ℕ)) (savings checking : List ℤ) → length savings ≡ length names → length checking ≡ length names
    → total savings +ℤ total checking ≡ total_of (customers_of names (record { savings = savings; checking = checking }))
total_of_columns [] [] [] e f = refl
total_of_columns [] (s ∷ savings) checking e f = absurd (omega (arith, e))
total_of_columns [] [] (c ∷ checking) e f = absurd (omega (arith, f))
total_of_columns (x ∷ names) [] checking e f = absurd (omega (arith, e))
total_of_columns (x ∷ names) (s ∷ savings) [] e f = absurd (omega (arith, f))
total_of_columns (x ∷ names) (s ∷ savings) (c ∷ checking) e f =
    let rest = total_of_columns names savings checking (omega (arith, e)) (omega (arith, f)) in
    omega (arith, ints, rest)

pub total_by_columns : (names : List (List ℕ)) (b : Balances) → SameCustomers names b → total b.savings +ℤ total b.checking ≡ total_of (customers_of names b)
total_by_columns names b same = total_of_columns names b.savings b.checking same.same_length (sym same.balances.same ∙ same.same_length)

-- past the last place there is no customer
pub customers_end : (names : List (List ℕ)) (savings checking : List ℤ) (i : ℕ) → length savings ≤ i
    → drop i (customers_of names (record { savings = savings; checking = checking })) ≡ []
customers_end [] savings checking zero h = refl
customers_end [] savings checking (suc i) h = refl
customers_end (x ∷ names) [] checking zero h = refl
customers_end (x ∷ names) [] checking (suc i) h = refl
customers_end (x ∷ names) (y ∷ savings) [] zero h = refl
customers_end (x ∷ names) (y ∷ savings) [] (suc i) h = refl
customers_end (x ∷ names) (y ∷ savings) (z ∷ checking) zero h = absurd (omega arith)
customers_end (x ∷ names) (y ∷ savings) (z ∷ checking) (suc i) h = customers_end names savings checking i (omega arith)

-- rows that have each name's balances by place list as the customers do
listed_by : (rows : Rows) (names : List (List ℕ)) (savings checking : List ℤ) → length savings ≡ length names → length checking ≡ length names
    → ((i : ℕ) (name : List ℕ) (s c : ℤ) → slice_get names i ≡ Some name → slice_get savings i ≡ Some s → slice_get checking i ≡ Some c
    → get rows name ≡ Some (s, c))
    → map (row_of rows) names ≡ customers_of names (record { savings = savings; checking = checking })
listed_by rows [] savings checking e f h = refl
listed_by rows (x ∷ names) [] checking e f h = absurd (omega (arith, e))
listed_by rows (x ∷ names) (y ∷ savings) [] e f h = absurd (omega (arith, f))
listed_by rows (x ∷ names) (y ∷ savings) (z ∷ checking) e f h =
    let first : row_of rows x ≡ customer x y z =
    ap (λ (found : Option (ℤ × ℤ)). customer x (unwrap_or {T = ℤ × ℤ} found (pos 0, pos 0)).0 (unwrap_or {T = ℤ × ℤ} found (pos 0, pos 0)).1)
    (h zero x y z refl refl refl) in
    let others = listed_by rows names savings checking (omega (arith, e)) (omega (arith, f)) (λ i. h (suc i)) in
    λ j. first j ∷ others j

-- the rows of columns list as the customers do
pub rows_in_order-rows_of : (names : List (List ℕ)) (b : Balances) → SameCustomers names b → rows_in_order names (rows_of names b) ≡ customers_of names b
unfolding rows_in_order
rows_in_order-rows_of names b same =
    listed_by (rows_of names b) names b.savings b.checking same.same_length (sym same.balances.same ∙ same.same_length)
    (λ i name s c e f g. get-rows_of names b name i s c same (place_of_at names i name same.names e) f g)

-- the customers' lines and the total's are the lines of the rows
pub row_lines_by_place : (out : List ℕ) (names : List (List ℕ)) (b : Balances) → SameCustomers names b
    → (out ++ unlines (map customer_line (customers_of names b))) ++ (codes "total " ++ money (total_of (customers_of names b))) ++ 10 ∷ [] ≡ out
    ++ unlines (row_lines names (rows_of names b))
row_lines_by_place out names b same =
    let total_line : List ℕ = codes "total " ++ money (total_of (customers_of names b)) in
    let lines_of : List Customer → List (List ℕ) = λ customers. map customer_line customers ++ (codes "total " ++ money (total_of customers)) ∷ [] in
    append_assoc (out ++ unlines (map customer_line (customers_of names b))) total_line (10 ∷ [])
    ∙ (append_assoc out (unlines (map customer_line (customers_of names b))) (total_line ++ 10 ∷ [])
    ∙ ap (λ text. out ++ text) (
    ap (λ text. unlines (map customer_line (customers_of names b)) ++ text) (sym (append-nil (total_line ++ 10 ∷ [])))
    ∙ (sym (flat_map-append (λ line. line ++ 10 ∷ []) (map customer_line (customers_of names b)) (total_line ∷ []))
    ∙ ap (λ customers. unlines (lines_of customers)) (sym (rows_in_order-rows_of names b same)))))

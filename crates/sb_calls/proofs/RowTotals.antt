-- The total of a bank's rows after one row is replaced.
use Rattle.std.proofs.Common.{◌≡◌, ◌≢◌, ℕ, suc, ℤ, ◌+ℤ◌, ◌-ℤ◌, Bool, true, false, cond, Option, Some, is_some, List, [], ◌∷◌, AllPairs, map, refl, sym, ap, ◌∙◌, arith}
use Rattle.std.specs.FinMap.{get, insert, get-insert}
use Rattle.std.specs.List.{list_any}
use Rattle.std.specs.Str.{bytes_eq}
use Rattle.std.proofs.lemmas.Bool.{or_parts, false_from_ne_true, both_ways}
use Rattle.std.proofs.lemmas.Cmp.{nat_list_cmp_total}
use Rattle.std.proofs.lemmas.Int.{ints}
use Rattle.std.proofs.lemmas.List.Folds.{list_any_none}
use Rattle.std.proofs.lemmas.Map.Text.{is_eq-slice_cmp}
use Rattle.std.proofs.lemmas.Slice.Eq.{bytes_eq-Decides}
use Rattle.sb_rows.proofs.NamePlaces.{has_place}
use Rattle.sb_rows.specs.Listing.{row_of, rows_in_order, total_of}
use Rattle.sb_rows.specs.Rows.{Rows}
use Rattle.sb_calls.specs.Net.{HasNames}

-- ---- the row of a name

-- after a row was written: that row at its name, and the old rows elsewhere
pub get-insert_name : (rows : Rows) (name : List ℕ) (v : ℤ × ℤ) (q : List ℕ) → get (insert rows name v) q ≡ cond (bytes_eq q name) (Some v) (get rows q)
get-insert_name rows name v q = get-insert nat_list_cmp_total rows name v q ∙ ap (λ t. cond t (Some v) (get rows q)) (is_eq-slice_cmp q name)

-- if a name differs from another, the other differs from it
pub other_name : (a b : List ℕ) → bytes_eq a b ≡ false → bytes_eq b a ≡ false
other_name a b h = false_from_ne_true (bytes_eq b a) (λ same. both_ways (bytes_eq a b) h ((bytes_eq-Decides a b).1 (sym ((bytes_eq-Decides b a).0 same))))

-- ---- the total

-- the names after the first are different too, and the first is none of them
different_rest : (n : List ℕ) (ns : List (List ℕ)) → AllPairs (λ a b. a ≢ b) (n ∷ ns) → AllPairs (λ a b. a ≢ b) ns
different_rest n ns h i j d lt within = h (suc i) (suc j) d (omega arith) (omega arith)

first_is_none : (n : List ℕ) (ns : List (List ℕ)) → AllPairs (λ a b. a ≢ b) (n ∷ ns) → list_any (bytes_eq n) ns ≡ false
first_is_none n ns h =
    list_any_none (bytes_eq n) ns (λ k d lt. false_from_ne_true (bytes_eq n _)
    (λ same. h 0 (suc k) d (omega arith) (omega arith) ((bytes_eq-Decides n _).0 same)))

-- writing a row of another name leaves the total
total_without : (ns : List (List ℕ)) (name : List ℕ) (v : ℤ × ℤ) (rows : Rows) → list_any (bytes_eq name) ns ≡ false
    → total_of (map (row_of (insert rows name v)) ns) ≡ total_of (map (row_of rows) ns)
total_without [] name v rows h = refl
total_without (n ∷ ns) name v rows h =
    let both = or_parts (bytes_eq name n) (list_any (bytes_eq name) ns) h in
    let kept : get (insert rows name v) n ≡ get rows n = get-insert_name rows name v n ∙ ap (λ t. cond t (Some v) (get rows n)) (other_name name n both.0) in
    rw (kept, total_without ns name v rows both.1) refl

-- writing a row of one of the names changes the total by the difference
total_with : (ns : List (List ℕ)) (name : List ℕ) (rows : Rows) (s c s_new c_new : ℤ) → AllPairs (λ a b. a ≢ b) ns → list_any (bytes_eq name) ns ≡ true
    → get rows name ≡ Some (s, c)
    → total_of (map (row_of (insert rows name (s_new, c_new))) ns) ≡ total_of (map (row_of rows) ns) +ℤ ((s_new +ℤ c_new) -ℤ (s +ℤ c))
total_with [] name rows s c s_new c_new different some is = absurd cc
total_with (n ∷ ns) name rows s c s_new c_new different some is =
    by (bytes_eq name n) refl (λ later. total_with ns name rows s c s_new c_new (different_rest n ns different) later is)
  where
    by : (test : Bool) → bytes_eq name n ≡ test
        → (list_any (bytes_eq name) ns ≡ true → total_of (map (row_of (insert rows name (s_new, c_new))) ns)
        ≡ total_of (map (row_of rows) ns) +ℤ ((s_new +ℤ c_new) -ℤ (s +ℤ c)))
        → total_of (map (row_of (insert rows name (s_new, c_new))) (n ∷ ns)) ≡ total_of (map (row_of rows) (n ∷ ns)) +ℤ ((s_new +ℤ c_new) -ℤ (s +ℤ c))
    by true e more =
        let here : name ≡ n = (bytes_eq-Decides name n).0 e in
        let written : get (insert rows name (s_new, c_new)) n ≡ Some (s_new, c_new) =
        get-insert_name rows name (s_new, c_new) n ∙ ap (λ t. cond t (Some (s_new, c_new)) (get rows n)) ((bytes_eq-Decides n name).1 (sym here)) in
        let before : get rows n ≡ Some (s, c) = ap (get rows) (sym here) ∙ is in
        let rest = total_without ns name (s_new, c_new) rows (ap (λ (q : List ℕ). list_any (bytes_eq q) ns) here ∙ first_is_none n ns different) in
        rw (written, before, rest) (omega (arith, ints))
    by false e more =
        let kept : get (insert rows name (s_new, c_new)) n ≡ get rows n = get-insert_name rows name (s_new, c_new) n
        ∙ ap (λ t. cond t (Some (s_new, c_new)) (get rows n)) (other_name name n e) in
        let rest = more (rw e at some) in
        rw (kept, rest) (omega (arith, ints))

module _ {directory : List (List ℕ)} {rows : Rows} {s c : ℤ} (name : List ℕ) (h : HasNames directory rows) (is : get rows name ≡ Some (s, c)) where
  -- replacing a row changes the total by the difference of the two
  pub total_of-insert : (s_new c_new : ℤ)
      → total_of (rows_in_order directory (insert rows name (s_new, c_new))) ≡ total_of (rows_in_order directory rows) +ℤ ((s_new +ℤ c_new) -ℤ (s +ℤ c))
  unfolding rows_in_order
  total_of-insert s_new c_new =
      let some : list_any (bytes_eq name) directory ≡ true = sym (has_place directory name) ∙ sym (h.same name) ∙ ap (λ (o : Option (ℤ × ℤ)). is_some o) is in
      total_with directory name rows s c s_new c_new h.names.different some is

  -- and the names are the same
  pub HasNames-insert : (v : ℤ × ℤ) → HasNames directory (insert rows name v)
  HasNames-insert v = record {
    names = h.names;
    same = λ q. ap (λ (o : Option (ℤ × ℤ)). is_some o) (get-insert_name rows name v q) ∙ by q (bytes_eq q name) refl ∙ h.same q;
  }
    where
      by : (q : List ℕ) (test : Bool) → bytes_eq q name ≡ test → is_some (cond test (Some v) (get rows q)) ≡ is_some (get rows q)
      by q true e = sym (ap (λ (o : Option (ℤ × ℤ)). is_some o) (ap (get rows) ((bytes_eq-Decides q name).0 e) ∙ is))
      by q false e = refl

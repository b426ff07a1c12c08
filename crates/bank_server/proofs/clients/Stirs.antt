-- Who is stirred in a turn: told something, or ended.
use Rattle.std.proofs.Common.{◌≡◌, ℕ, zero, suc, map, ◌+◌, ◌<◌, drop, get_or, Bool, true, false, Option, Some, None, is_some, List, [], ◌∷◌, ◌++◌, length, refl, sym, ap, subst, ◌∙◌, inl, inr}
use Rattle.std.specs.Prelude.{◌==◌, ◌≢◌, ◌⊎◌, IfSome, slice_get, slice_set}
use Rattle.std.specs.List.{All, Contains}
use Rattle.std.proofs.lemmas.Bool.{eqb-true}
use Rattle.std.proofs.lemmas.List.Elements.{All-cons, All-contains, All-contains_itself, All-head, All-nil, Contains-append_cases, Contains-append_left, Contains-append_right}
use Rattle.std.proofs.lemmas.List.{drop_more, nil_from_length}
use Rattle.std.proofs.lemmas.Option.{get_or_from_slice_get, slice_get-get_or, slice_get_within}
use Rattle.sb_calls.proofs.CownContents.{eqb-refl}
use Rattle.cown_board.proofs.StateChanges.{slice_get-set_other, slice_get-set_same}
use Rattle.bank_server.specs.Clients.{AreCalmBut, AreUntold, ClientOf, End, IsCalm, IsReady, IsSound}
use Rattle.bank_server.specs.inner.ClientTurns.{AreDueWithin}

false_is_true : false ≡ true → ⊥
false_is_true f = cc

some_is : {A : Type 0} {x y : A} → ◌≡◌ {A = Option A} (Some x) (Some y) → x ≡ y
some_is h = cc

none_is_some : {A : Type 0} {x : A} → ◌≡◌ {A = Option A} None (Some x) → ⊥
none_is_some h = cc

-- one client is put in the place of another one that has the same outcomes
pub untold_but_one : (clients : List ClientOf) (k : ℕ) (old new : ClientOf) → slice_get clients k ≡ Some old → new.outcomes ≡ old.outcomes
    → AreUntold clients (slice_set clients k new)
untold_but_one [] k old new is same = absurd (none_is_some is)
untold_but_one (client ∷ clients) zero old new is same =
    ap (λ l. l ∷ map (λ (x : ClientOf). x.outcomes) clients) (same ∙ ap (λ (x : ClientOf). x.outcomes) (sym (some_is is)))
untold_but_one (client ∷ clients) (suc k) old new is same = ap (λ l. client.outcomes ∷ l) (untold_but_one clients k old new is same)

-- at first nobody is
pub calm_at_first : (clients : List ClientOf) → All (λ (c : ClientOf). c.due ≡ 0) clients → AreCalmBut [] clients clients
calm_at_first clients none_due i = by (slice_get clients i) refl
  where
    by : (o : Option ClientOf) → slice_get clients i ≡ o → IsCalm o o ⊎ Contains [] i
    by None e = inl tt
    by (Some c) e = inl (
      refl,
      refl,
      subst (λ (x : ClientOf). x.due ≡ 0)
          (get_or_from_slice_get clients i c c e) (none_due i c (slice_get_within clients i c e)),
    )

-- one client more is stirred
pub calm_but_one : (stirred : List ℕ) (first olds : List ClientOf) (k : ℕ) (new : ClientOf) → AreCalmBut stirred first olds
    → AreCalmBut (stirred ++ k ∷ []) first (slice_set olds k new)
calm_but_one stirred first olds k new calm i = by (k == i) refl
  where
    other : IsCalm (slice_get first i) (slice_get olds i) ⊎ Contains stirred i → IsCalm (slice_get first i) (slice_get olds i) ⊎ Contains (stirred ++ k ∷ []) i
    other (inl is) = inl is
    other (inr there) = inr (Contains-append_left stirred (k ∷ []) i there)

    by : (test : Bool) → (k == i) ≡ test → IsCalm (slice_get first i) (slice_get (slice_set olds k new) i) ⊎ Contains (stirred ++ k ∷ []) i
    by true mine = inr (subst (Contains (stirred ++ k ∷ [])) (eqb-true k i mine)
        (Contains-append_right stirred (k ∷ []) k (All-head (Contains (k ∷ [])) k [] (All-contains_itself (k ∷ [])))))
    by false not_mine =
        let apart : i ≢ k = λ e. false_is_true (sym not_mine ∙ ap (λ n. k == n) e ∙ eqb-refl k) in
        subst (λ o. IsCalm (slice_get first i) o ⊎ Contains (stirred ++ k ∷ []) i) (sym (slice_get-set_other olds k i new apart)) (other (calm i))

-- a client that is as over as it was has the same ending
pub same_ending : (old new : Option End) → (is_some old ≡ true → new ≡ old) → is_some new ≡ is_some old → new ≡ old
same_ending None None over same = refl
same_ending None (Some end) over same = absurd (false_is_true (sym same))
same_ending (Some end) new over same = over refl

-- a client that was given nothing and didn't end isn't
pub calm_still : (stirred : List ℕ) (first olds : List ClientOf) (k : ℕ) (old new : ClientOf) → slice_get olds k ≡ Some old
    → new.outcomes ≡ old.outcomes → new.ending ≡ old.ending → new.due ≡ 0 → AreCalmBut stirred first olds
    → AreCalmBut stirred first (slice_set olds k new)
calm_still stirred first olds k old new is outcomes ending due calm i = by (k == i) refl
  where
    calm_on : (o : Option ClientOf) → IsCalm o (Some old) → IsCalm o (Some new)
    calm_on None h = absurd h
    calm_on (Some c) h = (outcomes ∙ h.0, ending ∙ h.1, due)

    own : (o : Option ClientOf) → IsCalm o (Some old) ⊎ Contains stirred k → IsCalm o (Some new) ⊎ Contains stirred k
    own o (inl h) = inl (calm_on o h)
    own o (inr there) = inr there

    by : (test : Bool) → (k == i) ≡ test → IsCalm (slice_get first i) (slice_get (slice_set olds k new) i) ⊎ Contains stirred i
    by true mine = subst (λ n. IsCalm (slice_get first n) (slice_get (slice_set olds k new) n) ⊎ Contains stirred n) (eqb-true k i mine)
        (subst (λ o. IsCalm (slice_get first k) o ⊎ Contains stirred k) (sym (slice_get-set_same olds k new (slice_get_within olds k old is)))
        (own (slice_get first k) (subst (λ o. IsCalm (slice_get first k) o ⊎ Contains stirred k) is (calm k))))
    by false not_mine =
        let apart : i ≢ k = λ e. false_is_true (sym not_mine ∙ ap (λ n. k == n) e ∙ eqb-refl k) in
        subst (λ o. IsCalm (slice_get first i) o ⊎ Contains stirred i) (sym (slice_get-set_other olds k i new apart)) (calm i)

-- something is due only to those who are stirred
pub due_within : (stirred : List ℕ) (olds news : List ClientOf) → AreCalmBut stirred olds news → AreDueWithin stirred news
due_within stirred olds news calm i = by (slice_get olds i) (slice_get news i) (calm i)
  where
    by : (o n : Option ClientOf) → IsCalm o n ⊎ Contains stirred i → IfSome n (λ c. (c.due ≡ 0) ⊎ Contains stirred i)
    by o None h = tt
    by None (Some n) (inl h) = absurd h
    by (Some o) (Some n) (inl h) = inl h.2
    by o (Some n) (inr there) = inr there

-- one who is stirred may change
pub calm_anyway : (stirred : List ℕ) (first olds : List ClientOf) (k : ℕ) (new : ClientOf) → Contains stirred k → AreCalmBut stirred first olds
    → AreCalmBut stirred first (slice_set olds k new)
calm_anyway stirred first olds k new there calm i = by (k == i) refl
  where
    by : (test : Bool) → (k == i) ≡ test → IsCalm (slice_get first i) (slice_get (slice_set olds k new) i) ⊎ Contains stirred i
    by true mine = inr (subst (Contains stirred) (eqb-true k i mine) there)
    by false not_mine =
        let apart : i ≢ k = λ e. false_is_true (sym not_mine ∙ ap (λ n. k == n) e ∙ eqb-refl k) in
        subst (λ o. IsCalm (slice_get first i) o ⊎ Contains stirred i) (sym (slice_get-set_other olds k i new apart)) (calm i)

-- the first of those to whom something is due was told
pub due_after_one : (list : List ℕ) (index k : ℕ) (olds : List ClientOf) (new : ClientOf) → index < length list → get_or list index 0 ≡ k → k < length olds
    → new.due ≡ 0 → AreDueWithin (drop index list) olds → AreDueWithin (drop (index + 1) list) (slice_set olds k new)
due_after_one list index k olds new lt is within none_due due i = by (k == i) refl
  where
    rest : List ℕ
    rest = drop (index + 1) list

    parts : drop index list ≡ k ∷ rest
    parts = drop_more list index 0 lt ∙ ap (λ n. n ∷ rest) is

    later : i ≢ k → Contains (k ∷ rest) i → Contains rest i
    later apart there = cases (Contains-append_cases (k ∷ []) rest i there)
      where
        cases : Contains (k ∷ []) i ⊎ Contains rest i → Contains rest i
        cases (inl first) = absurd (apart (sym (All-contains (λ n. k ≡ n) (k ∷ []) i (All-cons (λ n. k ≡ n) k [] refl (All-nil (λ n. k ≡ n))) first)))
        cases (inr there) = there

    one : i ≢ k → (o : Option ClientOf) → IfSome o (λ c. (c.due ≡ 0) ⊎ Contains (k ∷ rest) i) → IfSome o (λ c. (c.due ≡ 0) ⊎ Contains rest i)
    one apart None h = tt
    one apart (Some c) (inl h) = inl h
    one apart (Some c) (inr there) = inr (later apart there)

    by : (test : Bool) → (k == i) ≡ test → IfSome (slice_get (slice_set olds k new) i) (λ c. (c.due ≡ 0) ⊎ Contains rest i)
    by true mine = subst (λ n. IfSome (slice_get (slice_set olds k new) n) (λ c. (c.due ≡ 0) ⊎ Contains rest n)) (eqb-true k i mine)
        (subst (λ o. IfSome o (λ c. (c.due ≡ 0) ⊎ Contains rest k)) (sym (slice_get-set_same olds k new within)) (inl none_due))
    by false not_mine =
        let apart : i ≢ k = λ e. false_is_true (sym not_mine ∙ ap (λ n. k == n) e ∙ eqb-refl k) in
        subst (λ o. IfSome o (λ c. (c.due ≡ 0) ⊎ Contains rest i)) (sym (slice_get-set_other olds k i new apart))
        (one apart (slice_get olds i) (subst (λ (l : List ℕ). IfSome (slice_get olds i) (λ c. (c.due ≡ 0) ⊎ Contains l i)) parts (due i)))

-- nothing is due to anybody
pub none_due_now : (clients : List ClientOf) → AreDueWithin [] clients → (i : ℕ) → IfSome (slice_get clients i) (λ c. c.due ≡ 0)
none_due_now clients due i = by (slice_get clients i) (due i)
  where
    nobody : Contains [] i → ⊥
    nobody there = All-contains (λ (n : ℕ). ⊥) [] i (All-nil (λ (n : ℕ). ⊥)) there

    by : (o : Option ClientOf) → IfSome o (λ c. (c.due ≡ 0) ⊎ Contains [] i) → IfSome o (λ c. c.due ≡ 0)
    by None h = tt
    by (Some c) (inl h) = h
    by (Some c) (inr there) = absurd (nobody there)

pub all_none_due : (clients : List ClientOf) → ((i : ℕ) → IfSome (slice_get clients i) (λ c. c.due ≡ 0)) → All (λ (c : ClientOf). c.due ≡ 0) clients
all_none_due clients each k d lt = subst (λ o. IfSome o (λ (c : ClientOf). c.due ≡ 0)) (slice_get-get_or clients k d lt) (each k)

-- one who is among the stirred
pub is_stirred : (stirred : List ℕ) (index k : ℕ) → index < length stirred → get_or stirred index 0 ≡ k → Contains stirred k
is_stirred stirred index k lt is = subst (Contains stirred) is (All-contains_itself stirred index 0 lt)

pub all_ready : (calls : ℕ) (clients : List ClientOf) → All (λ (c : ClientOf). IsSound calls c) clients
    → ((i : ℕ) → IfSome (slice_get clients i) (λ c. c.due ≡ 0)) → All (λ (c : ClientOf). IsReady calls c) clients
all_ready calls clients sound none_due k d lt = record { sound = sound k d lt; none_due = all_none_due clients none_due k d lt }

pub none_if_empty : (list : List ℕ) (count : ℕ) → count ≡ length list → (count == 0) ≡ true → list ≡ []
none_if_empty list count is none = nil_from_length list (sym is ∙ eqb-true count 0 none)

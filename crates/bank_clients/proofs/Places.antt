-- What holds of each client, at its place.
use Rattle.std.proofs.Common.{◌≡◌, ℕ, ◌+◌, ◌<◌, Bool, true, false, Option, Some, None, List, [], ◌∷◌, refl, sym, ap, subst, ◌∙◌, drop, length, inl, inr, Bor}
use Rattle.std.specs.Option.{option_copied, option_map}
use Rattle.std.specs.Slice.{IsItemAt}
use Rattle.std.specs.Prelude.{◌==◌, ◌≢◌, ◌⊎◌, IfSome, slice_get, slice_set}
use Rattle.std.specs.List.{Contains}
use Rattle.std.proofs.lemmas.Bool.{eqb-true, false≢true}
use Rattle.std.proofs.lemmas.List.{drop_more}
use Rattle.std.proofs.lemmas.List.Elements.{All-cons, All-contains, All-nil, Contains-append_cases}
use Rattle.std.proofs.lemmas.Option.{get_or_from_slice_get, none-some, same_Some, slice_get-get_or, slice_get-map, slice_get_past, slice_get_within}
use Rattle.sb_calls.proofs.CownContents.{eqb-refl}
use Rattle.cown_board.proofs.StateChanges.{slice_get-set_other, slice_get-set_same}
use Rattle.bank_server.specs.Clients.{ClientOf, End}
use Rattle.bank_clients.specs.inner.Rounds.{endings_of}

-- ---- lists of places

pub nobody_among : (i : ℕ) → Contains [] i → ⊥
nobody_among i there = All-contains (λ (n : ℕ). ⊥) [] i (All-nil (λ (n : ℕ). ⊥)) there

pub one_alone : (place i : ℕ) → Contains (place ∷ []) i → place ≡ i
one_alone place i there =
    All-contains (λ (n : ℕ). place ≡ n) (place ∷ []) i (All-cons (λ (n : ℕ). place ≡ n) place [] refl (All-nil (λ (n : ℕ). place ≡ n))) there

pub among_rest : (place : ℕ) (places : List ℕ) (i : ℕ) → i ≢ place → Contains (place ∷ places) i → Contains places i
among_rest place places i apart there = by (Contains-append_cases (place ∷ []) places i there)
  where
    by : Contains (place ∷ []) i ⊎ Contains places i → Contains places i
    by (inl first) = absurd (apart (sym (one_alone place i first)))
    by (inr later) = later

-- those from an index on
pub rest_from : (places : List ℕ) (index place : ℕ) → slice_get places index ≡ Some place
    → drop index places ≡ place ∷ drop (index + 1) places
rest_from places index place is =
    drop_more places index 0 (slice_get_within places index place is)
    ∙ ap (λ (n : ℕ). n ∷ drop (index + 1) places) (get_or_from_slice_get places index place 0 is)

-- what a read of a list gives
pub read_at : (places : List ℕ) (index : ℕ) (read : Option (Bor ℕ)) → IsItemAt places index read → option_copied read ≡ slice_get places index
read_at places index None is = sym (slice_get_past places index is.3)
read_at places index (Some place) is =
    ap (λ (n : ℕ). Some n) (is.3.1 place.now) ∙ sym (slice_get-get_or places index place.now is.3.0)

-- ---- clients

-- what holds of a client, if it is there
pub if_there : (P : ClientOf → Type 0) (clients : List ClientOf) (place : ℕ) (client : ClientOf) → slice_get clients place ≡ Some client
    → IfSome (slice_get clients place) P → P client
if_there P clients place client is h = subst (λ (o : Option ClientOf). IfSome o P) is h

-- one client is another now
pub each_with : (P : ℕ → ClientOf → Type 0) (clients : List ClientOf) (place : ℕ) (new : ClientOf) → place < length clients → P place new
    → ((i : ℕ) → i ≢ place → IfSome (slice_get clients i) (P i)) → (i : ℕ) → IfSome (slice_get (slice_set clients place new) i) (P i)
each_with P clients place new within here others i = by (place == i) refl
  where
    by : (test : Bool) → (place == i) ≡ test → IfSome (slice_get (slice_set clients place new) i) (P i)
    by true mine = subst (λ n. IfSome (slice_get (slice_set clients place new) n) (P n)) (eqb-true place i mine)
        (subst (λ o. IfSome o (P place)) (sym (slice_get-set_same clients place new within)) here)
    by false not_mine =
        let apart : i ≢ place = λ e. false≢true (sym not_mine ∙ ap (λ n. place == n) e ∙ eqb-refl place) in
        subst (λ o. IfSome o (P i)) (sym (slice_get-set_other clients place i new apart)) (others i apart)

-- each client ended as before
pub each_by_ending : (P : ℕ → Option End → Type 0) (old new : List ClientOf) → endings_of new ≡ endings_of old
    → ((i : ℕ) → IfSome (slice_get old i) (λ c. P i c.ending)) → (i : ℕ) → IfSome (slice_get new i) (λ c. P i c.ending)
each_by_ending P old new same each i = by (slice_get old i) (slice_get new i) ends_same (each i)
  where
    ends_same : option_map (λ (c : ClientOf). c.ending) (slice_get new i) ≡ option_map (λ (c : ClientOf). c.ending) (slice_get old i)
    ends_same = sym (slice_get-map (λ (c : ClientOf). c.ending) new i) ∙ ap (λ (l : List (Option End)). slice_get l i) same
        ∙ slice_get-map (λ (c : ClientOf). c.ending) old i

    by : (o n : Option ClientOf) → option_map (λ (c : ClientOf). c.ending) n ≡ option_map (λ (c : ClientOf). c.ending) o
        → IfSome o (λ c. P i c.ending) → IfSome n (λ c. P i c.ending)
    by o None e h = tt
    by None (Some n) e h = absurd (none-some n.ending (sym e))
    by (Some o) (Some n) e h = subst (P i) (sym (same_Some n.ending o.ending e)) h

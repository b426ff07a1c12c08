-- Who has ended, and is to be left.
use Rattle.std.proofs.Common.{arith, ◌≡◌, ℕ, ◌+◌, ◌≤◌, ◌<◌, Bool, true, false, cond, Option, Some, None, List, [], ◌∷◌, refl, sym, ap, subst, ◌∙◌, drop, length, inl, inr}
use Rattle.std.specs.Prelude.{◌==◌, ◌≢◌, ◌⊎◌, IfSome, is_some, not, slice_get, slice_set}
use Rattle.std.specs.List.{All, Contains, filter}
use Rattle.std.proofs.lemmas.Bool.{eqb-true, false≢true}
use Rattle.std.proofs.lemmas.List.Elements.{All-contains, Contains-append_cases, Contains-append_left, Contains-append_right}
use Rattle.sb_calls.proofs.CownContents.{eqb-refl}
use Rattle.bank_server.specs.Clients.{AreCalmBut, ClientOf, End, IsCalm, fresh_client}
use Rattle.bank_server.specs.declared.session.client_limits.ClientLimits.{ClientLimits}
use Rattle.bank_clients.specs.History.{IsOverAt, unread_by_all, unread_limit}
use Rattle.bank_clients.specs.Sessions.{AreListed}
use Rattle.bank_clients.specs.inner.Rounds.{AreToBeListed, IsOverAlone, endings_of}
use Rattle.bank_clients.proofs.Places.{among_rest, each_by_ending, each_with, if_there, nobody_among, one_alone, rest_from}

-- ---- who is listed

-- whoever ends in a turn is stirred
pub ended_in_turn : (listed stirred : List ℕ) (old new : List ClientOf) → AreListed listed old → AreCalmBut stirred old new
    → AreToBeListed listed stirred new
ended_in_turn listed stirred old new all calm i = by (slice_get old i) (slice_get new i) (all i) (calm i)
  where
    by : (o n : Option ClientOf) → IfSome o (λ c. is_some c.ending ≡ true → Contains listed i) → IsCalm o n ⊎ Contains stirred i
        → IfSome n (λ c. is_some c.ending ≡ true → Contains listed i ⊎ Contains stirred i)
    by o None h calm = tt
    by None (Some n) h (inl never) = absurd never
    by (Some o) (Some n) h (inl same) = λ ended. inl (h (ap (λ (e : Option End). is_some e) (sym same.1) ∙ ended))
    by o (Some n) h (inr there) = λ ended. inr there

-- and nobody ends before or after it
pub listed_behind : (listed : List ℕ) (old new : List ClientOf) → endings_of new ≡ endings_of old → AreListed listed old → AreListed listed new
listed_behind listed old new same all = each_by_ending (λ (i : ℕ) (e : Option End). is_some e ≡ true → Contains listed i) old new same all

pub ended_in_round : (listed stirred : List ℕ) (old rested turned : List ClientOf) → AreListed listed old → endings_of rested ≡ endings_of old
    → AreCalmBut stirred rested turned → AreToBeListed listed stirred turned
ended_in_round listed stirred old rested turned all rests calm =
    ended_in_turn listed stirred rested turned (listed_behind listed old rested rests all) calm

-- one more is listed, unless it hasn't ended
pub listed_with : (clients : List ClientOf) (listed listed_after stirred : List ℕ) (index place : ℕ) → slice_get stirred index ≡ Some place
    → ((i : ℕ) → Contains listed i → Contains listed_after i)
    → IfSome (slice_get clients place) (λ c. is_some c.ending ≡ true → Contains listed_after place)
    → AreToBeListed listed (drop index stirred) clients → AreToBeListed listed_after (drop (index + 1) stirred) clients
listed_with clients listed listed_after stirred index place found still own all i = by (place == i) refl
  where
    rest : List ℕ
    rest = drop (index + 1) stirred

    one : i ≢ place → Contains listed i ⊎ Contains (place ∷ rest) i → Contains listed_after i ⊎ Contains rest i
    one apart (inl there) = inl (still i there)
    one apart (inr there) = inr (among_rest place rest i apart there)

    other : i ≢ place → (o : Option ClientOf) → IfSome o (λ c. is_some c.ending ≡ true → Contains listed i ⊎ Contains (place ∷ rest) i)
        → IfSome o (λ c. is_some c.ending ≡ true → Contains listed_after i ⊎ Contains rest i)
    other apart None h = tt
    other apart (Some c) h = λ ended. one apart (h ended)

    here : (o : Option ClientOf) → IfSome o (λ c. is_some c.ending ≡ true → Contains listed_after place)
        → IfSome o (λ c. is_some c.ending ≡ true → Contains listed_after place ⊎ Contains rest place)
    here None h = tt
    here (Some c) h = λ ended. inl (h ended)

    by : (test : Bool) → (place == i) ≡ test → IfSome (slice_get clients i) (λ c. is_some c.ending ≡ true → Contains listed_after i ⊎ Contains rest i)
    by true mine = subst (λ n. IfSome (slice_get clients n) (λ c. is_some c.ending ≡ true → Contains listed_after n ⊎ Contains rest n)) (eqb-true place i mine)
        (here (slice_get clients place) own)
    by false not_mine =
        let apart : i ≢ place = λ e. false≢true (sym not_mine ∙ ap (λ n. place == n) e ∙ eqb-refl place) in
        other apart (slice_get clients i)
        (subst (λ (l : List ℕ). IfSome (slice_get clients i) (λ c. is_some c.ending ≡ true → Contains listed i ⊎ Contains l i))
        (rest_from stirred index place found) (all i))

-- why one is listed, or hasn't ended
pub listed_anyway : (clients : List ClientOf) (place : ℕ) (IsListed : Type 0) → IsListed
    → IfSome (slice_get clients place) (λ c. is_some c.ending ≡ true → IsListed)
listed_anyway clients place IsListed is = by (slice_get clients place)
  where
    by : (o : Option ClientOf) → IfSome o (λ c. is_some c.ending ≡ true → IsListed)
    by None = tt
    by (Some c) = λ ended. is

pub listed_if_ended : (clients : List ClientOf) (place : ℕ) (IsListed : Type 0) (ending : Option End)
    → IfSome (slice_get clients place) (λ c. ending ≡ c.ending) → is_some ending ≡ false
    → IfSome (slice_get clients place) (λ c. is_some c.ending ≡ true → IsListed)
listed_if_ended clients place IsListed ending same open_end = by (slice_get clients place) same
  where
    by : (o : Option ClientOf) → IfSome o (λ c. ending ≡ c.ending) → IfSome o (λ c. is_some c.ending ≡ true → IsListed)
    by None h = tt
    by (Some c) h = λ ended. absurd (false≢true (sym open_end ∙ ap (λ (e : Option End). is_some e) h ∙ ended))

-- ---- who is over

-- whoever is over by its own client has ended, and is listed
none_over_alone : (clients : List ClientOf) (listed : List ℕ) → AreListed listed clients
    → All (λ (place : ℕ). (end : End) → ¬ IsOverAlone clients place end) listed → (place : ℕ) (end : End) → ¬ IsOverAlone clients place end
none_over_alone clients listed all none place end (client, is, over) =
    let ended : is_some client.ending ≡ true = ap (λ (e : Option End). is_some e) over.1 in
    All-contains (λ (place : ℕ). (end : End) → ¬ IsOverAlone clients place end) listed place none
    (if_there (λ c. is_some c.ending ≡ true → Contains listed place) clients place client is (all place) ended) end (client, is, over)

-- and nobody else is, if all together have few unread
pub none_over : (clients : List ClientOf) (listed : List ℕ) → AreListed listed clients
    → All (λ (place : ℕ). (end : End) → ¬ IsOverAlone clients place end) listed → unread_by_all clients ≤ unread_limit
    → (place : ℕ) (end : End) → ¬ IsOverAt clients place end
none_over clients listed all none few place end (client, is, inl over) = none_over_alone clients listed all none place end (client, is, over)
none_over clients listed all none few place end (client, is, inr (ended, most)) = omega (arith, most.0, few)

-- ---- who was left

kept_with : (first i : ℕ) (rest kept : List ℕ) (test : ℕ → Bool) → test i ≡ true → (Contains rest i → Contains kept i)
    → (passes : Bool) → test first ≡ passes → Contains (first ∷ []) i ⊎ Contains rest i → Contains (cond passes (first ∷ kept) kept) i
kept_with first i rest kept test own still true is (inl here) = Contains-append_left (first ∷ []) kept i here
kept_with first i rest kept test own still true is (inr there) = Contains-append_right (first ∷ []) kept i (still there)
kept_with first i rest kept test own still false is (inl here) = absurd (false≢true (sym is ∙ ap test (one_alone first i here) ∙ own))
kept_with first i rest kept test own still false is (inr there) = still there

kept_among : (test : ℕ → Bool) (places : List ℕ) (i : ℕ) → test i ≡ true → Contains places i → Contains (filter test places) i
kept_among test [] i own there = absurd (nobody_among i there)
kept_among test (first ∷ rest) i own there =
    kept_with first i rest (filter test rest) test own (kept_among test rest i own) (test first) refl (Contains-append_cases (first ∷ []) rest i there)

others_pass : (place i : ℕ) → i ≢ place → not (i == place) ≡ true
others_pass place i apart = by (i == place) refl
  where
    by : (test : Bool) → (i == place) ≡ test → not test ≡ true
    by true same = absurd (apart (eqb-true i place same))
    by false other = refl

-- one who was left is listed no more
pub listed_without : (limits : ClientLimits) (clients : List ClientOf) (listed : List ℕ) (place : ℕ) → place < length clients → AreListed listed clients
    → AreListed (filter (λ n. not (n == place)) listed) (slice_set clients place (fresh_client limits))
listed_without limits clients listed place within all =
    each_with (λ (i : ℕ) (c : ClientOf). is_some c.ending ≡ true → Contains (filter (λ n. not (n == place)) listed) i)
    clients place (fresh_client limits) within
    (λ ended. absurd (false≢true ended)) (λ i apart. by i apart (slice_get clients i) (all i))
  where
    by : (i : ℕ) → i ≢ place → (o : Option ClientOf) → IfSome o (λ c. is_some c.ending ≡ true → Contains listed i)
        → IfSome o (λ c. is_some c.ending ≡ true → Contains (filter (λ n. not (n == place)) listed) i)
    by i apart None h = tt
    by i apart (Some c) h = λ ended. kept_among (λ n. not (n == place)) listed i (others_pass place i apart) (h ended)

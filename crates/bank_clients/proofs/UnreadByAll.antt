-- What all clients together have unread.
use Rattle.std.proofs.Common.{arith, ◌≡◌, ℕ, zero, suc, ◌+◌, ◌≤◌, ◌<◌, Bool, true, false, Option, Some, None, List, [], ◌∷◌, refl, sym, ap, subst, ◌∙◌, length, length-append, take, inl, inr}
use Rattle.std.specs.Prelude.{◌==◌, ◌≢◌, ◌⊎◌, IfSome, replicate, slice_get, slice_set}
use Rattle.std.specs.List.{Contains, sum_by}
use Rattle.std.proofs.lemmas.Bool.{eqb-true, false≢true}
use Rattle.std.proofs.lemmas.List.Elements.{All-contains}
use Rattle.std.proofs.lemmas.List.Folds.{sum_by-replicate}
use Rattle.std.proofs.lemmas.List.Sums.{sum-map, sum_by-cons, sum_by-take-le, sum_by_more}
use Rattle.std.proofs.lemmas.Option.{get_or_from_slice_get}
use Rattle.sb_calls.proofs.CownContents.{eqb-refl}
use Rattle.cown_board.proofs.LogLaws.{some_at}
use Rattle.cown_board.proofs.StateChanges.{slice_get-set_other, slice_get-set_same}
use Rattle.bank_server.specs.Clients.{AreCalmBut, ClientOf, IsCalm, fresh_client}
use Rattle.bank_server.specs.declared.session.client_limits.ClientLimits.{ClientLimits}
use Rattle.bank_clients.specs.History.{unread_by_all, unread_limit}
use Rattle.bank_clients.specs.Sessions.{bytes_to, unread_of}
use Rattle.bank_clients.specs.inner.Rounds.{HaveNoneUnread, LeavesRest}
use Rattle.bank_clients.proofs.Places.{if_there}

-- how many bytes a client has unread
abbrev pub unread : ClientOf → ℕ
unread client = length client.outcomes

abbrev pub unread_at : List ClientOf → ℕ → ℕ
unread_at clients place = length (unread_of (slice_get clients place))

-- ---- the sum

-- behind one more
pub unread_more : (clients : List ClientOf) (place : ℕ) (bytes : List ℕ) → place < length clients
    → IfSome (slice_get clients place) (λ client. bytes ≡ client.outcomes)
    → sum_by unread (take (place + 1) clients) ≡ sum_by unread (take place clients) + length bytes
unread_more clients place bytes within outcomes =
    let (client, is) = some_at clients place within in
    let bytes_are = if_there (λ client. bytes ≡ client.outcomes) clients place client is outcomes in
    sum_by_more unread clients place client within
    ∙ ap (λ (n : ℕ). sum_by unread (take place clients) + n)
    (ap unread (get_or_from_slice_get clients place client client is) ∙ ap length (sym bytes_are))

-- the first ones have no more than all
pub unread_first : (clients : List ClientOf) (count : ℕ) → sum_by unread (take count clients) ≤ unread_by_all clients
unread_first clients count = omega (arith, sum_by-take-le unread clients count, sum-map unread clients)

first_and_rest : (first : ClientOf) (rest : List ClientOf) → unread_by_all (first ∷ rest) ≡ unread first + unread_by_all rest
first_and_rest first rest =
    sum-map unread (first ∷ rest) ∙ sum_by-cons unread first rest ∙ ap (λ (n : ℕ). unread first + n) (sym (sum-map unread rest))

-- if nobody has more unread, all together have no more
pub no_more_by_all : (old new : List ClientOf) → ((i : ℕ) → unread_at new i ≤ unread_at old i) → unread_by_all new ≤ unread_by_all old
no_more_by_all old [] less = omega arith
no_more_by_all [] (first ∷ rest) less =
    omega (arith, first_and_rest first rest, less zero, no_more_by_all [] rest (λ i. less (suc i)))
no_more_by_all (one ∷ old) (first ∷ rest) less =
    omega (arith, first_and_rest first rest, first_and_rest one old, less zero, no_more_by_all old rest (λ i. less (suc i)))

-- nothing is unread before the first byte
pub none_by_fresh : (limits : ClientLimits) (count : ℕ) → unread_by_all (replicate count (fresh_client limits)) ≡ 0
none_by_fresh limits count =
    sum-map unread (replicate count (fresh_client limits)) ∙ sum_by-replicate unread count (fresh_client limits) ∙ omega arith

-- ---- one client

-- a client has nothing unread of whom nothing is read
pub none_unread : (clients : List ClientOf) (place : ℕ) (bytes : List ℕ) → IfSome (slice_get clients place) (λ client. bytes ≡ client.outcomes)
    → length bytes ≡ 0 → IfSome (slice_get clients place) (λ client. client.outcomes ≡ [])
none_unread clients place (byte ∷ bytes) outcomes none = absurd (omega (arith, none))
none_unread clients place [] outcomes none = by (slice_get clients place) outcomes
  where
    by : (o : Option ClientOf) → IfSome o (λ client. [] ≡ client.outcomes) → IfSome o (λ client. client.outcomes ≡ [])
    by None is = tt
    by (Some client) is = sym is

-- ---- a round

-- what connections take isn't unread any more
unread_less : (old new : List ClientOf) (sent sent_after : Option (List (ℕ × List ℕ))) → LeavesRest old new sent sent_after → (i : ℕ)
    → unread_at new i ≤ unread_at old i
unread_less old new sent sent_after rests i =
    omega (arith, ap length (rests.rest i), length-append (bytes_to i rests.bytes) (unread_of (slice_get new i)))

-- whoever was told nothing has no more than before, and whoever was told something has none
calm_or_none : (stirred : List ℕ) (old rested turned new : List ClientOf) → ((i : ℕ) → unread_at rested i ≤ unread_at old i)
    → AreCalmBut stirred rested turned → ((i : ℕ) → unread_at new i ≤ unread_at turned i) → HaveNoneUnread stirred new
    → (i : ℕ) → unread_at new i ≤ unread_at old i
calm_or_none stirred old rested turned new rests calm tells none i =
    by (slice_get rested i) (slice_get turned i) (slice_get new i) (rests i) (tells i) (calm i)
    (λ there. All-contains (λ place. IfSome (slice_get new place) (λ client. client.outcomes ≡ [])) stirred i none there)
  where
    by : (r t n : Option ClientOf) → length (unread_of r) ≤ unread_at old i → length (unread_of n) ≤ length (unread_of t)
        → IsCalm r t ⊎ Contains stirred i → (Contains stirred i → IfSome n (λ client. client.outcomes ≡ []))
        → length (unread_of n) ≤ unread_at old i
    by r t None rest tell is own = omega arith
    by r t (Some n) rest tell (inr there) own = omega (arith, ap length (own there))
    by None None n rest tell (inl same) own = omega (arith, rest, tell)
    by None (Some t) n rest tell (inl never) own = absurd never
    by (Some r) None n rest tell (inl never) own = absurd never
    by (Some r) (Some t) n rest tell (inl same) own = omega (arith, rest, tell, ap length same.0)

-- behind a round all together have few unread, if they had before it, and all who were told something have taken all
pub few_behind : (before : Bool) (stirred : List ℕ) (old rested turned new : List ClientOf) (s t u v : Option (List (ℕ × List ℕ)))
    → (before ≡ false → unread_by_all old ≤ unread_limit) → LeavesRest old rested s t → AreCalmBut stirred rested turned
    → LeavesRest turned new u v → (unread_by_all new ≤ unread_limit) ⊎ ((before ≡ false) × HaveNoneUnread stirred new)
    → unread_by_all new ≤ unread_limit
few_behind before stirred old rested turned new s t u v few rests calm tells (inl is) = is
few_behind before stirred old rested turned new s t u v few rests calm tells (inr (none_before, none)) =
    omega (
      arith,
      few none_before,
      no_more_by_all old new
          (calm_or_none stirred old rested turned new (unread_less old rested s t rests) calm (unread_less turned new u v tells) none),
    )

-- ---- who leaves

-- and if somebody leaves
pub few_without : (limits : ClientLimits) (clients : List ClientOf) (place : ℕ) → place < length clients
    → unread_by_all (slice_set clients place (fresh_client limits)) ≤ unread_by_all clients
few_without limits clients place within = no_more_by_all clients (slice_set clients place (fresh_client limits)) less
  where
    by : (i : ℕ) (test : Bool) → (place == i) ≡ test → unread_at (slice_set clients place (fresh_client limits)) i ≤ unread_at clients i
    by i true mine =
        subst (λ (n : ℕ). unread_at (slice_set clients place (fresh_client limits)) n ≤ unread_at clients n) (eqb-true place i mine)
        (omega (arith, ap (λ (o : Option ClientOf). length (unread_of o)) (slice_get-set_same clients place (fresh_client limits) within)))
    by i false not_mine =
        let apart : i ≢ place = λ e. false≢true (sym not_mine ∙ ap (λ n. place == n) e ∙ eqb-refl place) in
        omega (arith, ap (λ (o : Option ClientOf). length (unread_of o)) (slice_get-set_other clients place i (fresh_client limits) apart))

    less : (i : ℕ) → unread_at (slice_set clients place (fresh_client limits)) i ≤ unread_at clients i
    less i = by i (place == i) refl

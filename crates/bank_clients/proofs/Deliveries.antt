-- What connections take, and for whom something is left.
use Rattle.std.proofs.Common.{arith, ◌≡◌, ℕ, zero, suc, ◌+◌, ◌≤◌, ◌<◌, Bool, true, Option, Some, None, List, [], ◌∷◌, refl, sym, ap, subst, ◌∙◌, drop, length, length-drop, inl, inr}
use Rattle.std.specs.Prelude.{◌≢◌, ◌⊎◌, IfSome, slice_get, slice_set}
use Rattle.std.specs.List.{Contains}
use Rattle.std.proofs.lemmas.List.{drop_all}
use Rattle.std.proofs.lemmas.Option.{same_Some, slice_get_within}
use Rattle.cown_board.proofs.LogLaws.{some_at}
use Rattle.bank_server.specs.Clients.{AreCalmBut, ClientOf, ClientsOf, End, IsCalm, fresh_client}
use Rattle.bank_server.specs.declared.session.client_limits.ClientLimits.{ClientLimits}
use Rattle.bank_clients.specs.Sessions.{AreSentBut, IsUnsent}
use Rattle.bank_clients.specs.inner.Rounds.{endings_of}
use Rattle.bank_clients.proofs.Places.{among_rest, each_with, if_there, nobody_among, rest_from}

-- ---- for whom something is left

still_unsent : (full full_after : ℕ → Bool) (places places_after : List ℕ) (i : ℕ) → (IsUnsent full places i → IsUnsent full_after places_after i)
    → (o : Option ClientOf) → IfSome o (λ c. (c.outcomes ≡ []) ⊎ IsUnsent full places i)
    → IfSome o (λ c. (c.outcomes ≡ []) ⊎ IsUnsent full_after places_after i)
still_unsent full full_after places places_after i still None h = tt
still_unsent full full_after places places_after i still (Some c) (inl none) = inl none
still_unsent full full_after places places_after i still (Some c) (inr unsent) = inr (still unsent)

-- the same clients, and each connection that took no more or was among those that take more is so still
pub sent_still : (full full_after : ℕ → Bool) (places places_after : List ℕ) (clients : List ClientOf)
    → ((i : ℕ) → IsUnsent full places i → IsUnsent full_after places_after i) → AreSentBut full places clients
    → AreSentBut full_after places_after clients
sent_still full full_after places places_after clients still sent i =
    still_unsent full full_after places places_after i (still i) (slice_get clients i) (sent i)

unsent_among : (full : ℕ → Bool) (places : List ℕ) (i : ℕ) → IsUnsent full [] i → IsUnsent full places i
unsent_among full places i (inl is) = inl is
unsent_among full places i (inr there) = absurd (nobody_among i there)

-- whoever waits for nobody's connection among none, waits for none among these
pub sent_among : (full : ℕ → Bool) (places : List ℕ) (clients : List ClientOf) → AreSentBut full [] clients → AreSentBut full places clients
sent_among full places clients sent = sent_still full full [] places clients (unsent_among full places) sent

-- all of these were gone through
pub sent_to_all : (full : ℕ → Bool) (places : List ℕ) (index : ℕ) (clients : List ClientOf) → length places ≤ index
    → AreSentBut full (drop index places) clients → AreSentBut full [] clients
sent_to_all full places index clients past sent = subst (λ (l : List ℕ). AreSentBut full l clients) (drop_all index places past) sent

unsent_rest : (full full_after : ℕ → Bool) (place : ℕ) (places : List ℕ) (i : ℕ) → i ≢ place → full_after i ≡ full i
    → IsUnsent full (place ∷ places) i → IsUnsent full_after places i
unsent_rest full full_after place places i apart same (inl is) = inl (same ∙ is)
unsent_rest full full_after place places i apart same (inr there) = inr (among_rest place places i apart there)

-- nobody is at a place behind the clients
pub sent_past : (full : ℕ → Bool) (place : ℕ) (places : List ℕ) (clients : List ClientOf) → length clients ≤ place
    → AreSentBut full (place ∷ places) clients → AreSentBut full places clients
sent_past full place places clients past sent i = by (slice_get clients i) refl (sent i)
  where
    by : (o : Option ClientOf) → slice_get clients i ≡ o → IfSome o (λ c. (c.outcomes ≡ []) ⊎ IsUnsent full (place ∷ places) i)
        → IfSome o (λ c. (c.outcomes ≡ []) ⊎ IsUnsent full places i)
    by None is h = tt
    by (Some c) is h =
        let apart : i ≢ place = λ same. omega (arith, past, slice_get_within clients i c is, same) in
        still_unsent full full (place ∷ places) places i (unsent_rest full full place places i apart refl) (Some c) h

-- those from an index on, but the first
pub sent_on : (full full_after : ℕ → Bool) (places : List ℕ) (index : ℕ) (place : Option ℕ) (clients clients_after : List ClientOf)
    → place ≡ slice_get places index → index < length places
    → IfSome place (λ place. (rest : List ℕ) → AreSentBut full (place ∷ rest) clients → AreSentBut full_after rest clients_after)
    → AreSentBut full (drop index places) clients → AreSentBut full_after (drop (index + 1) places) clients_after
sent_on full full_after places index place clients clients_after is within step sent =
    let (first, found) = some_at places index within in
    subst (λ (o : Option ℕ). IfSome o (λ place. (rest : List ℕ) → AreSentBut full (place ∷ rest) clients → AreSentBut full_after rest clients_after))
    (is ∙ found) step (drop (index + 1) places)
    (subst (λ (l : List ℕ). AreSentBut full l clients) (rest_from places index first found) sent)

-- a connection that takes less than all takes no more then
pub sent_at : (full full_after : ℕ → Bool) (place count : ℕ) (places : List ℕ) (client : ClientOf) (clients : List ClientOf)
    → slice_get clients place ≡ Some client → (count < length client.outcomes → full_after place ≡ true)
    → ((other : ℕ) → other ≢ place → full_after other ≡ full other) → AreSentBut full (place ∷ places) clients
    → AreSentBut full_after places (slice_set clients place (record client { outcomes = drop count client.outcomes }))
sent_at full full_after place count places client clients is filled others sent =
    each_with (λ (i : ℕ) (c : ClientOf). (c.outcomes ≡ []) ⊎ IsUnsent full_after places i) clients place
    (record client { outcomes = drop count client.outcomes }) (slice_get_within clients place client is) (own (drop count client.outcomes) refl)
    (λ i apart. still_unsent full full_after (place ∷ places) places i (unsent_rest full full_after place places i apart (others i apart))
    (slice_get clients i) (sent i))
  where
    own : (rest : List ℕ) → drop count client.outcomes ≡ rest → (drop count client.outcomes ≡ []) ⊎ IsUnsent full_after places place
    own [] left = inl left
    own (byte ∷ rest) left = inr (inl (filled (omega (arith, length-drop count client.outcomes, ap length left))))

-- what a turn tells isn't sent yet
pub sent_before_turn : (full : ℕ → Bool) (stirred : List ℕ) (old new : List ClientOf) → AreSentBut full [] old → AreCalmBut stirred old new
    → AreSentBut full stirred new
sent_before_turn full stirred old new sent calm i = by (slice_get old i) (slice_get new i) (sent i) (calm i)
  where
    by : (o n : Option ClientOf) → IfSome o (λ c. (c.outcomes ≡ []) ⊎ IsUnsent full [] i) → IsCalm o n ⊎ Contains stirred i
        → IfSome n (λ c. (c.outcomes ≡ []) ⊎ IsUnsent full stirred i)
    by o None h calm = tt
    by None (Some n) h (inl never) = absurd never
    by (Some o) (Some n) (inl none) (inl same) = inl (same.0 ∙ none)
    by (Some o) (Some n) (inr unsent) (inl same) = inr (unsent_among full stirred i unsent)
    by o (Some n) h (inr there) = inr (inr there)

-- nothing is left for one who was before its first byte
pub sent_without : (limits : ClientLimits) (full full_after : ℕ → Bool) (places places_after : List ℕ) (place : ℕ)
    (clients : List ClientOf) → place < length clients
    → ((i : ℕ) → i ≢ place → IsUnsent full places i → IsUnsent full_after places_after i) → AreSentBut full places clients
    → AreSentBut full_after places_after (slice_set clients place (fresh_client limits))
sent_without limits full full_after places places_after place clients within still sent =
    each_with (λ (i : ℕ) (c : ClientOf). (c.outcomes ≡ []) ⊎ IsUnsent full_after places_after i) clients place (fresh_client limits) within (inl refl)
    (λ i apart. still_unsent full full_after places places_after i (still i apart) (slice_get clients i) (sent i))

-- ---- one connection

same_endings : (clients : List ClientOf) (place : ℕ) (client new : ClientOf) → slice_get clients place ≡ Some client → new.ending ≡ client.ending
    → endings_of (slice_set clients place new) ≡ endings_of clients
same_endings [] place client new is same = refl
same_endings (first ∷ rest) zero client new is same =
    ap (λ (e : Option End). e ∷ endings_of rest) (same ∙ ap (λ (c : ClientOf). c.ending) (sym (same_Some first client is)))
same_endings (first ∷ rest) (suc place) client new is same =
    ap (λ (l : List (Option End)). first.ending ∷ l) (same_endings rest place client new is same)

-- the connection of a client who is there takes so many of its outcomes: nobody ends, and the same were told something
pub delivers_to_all : (place count : ℕ) (old new : ClientsOf) → place < length old.all
    → IfSome (slice_get old.all place) (λ client. new ≡ record old {
      all = slice_set old.all place (record client { outcomes = drop count client.outcomes });
    })
    → (endings_of new.all ≡ endings_of old.all) × (new.stirred ≡ old.stirred)
delivers_to_all place count old new within taken =
    let (client, is) = some_at old.all place within in
    let same = if_there (λ client. new ≡ record old {
      all = slice_set old.all place (record client { outcomes = drop count client.outcomes });
    }) old.all place client is taken in (
      ap (λ (c : ClientsOf). endings_of c.all) same
          ∙ same_endings old.all place client (record client { outcomes = drop count client.outcomes }) is refl,
      ap (λ (c : ClientsOf). c.stirred) same,
    )

-- and it takes no more then, unless it took all
pub delivers_but : (full full_after : ℕ → Bool) (place count : ℕ) (places bytes : List ℕ) (old new : ClientsOf) → place < length old.all
    → IfSome (slice_get old.all place) (λ client. bytes ≡ client.outcomes) → (count < length bytes → full_after place ≡ true)
    → ((other : ℕ) → other ≢ place → full_after other ≡ full other)
    → IfSome (slice_get old.all place) (λ client. new ≡ record old {
      all = slice_set old.all place (record client { outcomes = drop count client.outcomes });
    })
    → AreSentBut full (place ∷ places) old.all → AreSentBut full_after places new.all
delivers_but full full_after place count places bytes old new within outcomes filled others taken sent =
    let (client, is) = some_at old.all place within in
    let bytes_are = if_there (λ client. bytes ≡ client.outcomes) old.all place client is outcomes in
    let same = if_there (λ client. new ≡ record old {
      all = slice_set old.all place (record client { outcomes = drop count client.outcomes });
    }) old.all place client is taken in
    subst (λ (c : ClientsOf). AreSentBut full_after places c.all) (sym same)
    (sent_at full full_after place count places client old.all is
    (subst (λ (l : List ℕ). count < length l → full_after place ≡ true) bytes_are filled) others sent)

-- What connections take of what clients have unread.
use Rattle.std.proofs.Common.{◌≡◌, ℕ, ◌<◌, Bool, true, false, if◌then◌else◌, Option, Some, None, List, [], inl, inr, ◌⊎◌, ◌∷◌, ◌++◌, refl, sym, ap, subst, ◌∙◌, append-nil, append_assoc, drop, length}
use Rattle.std.specs.Prelude.{◌==◌, ◌≢◌, IfSome, slice_get, slice_set, take}
use Rattle.std.proofs.lemmas.Bool.{eqb-true, false≢true}
use Rattle.std.proofs.lemmas.Grind.{flat_map-append}
use Rattle.std.proofs.lemmas.List.{take-append-drop}
use Rattle.sb_calls.proofs.CownContents.{eqb-refl}
use Rattle.cown_board.proofs.LogLaws.{some_at}
use Rattle.cown_board.proofs.StateChanges.{slice_get-set_other, slice_get-set_same}
use Rattle.std.specs.List.{Contains}
use Rattle.bank_server.specs.Clients.{AreCalmBut, ClientOf, ClientsOf, IsCalm, OutgoingOf}
use Rattle.bank_clients.specs.History.{TakesBytes}
use Rattle.bank_clients.specs.Sessions.{SessionsOf, TakesUnread, bytes_to, unread_of}
use Rattle.bank_clients.specs.inner.Rounds.{LeavesRest}
use Rattle.bank_clients.proofs.Histories.{nothing_went, went_then}
use Rattle.bank_clients.proofs.Places.{if_there, nobody_among}

-- nothing is taken
pub rests_still : (clients : List ClientOf) (sent : Option (List (ℕ × List ℕ))) → LeavesRest clients clients sent sent
rests_still clients sent = record { bytes = []; took = nothing_went sent; rest = λ place. refl }

-- bytes are taken, and then more
pub rests_then : (a b c : List ClientOf) (s t u : Option (List (ℕ × List ℕ))) → LeavesRest a b s t → LeavesRest b c t u → LeavesRest a c s u
rests_then a b c s t u first second = record {
  bytes = first.bytes ++ second.bytes;
  took = went_then s t u first.bytes second.bytes first.took second.took;
  rest = λ place. first.rest place ∙ ap (λ (l : List ℕ). bytes_to place first.bytes ++ l) (second.rest place)
      ∙ sym (append_assoc (bytes_to place first.bytes) (bytes_to place second.bytes) (unread_of (slice_get c place)))
      ∙ ap (λ (l : List ℕ). l ++ unread_of (slice_get c place))
      (sym (flat_map-append (λ (t : ℕ × List ℕ). if t.0 == place then t.1 else []) first.bytes second.bytes));
}

-- the connection of a client who is there takes so many of its outcomes
rest_of_one : (clients : List ClientOf) (place count : ℕ) (client : ClientOf) → place < length clients → slice_get clients place ≡ Some client
    → (i : ℕ) → unread_of (slice_get clients i) ≡ bytes_to i ((place, take count client.outcomes) ∷ [])
    ++ unread_of (slice_get (slice_set clients place (record client { outcomes = drop count client.outcomes })) i)
rest_of_one clients place count client within is i = by (place == i) refl
  where
    new : ClientOf
    new = record client { outcomes = drop count client.outcomes }

    taken : List ℕ
    taken = take count client.outcomes

    here : unread_of (slice_get clients place) ≡ (taken ++ []) ++ unread_of (slice_get (slice_set clients place new) place)
    here = ap unread_of is ∙ sym (take-append-drop count client.outcomes)
        ∙ ap (λ (l : List ℕ). l ++ drop count client.outcomes) (sym (append-nil taken))
        ∙ ap (λ (o : Option ClientOf). (taken ++ []) ++ unread_of o) (sym (slice_get-set_same clients place new within))

    by : (test : Bool) → (place == i) ≡ test → unread_of (slice_get clients i)
        ≡ ((if test then taken else []) ++ []) ++ unread_of (slice_get (slice_set clients place new) i)
    by true mine = subst (λ (n : ℕ). unread_of (slice_get clients n) ≡ (taken ++ []) ++ unread_of (slice_get (slice_set clients place new) n))
        (eqb-true place i mine) here
    by false not_mine =
        let apart : i ≢ place = λ e. false≢true (sym not_mine ∙ ap (λ n. place == n) e ∙ eqb-refl place) in
        ap unread_of (sym (slice_get-set_other clients place i new apart))

pub rests_at : (place count : ℕ) (bytes : List ℕ) (old new : ClientsOf) (sent sent_after : Option (List (ℕ × List ℕ))) → place < length old.all
    → IfSome (slice_get old.all place) (λ client. bytes ≡ client.outcomes) → TakesBytes sent sent_after ((place, take count bytes) ∷ [])
    → IfSome (slice_get old.all place) (λ client. new ≡ record old {
      all = slice_set old.all place (record client { outcomes = drop count client.outcomes });
    })
    → LeavesRest old.all new.all sent sent_after
rests_at place count bytes old new sent sent_after within outcomes took taken =
    let (client, is) = some_at old.all place within in
    let bytes_are = if_there (λ client. bytes ≡ client.outcomes) old.all place client is outcomes in
    let same = if_there (λ client. new ≡ record old {
      all = slice_set old.all place (record client { outcomes = drop count client.outcomes });
    }) old.all place client is taken in
    subst (λ (c : ClientsOf). LeavesRest old.all c.all sent sent_after) (sym same) (record {
      bytes = (place, take count client.outcomes) ∷ [];
      took = subst (λ (l : List ℕ). TakesBytes sent sent_after ((place, take count l) ∷ [])) bytes_are took;
      rest = rest_of_one old.all place count client within is;
    })

-- so nothing else was taken
takes_unread : (old new : List ClientOf) (sent sent_after : Option (List (ℕ × List ℕ))) → LeavesRest old new sent sent_after
    → TakesUnread old sent sent_after
takes_unread old new sent sent_after rests = record {
  bytes = rests.bytes;
  took = rests.took;
  unread = λ place. (unread_of (slice_get new place), rests.rest place);
}

-- nor after it
pub unsent_behind : {A : Type 0} (outgoing : A → OutgoingOf) (before : SessionsOf A) (rested : List ClientOf) (sent turned : OutgoingOf)
    → LeavesRest before.clients.all rested (outgoing before.connections).sent sent.sent → turned ≡ sent
    → TakesUnread before.clients.all (outgoing before.connections).sent turned.sent
unsent_behind outgoing before rested sent turned rests same =
    subst (λ (o : OutgoingOf). TakesUnread before.clients.all (outgoing before.connections).sent o.sent) (sym same)
    (takes_unread before.clients.all rested (outgoing before.connections).sent sent.sent rests)

-- who is given nothing has unread what it had
still_unread : (old new : Option ClientOf) → IsCalm old new → unread_of old ≡ unread_of new
still_unread None None calm = refl
still_unread None (Some new) calm = absurd calm
still_unread (Some old) None calm = absurd calm
still_unread (Some old) (Some new) calm = sym calm.0

-- a turn that gives nobody anything changes nothing of that
rests_calm : (old turned new : List ClientOf) (sent sent_after : Option (List (ℕ × List ℕ))) → AreCalmBut [] old turned
    → LeavesRest turned new sent sent_after → LeavesRest old new sent sent_after
rests_calm old turned new sent sent_after calm rests = record {
  bytes = rests.bytes;
  took = rests.took;
  rest = λ place. same place (calm place) ∙ rests.rest place;
}
  where
    same : (place : ℕ) → IsCalm (slice_get old place) (slice_get turned place) ⊎ Contains [] place
        → unread_of (slice_get old place) ≡ unread_of (slice_get turned place)
    same place (inl is) = still_unread (slice_get old place) (slice_get turned place) is
    same place (inr there) = absurd (nobody_among place there)

-- a round in which nobody is told anything takes only what was unread
pub round_unread : (stirred : List ℕ) (before rested turned last : List ClientOf) (s t u v : Option (List (ℕ × List ℕ))) → stirred ≡ []
    → LeavesRest before rested s t → AreCalmBut stirred rested turned → u ≡ t → LeavesRest turned last u v → TakesUnread before s v
round_unread stirred before rested turned last s t u v none first calm same second =
    let calm_all = subst (λ (l : List ℕ). AreCalmBut l rested turned) none calm in
    let behind = subst (λ (o : Option (List (ℕ × List ℕ))). LeavesRest turned last o v) same second in
    takes_unread before last s v (rests_then before rested last s t v first (rests_calm rested turned last t v calm_all behind))

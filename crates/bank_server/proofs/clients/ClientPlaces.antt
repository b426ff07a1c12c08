-- Clients who join and leave, and connections that take outcomes.
use Rattle.std.proofs.Common.{arith, ◌≡◌, ℕ, zero, suc, ◌≤◌, ◌<◌, Bool, true, false, if◌then◌else◌, Option, Some, None, Ok, Err, List, [], ◌∷◌, ◌++◌, drop, length, take, refl, sym, ap, subst, ◌∙◌, append_assoc, inl, inr}
use Rattle.std.specs.Prelude.{◌==◌, ◌≢◌, IfSome, slice_get, slice_set}
use Rattle.std.specs.List.{Contains}
use Rattle.std.proofs.Math.Seq.{take-append_seam}
use Rattle.std.proofs.lemmas.Bool.{eqb-true}
use Rattle.std.proofs.lemmas.List.Elements.{All-contains, All-nil, All-push, All-set}
use Rattle.std.proofs.lemmas.List.{length-append, take-append-drop}
use Rattle.std.proofs.lemmas.Option.{get_or_from_slice_get, slice_get_within}
use Rattle.sb_calls.proofs.CownContents.{eqb-refl}
use Rattle.sb_rows.specs.Rows.{Rows}
use Rattle.sb_calls.specs.declared.ask.Key.{Key}
use Rattle.sb_calls.specs.declared.call.Call.{Call}
use Rattle.cown_board.proofs.StateChanges.{slice_get-set_other, slice_get-set_same}
use Rattle.bank_server.specs.Clients.{AreServed, ClientOf, End, HadManyUnread, HasBytes, IsHeard, IsLeft, IsReady, IsServed, PastOf, Piece, StaysReady, StaysServed, fresh_client, no_past, past_with, sends}
use Rattle.bank_server.specs.Session.{IsFromClient}
use Rattle.bank_server.specs.Standing.{IsStandingWithin}
use Rattle.bank_server.specs.declared.session.client_limits.ClientLimits.{ClientLimits}
use Rattle.bank_server.specs.declared.session.inbox.PendingAsk.{PendingAsk}
use Rattle.bank_server.specs.declared.session.session_fault.SessionFault.TheVariants.{Frame, Unexpected, CrewGone, Device, OutOfMemory, Log, TooMany}
use Rattle.bank_server.proofs.sessions.FrameSteps.{nothing_short}

false_is_true : false ≡ true → ⊥
false_is_true f = cc

-- a client before its first byte
pub fresh_ready : (limits : ClientLimits) (calls : ℕ) → IsReady calls (fresh_client limits)
fresh_ready limits calls = record {
  sound = record {
    within = All-nil (λ (a : PendingAsk). IsStandingWithin calls a.standing);
    due = omega arith;
    few_asks = omega arith;
    healthy = λ e. refl;
    few_unread = λ e. omega arith;
  };
  none_due = refl;
}

pub fresh_served : (limits : ClientLimits) (opening : Rows) (asks log : List (Key × Call)) → IsServed opening asks log no_past (fresh_client limits)
fresh_served limits opening asks log = record {
  clients = All-nil IsFromClient;
  among = All-nil (Contains asks);
  given = refl;
  waiting = refl;
  none_due = refl;
  heard = record {
    rest = [];
    bytes_are = refl;
    left = (All-nil HasBytes, refl, (refl, nothing_short));
    failed = (λ f. absurd (false_is_true f), λ there. absurd (All-contains (λ (p : Piece). ⊥) [] None (All-nil (λ (p : Piece). ⊥)) there));
  };
}

pub joins_ready : (limits : ClientLimits) (clients : List ClientOf) → StaysReady clients (clients ++ fresh_client limits ∷ [])
joins_ready limits clients calls ready = All-push (λ (c : ClientOf). IsReady calls c) clients (fresh_client limits) ready (fresh_ready limits calls)

pub vacates_ready : (limits : ClientLimits) (clients : List ClientOf) (place : ℕ) → StaysReady clients (slice_set clients place (fresh_client limits))
vacates_ready limits clients place calls ready =
    All-set (λ (c : ClientOf). IsReady calls c) clients place (fresh_client limits) (fresh_ready limits calls) ready

-- the past of the client at a place, and of the others
past_there : (place : ℕ) (now : PastOf) (past : ℕ → PastOf) → past_with place now past place ≡ now
past_there place now past = ap (λ b. if b then now else past place) (eqb-refl place)

past_elsewhere : (place i : ℕ) (now : PastOf) (past : ℕ → PastOf) → (place == i) ≡ false → past_with place now past i ≡ past i
past_elsewhere place i now past other = ap (λ b. if b then now else past i) other

-- one client is another now, with another past
sets_served : (clients : List ClientOf) (place : ℕ) (new : ClientOf) (now : (ℕ → PastOf) → PastOf) → place < length clients
    → ((opening : Rows) (asks log : List (Key × Call)) (past : ℕ → PastOf) → AreServed (IsServed opening) asks past log clients
    → IsServed opening asks log (now past) new)
    → StaysServed (λ past. past_with place (now past) past) clients (slice_set clients place new)
sets_served clients place new now within serves opening asks log past are =
    record { log_is = are.log_is; each = λ i. by i (place == i) refl }
  where
    by : (i : ℕ) (test : Bool) → (place == i) ≡ test
        → IfSome (slice_get (slice_set clients place new) i) (λ c. IsServed opening asks log (past_with place (now past) past i) c)
    by i true mine = subst (λ n. IfSome (slice_get (slice_set clients place new) n) (λ c. IsServed opening asks log (past_with place (now past) past n) c))
        (eqb-true place i mine)
        (subst (λ o. IfSome o (λ c. IsServed opening asks log (past_with place (now past) past place) c)) (sym (slice_get-set_same clients place new within))
        (subst (λ (p : PastOf). IsServed opening asks log p new) (sym (past_there place (now past) past)) (serves opening asks log past are)))
    by i false not_mine =
        let apart : i ≢ place = λ e. false_is_true (sym not_mine ∙ ap (λ n. place == n) e ∙ eqb-refl place) in
        subst (λ o. IfSome o (λ c. IsServed opening asks log (past_with place (now past) past i) c)) (sym (slice_get-set_other clients place i new apart))
        (subst (λ (p : PastOf). IfSome (slice_get clients i) (λ c. IsServed opening asks log p c)) (sym (past_elsewhere place i (now past) past not_mine))
        (are.each i))

pub vacates_served : (limits : ClientLimits) (clients : List ClientOf) (place : ℕ) → place < length clients
    → StaysServed (past_with place no_past) clients (slice_set clients place (fresh_client limits))
vacates_served limits clients place within =
    sets_served clients place (fresh_client limits) (λ past. no_past) within (λ opening asks log past are. fresh_served limits opening asks log)

-- a new place behind the others
get-push : (clients : List ClientOf) (new : ClientOf) (i : ℕ) (P : ClientOf → Type 0) → IfSome (slice_get clients i) P
    → (i ≡ length clients → P new) → IfSome (slice_get (clients ++ new ∷ []) i) P
get-push [] new zero P h p = p refl
get-push [] new (suc i) P h p = tt
get-push (c ∷ clients) new zero P h p = h
get-push (c ∷ clients) new (suc i) P h p = get-push clients new i P h (λ e. p (ap suc e))

pub joins_served : (limits : ClientLimits) (clients : List ClientOf)
    → StaysServed (past_with (length clients) no_past) clients (clients ++ fresh_client limits ∷ [])
joins_served limits clients opening asks log past are = record { log_is = are.log_is; each = λ i. by i (length clients == i) refl }
  where
    by : (i : ℕ) (test : Bool) → (length clients == i) ≡ test
        → IfSome (slice_get (clients ++ fresh_client limits ∷ []) i) (λ c. IsServed opening asks log (past_with (length clients) no_past past i) c)
    by i true mine = get-push clients (fresh_client limits) i (λ c. IsServed opening asks log (past_with (length clients) no_past past i) c)
        (nobody (slice_get clients i) refl)
        (λ e. subst (λ (p : PastOf). IsServed opening asks log p (fresh_client limits))
        (sym (ap (λ b. if b then no_past else past i) mine)) (fresh_served limits opening asks log))
      where
        nobody : (o : Option ClientOf) → slice_get clients i ≡ o → IfSome o (λ c. IsServed opening asks log (past_with (length clients) no_past past i) c)
        nobody None e = tt
        nobody (Some c) e = absurd (omega (arith, slice_get_within clients i c e, eqb-true (length clients) i mine))
    by i false other = get-push clients (fresh_client limits) i (λ c. IsServed opening asks log (past_with (length clients) no_past past i) c)
        (subst (λ (p : PastOf). IfSome (slice_get clients i) (λ c. IsServed opening asks log p c)) (sym (past_elsewhere (length clients) i no_past past other))
        (are.each i))
        (λ e. absurd (false_is_true (sym other ∙ ap (λ n. length clients == n) e ∙ eqb-refl (length clients))))

-- ---- a connection that takes outcomes

still_many : (most : ℕ) (sent outcomes : List ℕ) (count : ℕ) → HadManyUnread most sent outcomes
    → HadManyUnread most (sent ++ take count outcomes) (drop count outcomes)
still_many most sent outcomes count (before, since, is, many) = (
  before,
  since ++ take count outcomes,
  ap (λ (l : List ℕ). l ++ take count outcomes) is ∙ append_assoc before since (take count outcomes),
  subst (λ (l : List ℕ). most < length l)
      (ap (λ (l : List ℕ). since ++ l) (sym (take-append-drop count outcomes)) ∙ sym (append_assoc since (take count outcomes) (drop count outcomes))) many,
)

left_sent : (ending : Option End) (past : PastOf) (client : ClientOf) (count : ℕ) (rest : List ℕ) → IsLeft ending past client rest
    → IsLeft ending (record past { sent = past.sent ++ take count client.outcomes }) (record client { outcomes = drop count client.outcomes }) rest
left_sent None past client count rest is = is
left_sent (Some (Ok done)) past client count rest is = is
left_sent (Some (Err (Frame fault))) past client count rest is = is
left_sent (Some (Err Unexpected)) past client count rest is = is
left_sent (Some (Err CrewGone)) past client count rest is = is
left_sent (Some (Err Device)) past client count rest (inl failed) = inl failed
left_sent (Some (Err Device)) past client count rest (inr many) = inr (still_many client.limits.unread past.sent client.outcomes count many)
left_sent (Some (Err OutOfMemory)) past client count rest is = is
left_sent (Some (Err (Log fault))) past client count rest is = is
left_sent (Some (Err TooMany)) past client count rest is = is

pub heard_sent : (past : PastOf) (client : ClientOf) (count : ℕ) → IsHeard past client
    → IsHeard (record past { sent = past.sent ++ take count client.outcomes }) (record client { outcomes = drop count client.outcomes })
heard_sent past client count heard = record {
  rest = heard.rest;
  bytes_are = heard.bytes_are;
  left = left_sent client.ending past client count heard.rest heard.left;
  failed = heard.failed;
}

served_sent : (opening : Rows) (asks log : List (Key × Call)) (past : PastOf) (client : ClientOf) (count : ℕ) → IsServed opening asks log past client
    → IsServed opening asks log (record past { sent = past.sent ++ take count client.outcomes }) (record client { outcomes = drop count client.outcomes })
served_sent opening asks log past client count served = record {
  clients = served.clients;
  among = served.among;
  given = append_assoc past.sent (take count client.outcomes) (drop count client.outcomes)
      ∙ ap (λ (l : List ℕ). past.sent ++ l) (take-append-drop count client.outcomes) ∙ served.given;
  waiting = served.waiting;
  none_due = served.none_due;
  heard = heard_sent past client count served.heard;
}

pub sends_served : (clients : List ClientOf) (place count : ℕ) (client : ClientOf) → slice_get clients place ≡ Some client
    → StaysServed (sends place (take count client.outcomes)) clients (slice_set clients place (record client { outcomes = drop count client.outcomes }))
sends_served clients place count client is =
    sets_served clients place (record client { outcomes = drop count client.outcomes })
    (λ past. record (past place) { sent = (past place).sent ++ take count client.outcomes }) (slice_get_within clients place client is)
    (λ opening asks log past are. served_sent opening asks log (past place) client count
    (subst (λ (o : Option ClientOf). IfSome o (λ c. IsServed opening asks log (past place) c)) is (are.each place)))

pub sends_ready : (clients : List ClientOf) (place count : ℕ) (client : ClientOf) → slice_get clients place ≡ Some client
    → StaysReady clients (slice_set clients place (record client { outcomes = drop count client.outcomes }))
sends_ready clients place count client is calls ready =
    All-set (λ (c : ClientOf). IsReady calls c) clients place (record client { outcomes = drop count client.outcomes }) one ready
  where
    was : IsReady calls client
    was = subst (λ (c : ClientOf). IsReady calls c) (get_or_from_slice_get clients place client client is)
        (ready place client (slice_get_within clients place client is))

    fewer : length (drop count client.outcomes) ≤ length client.outcomes
    fewer = omega (arith, length-append (take count client.outcomes) (drop count client.outcomes), ap length (take-append-drop count client.outcomes))

    few : client.ending ≡ None → length (drop count client.outcomes) ≤ client.limits.unread
    few e = omega (arith, fewer, was.sound.few_unread e)

    one : IsReady calls (record client { outcomes = drop count client.outcomes })
    one = record {
      sound = record {
        within = was.sound.within;
        due = was.sound.due;
        few_asks = was.sound.few_asks;
        healthy = was.sound.healthy;
        few_unread = few;
      };
      none_due = was.none_due;
    }

-- what is written back to a vector's items, all of them
pub written_back : (count : ℕ) (new old : List ClientOf) → length new ≡ length old → count ≡ length old
    → take count (new ++ drop (length new) old) ≡ new
written_back count new old as_many is =
    ap (λ n. take n (new ++ drop (length new) old)) (is ∙ sym as_many) ∙ take-append_seam new (drop (length new) old)

-- What happens to clients, one thing after another.
use Rattle.std.proofs.Common.{◌≡◌, ℕ, Option, Some, None, List, [], ◌∷◌, ◌++◌, true, refl, sym, ap, subst, ◌∙◌, append-nil, append_assoc, ◌<◌, length, inl}
use Rattle.std.specs.Prelude.{◌⊎◌, IfSome, is_some, slice_get, take}
use Rattle.std.specs.List.{All, Contains, flat_map}
use Rattle.std.proofs.lemmas.Bool.{false≢true}
use Rattle.std.proofs.lemmas.Grind.{flat_map-append}
use Rattle.std.proofs.lemmas.List.Sums.{fold-append}
use Rattle.std.proofs.lemmas.Option.{get_or_from_slice_get, slice_get_within}
use Rattle.cown_board.proofs.LogLaws.{some_at}
use Rattle.sb_calls.specs.declared.ask.Key.{Key}
use Rattle.sb_calls.specs.declared.call.Call.{Call}
use Rattle.sb_rows.specs.Rows.{Rows}
use Rattle.sb_sequencer.specs.Numbering.{IsLog}
use Rattle.bank_server.specs.declared.session.client_limits.ClientLimits.{ClientLimits}
use Rattle.bank_server.proofs.clients.ClientPlaces.{fresh_ready, fresh_served}
use Rattle.bank_server.proofs.sessions.OwnLog.{own_log}
use Rattle.bank_server.specs.Clients.{ClientOf, End, IsReady, IsServed, OutgoingOf, Piece, ServesTurn, StaysServed, TakesFromFront, IsFreshClient, fresh_client, no_past, past_with, sends}
use Rattle.bank_clients.specs.History.{ClientEvent, ComesAndGoes, GoesOn, HistoryOf, IsOverAt, MayAllHappen, MayHappen, OutsideOf, ServesEach, TakesBytes, bytes_in, ends_in, first_history, history_after, pieces_in, with_client_event}
use Rattle.bank_clients.specs.History.{Comes, Takes, Leaves}
use Rattle.bank_clients.specs.Sessions.{AreReady, IsUnsent, SessionsOf}
use Rattle.bank_clients.specs.inner.Rounds.{StandsBy}
use Rattle.bank_clients.proofs.Places.{if_there}

abbrev Log : Type 0
Log = List (Key × Call)

abbrev Coming : Type 0
Coming = Option (List (ℕ × Piece))

abbrev Sent : Type 0
Sent = Option (List (ℕ × List ℕ))

-- ---- what comes and goes

nothing_came : (coming : Coming) → TakesFromFront coming coming []
nothing_came None = tt
nothing_came (Some coming) = refl

came_then : (a b c : Coming) (xs ys : List (ℕ × Piece)) → TakesFromFront a b xs → TakesFromFront b c ys → TakesFromFront a c (xs ++ ys)
came_then None b c xs ys first second = tt
came_then (Some a) None c xs ys first second = absurd first
came_then (Some a) (Some b) None xs ys first second = absurd second
came_then (Some a) (Some b) (Some c) xs ys first second =
    first ∙ ap (λ (l : List (ℕ × Piece)). xs ++ l) second ∙ sym (append_assoc xs ys c)

pub nothing_went : (sent : Sent) → TakesBytes sent sent []
nothing_went None = tt
nothing_went (Some sent) = ap (λ (l : List (ℕ × List ℕ)). Some l) (sym (append-nil sent))

pub went_then : (a b c : Sent) (xs ys : List (ℕ × List ℕ)) → TakesBytes a b xs → TakesBytes b c ys → TakesBytes a c (xs ++ ys)
went_then None b c xs ys first second = tt
went_then (Some a) b c xs ys first second =
    subst (λ (s : Sent). TakesBytes s c ys) first second ∙ ap (λ (l : List (ℕ × List ℕ)). Some l) (append_assoc a xs ys)

nothing_outside : (o : OutsideOf) → ComesAndGoes o o [] []
nothing_outside o = record { came = nothing_came o.coming; went = nothing_went o.sent; ended = refl }

outside_then : (a b c : OutsideOf) (ends ends_b : List End) (xs ys : List ClientEvent) → ComesAndGoes a b ends xs → ComesAndGoes b c ends_b ys
    → ComesAndGoes a c (ends ++ ends_b) (xs ++ ys)
outside_then a b c ends ends_b xs ys first second = record {
  came = subst (λ (l : List (ℕ × Piece)). TakesFromFront a.coming c.coming l) (sym (flat_map-append pieces_in xs ys))
      (came_then a.coming b.coming c.coming (flat_map pieces_in xs) (flat_map pieces_in ys) first.came second.came);
  went = subst (λ (l : List (ℕ × List ℕ)). TakesBytes a.sent c.sent l) (sym (flat_map-append bytes_in xs ys))
      (went_then a.sent b.sent c.sent (flat_map bytes_in xs) (flat_map bytes_in ys) first.went second.went);
  ended = ap (λ (l : List End). l ++ ends_b) first.ended ∙ ap (λ (l : List End). flat_map ends_in xs ++ l) second.ended
      ∙ sym (flat_map-append ends_in xs ys);
}

-- ---- what may happen

all_happen_then : (opening : Rows) (h : HistoryOf) (xs ys : List ClientEvent) → MayAllHappen opening h xs
    → MayAllHappen opening (history_after h xs) ys → MayAllHappen opening h (xs ++ ys)
all_happen_then opening h [] ys first second = second
all_happen_then opening h (event ∷ events) ys first second =
    (first.0, all_happen_then opening (with_client_event h event) events ys first.1 second)

-- ---- who is served

-- nothing happens
pub stays_on : (opening : Rows) (o : OutsideOf) (log : Log) (clients : List ClientOf) → GoesOn opening o log clients [] o log clients
stays_on opening o log clients h served = ([], tt, nothing_outside o, served)

-- one thing after another
pub goes_on_then : (opening : Rows) (a b c : OutsideOf) (log log_b log_c : Log) (clients clients_b clients_c : List ClientOf) (ends ends_b : List End)
    → GoesOn opening a log clients ends b log_b clients_b → GoesOn opening b log_b clients_b ends_b c log_c clients_c
    → GoesOn opening a log clients (ends ++ ends_b) c log_c clients_c
goes_on_then opening a b c log log_b log_c clients clients_b clients_c ends ends_b first second h served =
    let (xs, may, out, mid) = first h served in
    let (ys, may_then, out_then, last) = second (history_after h xs) mid in (
      xs ++ ys,
      all_happen_then opening h xs ys may may_then,
      outside_then a b c ends ends_b xs ys out out_then,
      subst (λ (g : HistoryOf). ServesEach opening g log_c clients_c) (sym (fold-append with_client_event h xs ys)) last,
    )

-- nothing is asked in both
pub stands_then : (a b c : OutsideOf) (clients clients_b clients_c : List ClientOf) → StandsBy a clients b clients_b
    → StandsBy b clients_b c clients_c → StandsBy a clients c clients_c
stands_then a b c clients clients_b clients_c first second opening log =
    goes_on_then opening a b c log log log clients clients_b clients_c [] [] (first opening log) (second opening log)

-- a connection takes bytes
pub takes_stand : (a b : OutsideOf) (place : ℕ) (bytes : List ℕ) (old new : List ClientOf) → b.coming ≡ a.coming
    → TakesBytes a.sent b.sent ((place, bytes) ∷ []) → StaysServed (sends place bytes) old new → StandsBy a old b new
takes_stand a b place bytes old new same went stays opening log h served =
    let out : ComesAndGoes a b [] (Takes place bytes ∷ []) = record {
      came = subst (λ (c : Coming). TakesFromFront a.coming c []) (sym same) (nothing_came a.coming);
      went = went;
      ended = refl;
    } in
    (Takes place bytes ∷ [], (tt, tt), out, stays opening h.asks log h.past served)

-- the connection of a client who is there takes so many of its outcomes
pub delivers : (a b : OutsideOf) (place count : ℕ) (bytes : List ℕ) (old new : List ClientOf) → place < length old
    → IfSome (slice_get old place) (λ client. bytes ≡ client.outcomes) → b.coming ≡ a.coming → TakesBytes a.sent b.sent ((place, take count bytes) ∷ [])
    → IfSome (slice_get old place) (λ client. StaysServed (sends place (take count client.outcomes)) old new) → StandsBy a old b new
delivers a b place count bytes old new within outcomes coming went stays =
    let (client, is) = some_at old place within in
    let same = if_there (λ client. bytes ≡ client.outcomes) old place client is outcomes in
    takes_stand a b place (take count client.outcomes) old new coming
    (subst (λ (l : List ℕ). TakesBytes a.sent b.sent ((place, take count l) ∷ [])) same went)
    (if_there (λ client. StaysServed (sends place (take count client.outcomes)) old new) old place client is stays)

-- a client leaves, whose session is over so
pub leaves_goes_on : (opening : Rows) (a b : OutsideOf) (log : Log) (old new : List ClientOf) (place : ℕ) (end : End) → b.coming ≡ a.coming
    → b.sent ≡ a.sent → IsOverAt old place end → StaysServed (past_with place no_past) old new → GoesOn opening a log old (end ∷ []) b log new
leaves_goes_on opening a b log old new place end coming sent over stays h served =
    let event = Leaves place end in
    let may : MayHappen opening h event = (old, subst (λ (l : Log). ServesEach opening h l old) served.log_is served, over) in
    let out : ComesAndGoes a b (end ∷ []) (event ∷ []) = record {
      came = subst (λ (c : Coming). TakesFromFront a.coming c []) (sym coming) (nothing_came a.coming);
      went = subst (λ (s : Sent). TakesBytes a.sent s []) (sym sent) (nothing_went a.sent);
      ended = refl;
    } in
    (event ∷ [], (may, tt), out, stays opening h.asks log h.past served)

-- a turn takes what has come
pub turn_goes_on : (opening : Rows) (a b : OutsideOf) (here : Option ℕ) (log log_b : Log) (clients clients_b : List ClientOf) → b.sent ≡ a.sent
    → ServesTurn (IsServed opening) a.coming b.coming here log clients log_b clients_b → GoesOn opening a log clients [] b log_b clients_b
turn_goes_on opening a b here log log_b clients clients_b same turn h served =
    let (taken, order, there, are) = turn.taken h.asks h.past served in
    let event = Comes turn.arrivals taken in
    let out : ComesAndGoes a b [] (event ∷ []) = record {
      came = subst (λ (l : List (ℕ × Piece)). TakesFromFront a.coming b.coming l) (sym (append-nil turn.arrivals)) turn.came;
      went = subst (λ (s : Sent). TakesBytes a.sent s []) (sym same) (nothing_went a.sent);
      ended = refl;
    } in
    (event ∷ [], (order, tt), out, are)

-- a round: connections take what was left, a turn takes what has come, and connections take what is told then
pub round_goes_on : (opening : Rows) (a b c d : OutsideOf) (here : Option ℕ) (log log_c : Log) (old rested turned new : List ClientOf)
    → StandsBy a old b rested → c.sent ≡ b.sent → ServesTurn (IsServed opening) b.coming c.coming here log rested log_c turned
    → StandsBy c turned d new → GoesOn opening a log old [] d log_c new
round_goes_on opening a b c d here log log_c old rested turned new rests same turn tells =
    goes_on_then opening a b d log log log_c old rested new [] [] (rests opening log)
    (goes_on_then opening b c d log log_c log_c rested turned new [] [] (turn_goes_on opening b c here log log_c rested turned same turn)
    (tells opening log_c))

-- ---- before the first

fresh_at : (clients : List ClientOf) → All IsFreshClient clients → (i : ℕ) (client : ClientOf) → slice_get clients i ≡ Some client → IsFreshClient client
fresh_at clients fresh i client is =
    subst IsFreshClient (get_or_from_slice_get clients i client client is) (fresh i client (slice_get_within clients i client is))

each_fresh : (P : ℕ → ClientOf → Type 0) (clients : List ClientOf) → All IsFreshClient clients
    → ((i : ℕ) (limits : ClientLimits) → P i (fresh_client limits)) → (i : ℕ) → IfSome (slice_get clients i) (P i)
each_fresh P clients fresh here i = by (slice_get clients i) refl
  where
    by : (o : Option ClientOf) → slice_get clients i ≡ o → IfSome o (P i)
    by None is = tt
    by (Some client) is = subst (P i) (sym (fresh_at clients fresh i client is)) (here i client.limits)

-- sessions whose clients are before their first byte can be served
pub begins_ready : {A : Type 0} (outgoing : A → OutgoingOf) (writable : A → List ℕ) (calls : ℕ) (sessions : SessionsOf A)
    → All IsFreshClient sessions.clients.all → AreReady outgoing writable calls sessions
begins_ready outgoing writable calls sessions fresh = record {
  ready = λ i d within. subst (λ (c : ClientOf). IsReady calls c) (sym (fresh i d within))
      (fresh_ready _ calls);
  listed = each_fresh (λ (i : ℕ) (c : ClientOf). is_some c.ending ≡ true → Contains sessions.leaving i) sessions.clients.all fresh
      (λ i limits ended. absurd (false≢true ended));
  sent = each_fresh (λ (i : ℕ) (c : ClientOf). (c.outcomes ≡ []) ⊎ IsUnsent (outgoing sessions.connections).full (writable sessions.connections) i)
      sessions.clients.all fresh (λ i limits. inl refl);
}

-- and are served, by any log
pub begins_served : (opening : Rows) (log : Log) (clients : List ClientOf) → IsLog log → All IsFreshClient clients
    → ServesEach opening (first_history log) log clients
begins_served opening log clients one_each fresh = record {
  log_is = sym (own_log log one_each);
  each = each_fresh (λ (i : ℕ) (c : ClientOf). IsServed opening log log no_past c) clients fresh
      (λ i limits. fresh_served limits opening log log);
}

-- What is heard of many clients, and what one of them makes of the others.
use Rattle.std.proofs.Common.{arith, ◌≡◌, ℕ, ◌≤◌, ◌<◌, ◌+◌, Bool, true, false, if◌then◌else◌, Option, Some, None, List, [], ◌∷◌, ◌++◌, get_or, length, refl, sym, ap, subst, ◌∙◌, append_assoc, append-nil}
use Rattle.std.specs.Prelude.{◌==◌, ◌≢◌, IfSome, slice_get, slice_set}
use Rattle.std.specs.List.{All, flat_map}
use Rattle.std.proofs.lemmas.Bool.{eqb-true}
use Rattle.std.proofs.lemmas.Grind.{flat_map-append}
use Rattle.std.proofs.lemmas.List.Elements.{All-append, All-cons, All-head, All-nil, All-tail}
use Rattle.std.proofs.lemmas.List.{length-set, length_push}
use Rattle.std.proofs.lemmas.Option.{slice_get-get_or, slice_get_within}
use Rattle.sb_calls.proofs.CownContents.{eqb-refl}
use Rattle.sb_rows.specs.Rows.{Rows}
use Rattle.sb_calls.specs.declared.ask.Key.{Key}
use Rattle.sb_calls.specs.declared.call.Call.{Call}
use Rattle.sb_frames.specs.Grammar.{spelling}
use Rattle.sb_frames.specs.declared.frame.Frame as wire
use Rattle.sb_sequencer.specs.Numbering.{first_asks}
use Rattle.cown_board.proofs.StateChanges.{slice_get-set_other, slice_get-set_same}
use Rattle.bank_server.specs.Clients.{AreServed, AreTakenInOrder, ClientOf, IsServed, PastOf, Piece, TakesArrivals, TakesFromFront, TakesOfThem, ServesTurn, StopsTurn, asks_of_all, fresh_client, frames_of_client, past_after, pieces_of_client, with_number}
use Rattle.bank_server.specs.Session.{IsFromClient, ask_of_frame, asks_in}
use Rattle.bank_server.specs.inner.ClientTurns.{BeginsWithFrames, HearsClient, IsServing, StopsHearing, StopsTaking, TakesSome, TellsClient, TellsClients, state_of_client}
use Rattle.bank_server.proofs.clients.ClientAsks.{All-behind, All-front}
use Rattle.bank_server.proofs.clients.ClientSteps.{beside}
use Rattle.bank_server.proofs.clients.ClientTurns.{bytes_on, served_from, serving_from}

-- ---- what others ask leaves a client as it is served

serving_beside : (opening : Rows) (asks others log new_log : List (Key × Call)) (past : PastOf) (client : ClientOf) → log ≡ first_asks asks
    → new_log ≡ first_asks (asks ++ others) → IsServing opening asks log past client → IsServing opening (asks ++ others) new_log past client
serving_beside opening asks others log new_log past client old_is log_is serving = record {
  reached = beside opening asks others past.sent past.frames (state_of_client log client) (state_of_client new_log client) serving.reached
      (ap (λ l. state_of_client l client) log_is);
  heard = serving.heard;
}

-- ---- the frames of one client among those of all

there_numbered : (k n : ℕ) (frames : List wire.Frame) → k < n → All (λ (t : ℕ × wire.Frame). t.0 < n) (with_number k frames)
there_numbered k n [] lt = All-nil (λ (t : ℕ × wire.Frame). t.0 < n)
there_numbered k n (frame ∷ frames) lt = All-cons (λ (t : ℕ × wire.Frame). t.0 < n) (k, frame) (with_number k frames) lt (there_numbered k n frames lt)

asks_numbered : (k : ℕ) (frames : List wire.Frame) → asks_of_all (with_number k frames) ≡ asks_in frames
asks_numbered k [] = refl
asks_numbered k (frame ∷ frames) = ap (λ l. ask_of_frame frame ++ l) (asks_numbered k frames)

frames_own : (k : ℕ) (frames : List wire.Frame) → frames_of_client k (with_number k frames) ≡ frames
frames_own k [] = refl
frames_own k (frame ∷ frames) =
    ap (λ b. (if b then frame ∷ [] else []) ++ frames_of_client k (with_number k frames)) (eqb-refl k) ∙ ap (λ l. frame ∷ l) (frames_own k frames)

frames_other : (k i : ℕ) (frames : List wire.Frame) → (k == i) ≡ false → frames_of_client i (with_number k frames) ≡ []
frames_other k i [] other = refl
frames_other k i (frame ∷ frames) other =
    ap (λ b. (if b then frame ∷ [] else []) ++ frames_of_client i (with_number k frames)) other ∙ frames_other k i frames other

frames_more : (i : ℕ) (taken more : List (ℕ × wire.Frame)) → frames_of_client i (taken ++ more) ≡ frames_of_client i taken ++ frames_of_client i more
frames_more i taken more = flat_map-append (λ (t : ℕ × wire.Frame). if t.0 == i then t.1 ∷ [] else []) taken more

asks_more : (taken more : List (ℕ × wire.Frame)) → asks_of_all (taken ++ more) ≡ asks_of_all taken ++ asks_of_all more
asks_more taken more = flat_map-append (λ (t : ℕ × wire.Frame). ask_of_frame t.1) taken more

pieces_more : (i : ℕ) (xs ys : List (ℕ × Piece)) → pieces_of_client i (xs ++ ys) ≡ pieces_of_client i xs ++ pieces_of_client i ys
pieces_more i xs ys = flat_map-append (λ (a : ℕ × Piece). if a.0 == i then a.1 ∷ [] else []) xs ys

-- ---- arrivals one after another

past_same : (past : ℕ → PastOf) → past_after past [] [] ≡ past
past_same past = λ j i. record {
  pieces = append-nil (past i).pieces j;
  frames = append-nil (past i).frames j;
  sent = (past i).sent;
}

past_on : (past : ℕ → PastOf) (xs ys : List (ℕ × Piece)) (first second : List (ℕ × wire.Frame))
    → past_after (past_after past xs first) ys second ≡ past_after past (xs ++ ys) (first ++ second)
past_on past xs ys first second = λ j i. record {
  pieces = (append_assoc (past i).pieces (pieces_of_client i xs) (pieces_of_client i ys)
      ∙ ap (λ (l : List Piece). (past i).pieces ++ l) (sym (pieces_more i xs ys))) j;
  frames = (append_assoc (past i).frames (frames_of_client i first) (frames_of_client i second)
      ∙ ap (λ (l : List wire.Frame). (past i).frames ++ l) (sym (frames_more i first second))) j;
  sent = (past i).sent;
}

pub takes_nothing : (opening : Rows) (log : List (Key × Call)) (clients : List ClientOf) → TakesArrivals (IsServing opening) log clients [] log clients
takes_nothing opening log clients asks past are = (
  [],
  refl,
  All-nil (λ (t : ℕ × wire.Frame). t.0 < length clients),
  subst (λ (a : List (Key × Call)). AreServed (IsServing opening) a (past_after past [] []) log clients) (sym (append-nil asks))
      (subst (λ (p : ℕ → PastOf). AreServed (IsServing opening) asks p log clients) (sym (past_same past)) are),
)

in_order_on : (xs ys : List (ℕ × Piece)) (first second : List (ℕ × wire.Frame)) → AreTakenInOrder xs first → AreTakenInOrder ys second
    → AreTakenInOrder (xs ++ ys) (first ++ second)
in_order_on [] ys first second none later = subst (λ (t : List (ℕ × wire.Frame)). AreTakenInOrder ys (t ++ second)) (sym none) later
in_order_on (x ∷ xs) ys first second (frames, behind, is, rest) later = (
  frames,
  behind ++ second,
  ap (λ (t : List (ℕ × wire.Frame)). t ++ second) is ∙ append_assoc (with_number x.0 frames) behind second,
  in_order_on xs ys behind second rest later,
)

pub takes_on : (opening : Rows) (old_log : List (Key × Call)) (old : List ClientOf) (xs : List (ℕ × Piece)) (mid_log : List (Key × Call)) (mid : List ClientOf)
    (ys : List (ℕ × Piece)) (new_log : List (Key × Call)) (new : List ClientOf) → length new ≡ length mid
    → TakesArrivals (IsServing opening) old_log old xs mid_log mid → TakesArrivals (IsServing opening) mid_log mid ys new_log new
    → TakesArrivals (IsServing opening) old_log old (xs ++ ys) new_log new
takes_on opening old_log old xs mid_log mid ys new_log new as_many first second asks past are =
    let one = first asks past are in
    let two = second (asks ++ asks_of_all one.0) (past_after past xs one.0) one.3 in (
      one.0 ++ two.0,
      in_order_on xs ys one.0 two.0 one.1 two.1,
      All-append (λ (t : ℕ × wire.Frame). t.0 < length new) one.0 two.0
          (subst (λ n. All (λ (t : ℕ × wire.Frame). t.0 < n) one.0) (sym as_many) one.2) two.2,
      subst (λ (a : List (Key × Call)). AreServed (IsServing opening) a (past_after past (xs ++ ys) (one.0 ++ two.0)) new_log new)
          (append_assoc asks (asks_of_all one.0) (asks_of_all two.0) ∙ ap (λ (l : List (Key × Call)). asks ++ l) (sym (asks_more one.0 two.0)))
          (subst (λ (p : ℕ → PastOf). AreServed (IsServing opening) ((asks ++ asks_of_all one.0) ++ asks_of_all two.0) p new_log new)
          (past_on past xs ys one.0 two.0) two.3),
    )

false_is_true : false ≡ true → ⊥
false_is_true f = cc

not_here : (k i : ℕ) (test : Bool) → (k == i) ≡ test → i < k → (k == i) ≡ false
not_here k i false e lt = e
not_here k i true e lt = absurd (omega (arith, eqb-true k i e, lt))

-- the past of another client
past_other : (past : ℕ → PastOf) (k i : ℕ) (piece : Piece) (frames : List wire.Frame) → (k == i) ≡ false
    → past_after past ((k, piece) ∷ []) (with_number k frames) i ≡ past i
past_other past k i piece frames other = λ j. record {
  pieces = (ap (λ b. (past i).pieces ++ ((if b then piece ∷ [] else []) ++ [])) other ∙ append-nil (past i).pieces) j;
  frames = (ap (λ (l : List wire.Frame). (past i).frames ++ l) (frames_other k i frames other) ∙ append-nil (past i).frames) j;
  sent = (past i).sent;
}

past_own : (past : ℕ → PastOf) (k : ℕ) (piece : Piece) (frames : List wire.Frame)
    → past_after past ((k, piece) ∷ []) (with_number k frames) k
    ≡ record { pieces = (past k).pieces ++ piece ∷ []; frames = (past k).frames ++ frames; sent = (past k).sent }
past_own past k piece frames = λ j. record {
  pieces = ap (λ b. (past k).pieces ++ ((if b then piece ∷ [] else []) ++ [])) (eqb-refl k) j;
  frames = ap (λ (l : List wire.Frame). (past k).frames ++ l) (frames_own k frames) j;
  sent = (past k).sent;
}

-- what came from somebody who isn't there
pub takes_absent : (opening : Rows) (log : List (Key × Call)) (clients : List ClientOf) (k : ℕ) (piece : Piece)
    → length clients ≤ k → TakesArrivals (IsServing opening) log clients ((k, piece) ∷ []) log clients
takes_absent opening log clients k piece past_end asks past are = (
  [],
  ([], [], refl, refl),
  All-nil (λ (t : ℕ × wire.Frame). t.0 < length clients),
  record {
    log_is = are.log_is ∙ ap first_asks (sym (append-nil asks));
    each = λ i. by i (slice_get clients i) refl (are.each i);
  },
)
  where
    by : (i : ℕ) (o : Option ClientOf) → slice_get clients i ≡ o → IfSome o (λ c. IsServing opening asks log (past i) c)
        → IfSome o (λ c. IsServing opening (asks ++ []) log (past_after past ((k, piece) ∷ []) [] i) c)
    by i None e s = tt
    by i (Some c) e s =
        let other : (k == i) ≡ false = not_here k i (k == i) refl (omega (arith, slice_get_within clients i c e, past_end)) in
        subst (λ (a : List (Key × Call)). IsServing opening a log (past_after past ((k, piece) ∷ []) [] i) c) (sym (append-nil asks))
        (subst (λ (p : PastOf). IsServing opening asks log p c) (sym (past_other past k i piece [] other)) s)

-- one client is heard
pub takes_one : (opening : Rows) (old_log : List (Key × Call)) (olds : List ClientOf) (k : ℕ) (piece : Piece) (old new : ClientOf)
    (new_log : List (Key × Call)) (news : List ClientOf) → slice_get olds k ≡ Some old → news ≡ slice_set olds k new
    → HearsClient opening old_log old piece new_log new → TakesArrivals (IsServing opening) old_log olds ((k, piece) ∷ []) new_log news
takes_one opening old_log olds k piece old new new_log news old_is news_are hears asks past are = (
  more,
  (h.0, [], sym (append-nil more), refl),
  subst (λ n. All (λ (t : ℕ × wire.Frame). t.0 < n) more) (sym (ap length news_are ∙ length-set olds k new)) (there_numbered k (length olds) h.0 within),
  record {
    log_is = log_is;
    each = λ i. each i (k == i) refl;
  },
)
  where
    h : (frames : List wire.Frame) × (new_log ≡ first_asks (asks ++ asks_in frames))
        × IsServing opening (asks ++ asks_in frames) new_log
        (record { pieces = (past k).pieces ++ piece ∷ []; frames = (past k).frames ++ frames; sent = (past k).sent }) new
    h = hears asks (past k) are.log_is (subst (λ (o : Option ClientOf). IfSome o (λ c. IsServing opening asks old_log (past k) c)) old_is (are.each k))

    more : List (ℕ × wire.Frame)
    more = with_number k h.0

    asks_are : asks ++ asks_of_all more ≡ asks ++ asks_in h.0
    asks_are = ap (λ l. asks ++ l) (asks_numbered k h.0)

    log_is : new_log ≡ first_asks (asks ++ asks_of_all more)
    log_is = h.1 ∙ ap first_asks (sym asks_are)

    within : k < length olds
    within = slice_get_within olds k old old_is

    now : ℕ → PastOf
    now = past_after past ((k, piece) ∷ []) more

    Each : ℕ → Option ClientOf → Type 0
    Each i o = IfSome o (λ c. IsServing opening (asks ++ asks_of_all more) new_log (now i) c)

    own : IsServing opening (asks ++ asks_of_all more) new_log (now k) new
    own = subst (λ (a : List (Key × Call)). IsServing opening a new_log (now k) new) (sym asks_are)
        (subst (λ (p : PastOf). IsServing opening (asks ++ asks_in h.0) new_log p new) (sym (past_own past k piece h.0)) h.2)

    other : (i : ℕ) → (k == i) ≡ false → (o : Option ClientOf) → IfSome o (λ c. IsServing opening asks old_log (past i) c) → Each i o
    other i apart None s = tt
    other i apart (Some c) s = subst (λ (p : PastOf). IsServing opening (asks ++ asks_of_all more) new_log p c) (sym (past_other past k i piece h.0 apart))
        (serving_beside opening asks (asks_of_all more) old_log new_log (past i) c are.log_is log_is s)

    each : (i : ℕ) (test : Bool) → (k == i) ≡ test → Each i (slice_get news i)
    each i true mine = subst (λ n. Each n (slice_get news n)) (eqb-true k i mine)
        (subst (Each k) (sym (ap (λ l. slice_get l k) news_are ∙ slice_get-set_same olds k new within)) own)
    each i false not_mine =
        let apart : i ≢ k = λ e. false_is_true (sym not_mine ∙ ap (λ n. k == n) e ∙ eqb-refl k) in
        subst (Each i) (sym (ap (λ l. slice_get l i) news_are ∙ slice_get-set_other olds k i new apart)) (other i not_mine (slice_get olds i) (are.each i))

-- ---- what clients are told

-- one client more is told
pub tells_one : (opening : Rows) (log : List (Key × Call)) (olds mids : List ClientOf) (k : ℕ) (old new : ClientOf) (news : List ClientOf)
    → slice_get mids k ≡ Some old → news ≡ slice_set mids k new → TellsClients opening log olds mids
    → TellsClient opening log old new → TellsClients opening log olds news
tells_one opening log olds mids k old new news old_is news_are others tells asks past was =
    record { log_is = are.log_is; each = λ i. each i (k == i) refl }
  where
    are : AreServed (IsServing opening) asks past log mids
    are = others asks past was

    Each : ℕ → Option ClientOf → Type 0
    Each i o = IfSome o (λ c. IsServing opening asks log (past i) c)

    each : (i : ℕ) (test : Bool) → (k == i) ≡ test → Each i (slice_get news i)
    each i true mine = subst (λ n. Each n (slice_get news n)) (eqb-true k i mine)
        (subst (Each k) (sym (ap (λ l. slice_get l k) news_are ∙ slice_get-set_same mids k new (slice_get_within mids k old old_is)))
        (tells asks (past k) (subst (Each k) old_is (are.each k))))
    each i false not_mine =
        let apart : i ≢ k = λ e. false_is_true (sym not_mine ∙ ap (λ n. k == n) e ∙ eqb-refl k) in
        subst (Each i) (sym (ap (λ l. slice_get l i) news_are ∙ slice_get-set_other mids k i new apart)) (are.each i)

-- ---- from one turn to the next

pub all_serving : (opening : Rows) (asks : List (Key × Call)) (past : ℕ → PastOf) (log : List (Key × Call)) (clients : List ClientOf)
    → AreServed (IsServed opening) asks past log clients → AreServed (IsServing opening) asks past log clients
all_serving opening asks past log clients are =
    record { log_is = are.log_is; each = λ i. by i (slice_get clients i) (are.each i) }
  where
    by : (i : ℕ) (o : Option ClientOf) → IfSome o (λ c. IsServed opening asks log (past i) c) → IfSome o (λ c. IsServing opening asks log (past i) c)
    by i None s = tt
    by i (Some c) s = serving_from opening asks log (past i) c are.log_is s

pub all_served : (opening : Rows) (asks : List (Key × Call)) (past : ℕ → PastOf) (log : List (Key × Call)) (clients : List ClientOf)
    → ((i : ℕ) → IfSome (slice_get clients i) (λ c. c.due ≡ 0))
    → AreServed (IsServing opening) asks past log clients → AreServed (IsServed opening) asks past log clients
all_served opening asks past log clients none_due are =
    record { log_is = are.log_is; each = λ i. by i (slice_get clients i) (none_due i) (are.each i) }
  where
    by : (i : ℕ) (o : Option ClientOf) → IfSome o (λ c. c.due ≡ 0) → IfSome o (λ c. IsServing opening asks log (past i) c)
        → IfSome o (λ c. IsServed opening asks log (past i) c)
    by i None d s = tt
    by i (Some c) d s = served_from opening asks log (past i) c d s

-- ---- known arrivals

from_front_none : (old : Option (List (ℕ × Piece))) → TakesFromFront old old []
from_front_none None = tt
from_front_none (Some xs) = refl

from_front_more : (old mid new : Option (List (ℕ × Piece))) (xs ys : List (ℕ × Piece)) → TakesFromFront old mid xs → TakesFromFront mid new ys
    → TakesFromFront old new (xs ++ ys)
from_front_more None mid new xs ys first second = tt
from_front_more (Some a) None new xs ys first second = absurd first
from_front_more (Some a) (Some b) None xs ys first second = absurd second
from_front_more (Some a) (Some b) (Some c) xs ys first second = first ∙ ap (λ l. xs ++ l) second ∙ sym (append_assoc xs ys c)

of_them_none : (here : Option ℕ) → TakesOfThem 0 here here
of_them_none None = tt
of_them_none (Some n) = omega arith

of_them_more : (count : ℕ) (old mid new : Option ℕ) → TakesOfThem count old mid → TakesOfThem 1 mid new → TakesOfThem (count + 1) old new
of_them_more count None mid new first second = tt
of_them_more count (Some a) None new first second = absurd first
of_them_more count (Some a) (Some b) None first second = absurd second
of_them_more count (Some a) (Some b) (Some c) first second = omega (arith, first, second)

pub turn_begins : (opening : Rows) (coming : Option (List (ℕ × Piece))) (here : Option ℕ) (log : List (Key × Call)) (clients : List ClientOf)
    → TakesSome opening coming coming here here 0 log clients log clients
turn_begins opening coming here log clients = record {
  arrivals = [];
  count_is = refl;
  came = from_front_none coming;
  of_them = of_them_none here;
  taken = takes_nothing opening log clients;
}

pub turn_on : (opening : Rows) (coming mid_coming left : Option (List (ℕ × Piece))) (here mid_here here_left : Option ℕ) (count : ℕ)
    (old_log : List (Key × Call)) (old : List ClientOf) (mid_log : List (Key × Call)) (mid : List ClientOf) (new_log : List (Key × Call))
    (new : List ClientOf) (arrival : ℕ × Piece) → length new ≡ length mid
    → TakesSome opening coming mid_coming here mid_here count old_log old mid_log mid → TakesFromFront mid_coming left (arrival ∷ [])
    → TakesOfThem 1 mid_here here_left → TakesArrivals (IsServing opening) mid_log mid (arrival ∷ []) new_log new
    → TakesSome opening coming left here here_left (count + 1) old_log old new_log new
turn_on opening coming mid_coming left here mid_here here_left count old_log old mid_log mid new_log new arrival as_many first came one second = record {
  arrivals = first.arrivals ++ arrival ∷ [];
  count_is = length_push first.arrivals arrival ∙ ap (λ n. n + 1) first.count_is;
  came = from_front_more coming mid_coming left first.arrivals (arrival ∷ []) first.came came;
  of_them = of_them_more count here mid_here here_left first.of_them one;
  taken = takes_on opening old_log old first.arrivals mid_log mid (arrival ∷ []) new_log new as_many first.taken second;
}

-- a turn whose clients were told what was due
pub turn_served : (opening : Rows) (coming left : Option (List (ℕ × Piece))) (here : Option ℕ) (old_log : List (Key × Call)) (old : List ClientOf)
    (new_log : List (Key × Call)) (mid new : List ClientOf) → ServesTurn (IsServing opening) coming left here old_log old new_log mid
    → TellsClients opening new_log mid new → ((i : ℕ) → IfSome (slice_get new i) (λ c. c.due ≡ 0)) → length new ≡ length mid
    → ServesTurn (IsServed opening) coming left here old_log old new_log new
turn_served opening coming left here old_log old new_log mid new turn tells none_due as_many = record {
  arrivals = turn.arrivals;
  came = turn.came;
  all = turn.all;
  taken = λ asks past are.
      let took = turn.taken asks past (all_serving opening asks past old_log old are) in (
        took.0,
        took.1,
        subst (λ n. All (λ (t : ℕ × wire.Frame). t.0 < n) took.0) (sym as_many) took.2,
        all_served opening (asks ++ asks_of_all took.0) (past_after past turn.arrivals took.0) new_log new none_due
            (tells (asks ++ asks_of_all took.0) (past_after past turn.arrivals took.0) took.3),
      );
}

-- ---- where a turn fails

abbrev AreFromClients : List (ℕ × wire.Frame) → Type 0
AreFromClients taken = All (λ (t : ℕ × wire.Frame). IsFromClient t.1) taken

from_numbered : (k : ℕ) (frames : List wire.Frame) → All IsFromClient frames → AreFromClients (with_number k frames)
from_numbered k [] all = All-nil (λ (t : ℕ × wire.Frame). IsFromClient t.1)
from_numbered k (frame ∷ frames) all =
    All-cons (λ (t : ℕ × wire.Frame). IsFromClient t.1) (k, frame) (with_number k frames) (All-head IsFromClient frame frames all)
    (from_numbered k frames (All-tail IsFromClient frame frames all))

-- where the frames of each client are asks and flushes, those of all are
from_each : (count : ℕ) (taken : List (ℕ × wire.Frame)) → All (λ (t : ℕ × wire.Frame). t.0 < count) taken
    → ((i : ℕ) → i < count → All IsFromClient (frames_of_client i taken)) → AreFromClients taken
from_each count [] there each = All-nil (λ (t : ℕ × wire.Frame). IsFromClient t.1)
from_each count (t ∷ taken) there each =
    All-cons (λ (u : ℕ × wire.Frame). IsFromClient u.1) t taken own
    (from_each count taken (All-tail (λ (u : ℕ × wire.Frame). u.0 < count) t taken there)
    (λ i lt. All-behind IsFromClient (if t.0 == i then t.1 ∷ [] else []) (frames_of_client i taken) (each i lt)))
  where
    mine : All IsFromClient (if t.0 == t.0 then t.1 ∷ [] else [])
    mine = All-front IsFromClient (if t.0 == t.0 then t.1 ∷ [] else []) (frames_of_client t.0 taken)
        (each t.0 (All-head (λ (u : ℕ × wire.Frame). u.0 < count) t taken there))

    own : IsFromClient t.1
    own = All-head IsFromClient t.1 [] (subst (λ b. All IsFromClient (if b then t.1 ∷ [] else [])) (eqb-refl t.0) mine)

-- one of the clients who are served
serving_there : (opening : Rows) (asks log : List (Key × Call)) (past : ℕ → PastOf) (clients : List ClientOf) (i : ℕ) → i < length clients
    → AreServed (IsServing opening) asks past log clients → (client : ClientOf) × IsServing opening asks log (past i) client
serving_there opening asks log past clients i lt are =
    let nobody = fresh_client (record { asks = 0; unread = 0 }) in (
      get_or clients i nobody,
      subst (λ o. IfSome o (λ c. IsServing opening asks log (past i) c)) (slice_get-get_or clients i nobody lt) (are.each i),
    )

abbrev AllBegin : List ClientOf → (ℕ → PastOf) → Type 0
AllBegin clients past = (i : ℕ) → IfSome (slice_get clients i) (λ c. BeginsWithFrames (past i).pieces (past i).frames)

-- what was taken of clients who are served
begin_served : (opening : Rows) (asks : List (Key × Call)) (past : ℕ → PastOf) (xs : List (ℕ × Piece)) (taken : List (ℕ × wire.Frame))
    (log : List (Key × Call)) (old new : List ClientOf) → length new ≡ length old → All (λ (t : ℕ × wire.Frame). t.0 < length new) taken
    → AreServed (IsServing opening) (asks ++ asks_of_all taken) (past_after past xs taken) log new
    → AreFromClients taken × AllBegin old (past_after past xs taken)
begin_served opening asks past xs taken log old new as_many there are =
    (from_each (length new) taken there frames, λ i. by i (slice_get old i) refl)
  where
    now : ℕ → PastOf
    now = past_after past xs taken

    one : (i : ℕ) → i < length new → (client : ClientOf) × IsServing opening (asks ++ asks_of_all taken) log (now i) client
    one i lt = serving_there opening (asks ++ asks_of_all taken) log now new i lt are

    frames : (i : ℕ) → i < length new → All IsFromClient (frames_of_client i taken)
    frames i lt = All-behind IsFromClient (past i).frames (frames_of_client i taken) (one i lt).1.reached.clients

    by : (i : ℕ) (o : Option ClientOf) → slice_get old i ≡ o → IfSome o (λ c. BeginsWithFrames (now i).pieces (now i).frames)
    by i None e = tt
    by i (Some c) e =
        let heard = (one i (omega (arith, slice_get_within old i c e, as_many))).1.heard in
        (heard.rest, heard.bytes_are)

-- memory was refused before anything of an arrival was taken
pub stops_before : (opening : Rows) (log : List (Key × Call)) (clients : List ClientOf) (k : ℕ) (piece : Piece)
    → StopsTaking (IsServing opening) log clients ((k, piece) ∷ []) log
stops_before opening log clients k piece asks past are = (
  [],
  All-nil (λ (t : ℕ × wire.Frame). IsFromClient t.1),
  are.log_is ∙ ap first_asks (sym (append-nil asks)),
  λ i. by i (slice_get clients i) (are.each i),
)
  where
    by : (i : ℕ) (o : Option ClientOf) → IfSome o (λ c. IsServing opening asks log (past i) c)
        → IfSome o (λ c. BeginsWithFrames ((past i).pieces ++ pieces_of_client i ((k, piece) ∷ [])) ((past i).frames ++ []))
    by i None s = tt
    by i (Some c) s =
        let on = bytes_on (past i).pieces (pieces_of_client i ((k, piece) ∷ [])) in
        let rest = s.heard.rest in (
          rest ++ on.0,
          on.1 ∙ ap (λ (l : List ℕ). l ++ on.0) s.heard.bytes_are ∙ append_assoc (flat_map spelling (past i).frames) rest on.0
              ∙ ap (λ (l : List wire.Frame). flat_map spelling l ++ (rest ++ on.0)) (sym (append-nil (past i).frames)),
        )

-- or within it
pub stops_one : (opening : Rows) (old_log : List (Key × Call)) (clients : List ClientOf) (k : ℕ) (piece : Piece) (old : ClientOf)
    (new_log : List (Key × Call)) → slice_get clients k ≡ Some old → StopsHearing opening old_log old piece new_log
    → StopsTaking (IsServing opening) old_log clients ((k, piece) ∷ []) new_log
stops_one opening old_log clients k piece old new_log is stops asks past are = (
  more,
  from_numbered k taken.0 taken.1,
  taken.2 ∙ ap (λ l. first_asks (asks ++ l)) (sym (asks_numbered k taken.0)),
  λ i. by i (k == i) refl (slice_get clients i) (are.each i),
)
  where
    taken : (more : List wire.Frame) × All IsFromClient more × (new_log ≡ first_asks (asks ++ asks_in more))
        × BeginsWithFrames ((past k).pieces ++ piece ∷ []) ((past k).frames ++ more)
    taken = stops asks (past k) are.log_is (subst (λ o. IfSome o (λ c. IsServing opening asks old_log (past k) c)) is (are.each k))

    more : List (ℕ × wire.Frame)
    more = with_number k taken.0

    now : ℕ → PastOf
    now = past_after past ((k, piece) ∷ []) more

    by : (i : ℕ) (test : Bool) → (k == i) ≡ test → (o : Option ClientOf) → IfSome o (λ c. IsServing opening asks old_log (past i) c)
        → IfSome o (λ c. BeginsWithFrames (now i).pieces (now i).frames)
    by i test e None s = tt
    by i true mine (Some c) s = subst (λ n. BeginsWithFrames (now n).pieces (now n).frames) (eqb-true k i mine)
        (subst (λ (p : PastOf). BeginsWithFrames p.pieces p.frames) (sym (past_own past k piece taken.0)) taken.3)
    by i false other (Some c) s = subst (λ (p : PastOf). BeginsWithFrames p.pieces p.frames)
        (sym (past_other past k i piece taken.0 other)) (s.heard.rest, s.heard.bytes_are)

-- behind other arrivals
pub turn_stops : (opening : Rows) (coming mid_coming left : Option (List (ℕ × Piece))) (here mid_here : Option ℕ) (count : ℕ)
    (old_log : List (Key × Call)) (old : List ClientOf) (mid_log : List (Key × Call)) (mid : List ClientOf) (new_log : List (Key × Call))
    (arrival : ℕ × Piece) → length mid ≡ length old → TakesSome opening coming mid_coming here mid_here count old_log old mid_log mid
    → TakesFromFront mid_coming left (arrival ∷ []) → StopsTaking (IsServing opening) mid_log mid (arrival ∷ []) new_log
    → StopsTurn opening coming left old_log old new_log
turn_stops opening coming mid_coming left here mid_here count old_log old mid_log mid new_log arrival as_many first came second = record {
  arrivals = xs ++ arrival ∷ [];
  came = from_front_more coming mid_coming left xs (arrival ∷ []) first.came came;
  numbered = λ asks past are.
      let one = first.taken asks past (all_serving opening asks past old_log old are) in
      let two = second (asks ++ asks_of_all one.0) (past_after past xs one.0) one.3 in
      let before = begin_served opening asks past xs one.0 mid_log old mid as_many one.2 one.3 in (
        one.0 ++ two.0,
        All-append (λ (t : ℕ × wire.Frame). IsFromClient t.1) one.0 two.0 before.0 two.1,
        two.2 ∙ ap first_asks (append_assoc asks (asks_of_all one.0) (asks_of_all two.0)
            ∙ ap (λ (l : List (Key × Call)). asks ++ l) (sym (asks_more one.0 two.0))),
        λ i. subst (λ (p : ℕ → PastOf). IfSome (slice_get old i) (λ c. BeginsWithFrames (p i).pieces (p i).frames))
            (past_on past xs (arrival ∷ []) one.0 two.0)
            (still i (past_after (past_after past xs one.0) (arrival ∷ []) two.0) (slice_get old i) refl (two.3 i)),
      );
}
  where
    xs : List (ℕ × Piece)
    xs = first.arrivals

    still : (i : ℕ) (now : ℕ → PastOf) (o : Option ClientOf) → slice_get old i ≡ o
        → IfSome (slice_get mid i) (λ c. BeginsWithFrames (now i).pieces (now i).frames)
        → IfSome o (λ c. BeginsWithFrames (now i).pieces (now i).frames)
    still i now None e s = tt
    still i now (Some c) e s = subst (λ o. IfSome o (λ c. BeginsWithFrames (now i).pieces (now i).frames))
        (slice_get-get_or mid i c (omega (arith, slice_get_within old i c e, as_many))) s

-- or once all of them were taken
pub turn_stopped : (opening : Rows) (coming left : Option (List (ℕ × Piece))) (here : Option ℕ) (old_log : List (Key × Call)) (old : List ClientOf)
    (mid_log : List (Key × Call)) (mid : List ClientOf) (new_log : List (Key × Call))
    → ServesTurn (IsServing opening) coming left here old_log old mid_log mid → length mid ≡ length old → new_log ≡ mid_log
    → StopsTurn opening coming left old_log old new_log
turn_stopped opening coming left here old_log old mid_log mid new_log turn as_many same = record {
  arrivals = turn.arrivals;
  came = turn.came;
  numbered = λ asks past are.
      let took = turn.taken asks past (all_serving opening asks past old_log old are) in
      let begin = begin_served opening asks past turn.arrivals took.0 mid_log old mid as_many took.2 took.3 in
      (took.0, begin.0, same ∙ took.3.log_is, begin.1);
}

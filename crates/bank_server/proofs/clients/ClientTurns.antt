-- What is heard of one client, piece after piece, and what it is told.
use Rattle.std.proofs.Common.{arith, ◌≡◌, ℕ, ◌<◌, Bool, true, false, true≢false, Option, Some, None, is_some, Ok, Err, List, [], ◌∷◌, ◌++◌, length, map, refl, sym, ap, subst, ◌∙◌, append_assoc, append-nil, inl, inr}
use Rattle.std.specs.Prelude.{◌≢◌, ◌⊎◌, ◌↔◌}
use Rattle.std.specs.List.{All, Contains, flat_map}
use Rattle.std.proofs.lemmas.List.{length-append, nil_from_length}
use Rattle.std.proofs.lemmas.List.Elements.{All-cons, All-contains, All-contains_itself, All-head, All-nil, All-push, All-tail, Contains-append_cases, Contains-append_left, Contains-append_right}
use Rattle.sb_rows.specs.Rows.{Rows}
use Rattle.sb_calls.specs.declared.ask.Key.{Key}
use Rattle.sb_calls.specs.declared.call.Call.{Call}
use Rattle.sb_frames.specs.Grammar.{spelling}
use Rattle.sb_frames.specs.Decoding.{decode_result}
use Rattle.sb_frames.specs.Streaming.{IsShort, StreamState}
use Rattle.sb_frames.specs.declared.fault.FrameFault.{FrameFault}
use Rattle.sb_frames.specs.declared.fault.FrameFault.TheVariants.{Short}
use Rattle.sb_frames.specs.declared.frame.Frame as wire
use Rattle.sb_sequencer.specs.Numbering.{first_asks}
use Rattle.bank_server.specs.Clients.{ClientOf, End, HadManyUnread, HasBytes, IsHeard, IsLeft, IsServed, PastOf, Piece, bytes_of}
use Rattle.bank_server.specs.Pending.{pending_ask, unflushed_asks}
use Rattle.bank_server.specs.Session.{IsFromClient, asks_in, flushed_asks, outcome_of}
use Rattle.bank_server.specs.SessionResults.{IsFaultAt}
use Rattle.bank_server.specs.declared.session.client_limits.ClientLimits.{ClientLimits}
use Rattle.bank_server.specs.declared.session.session_fault.SessionFault.{SessionFault}
use Rattle.bank_server.specs.declared.session.session_fault.SessionFault.TheVariants.{Frame, Unexpected, CrewGone, Device, OutOfMemory, Log, TooMany}
use Rattle.bank_server.specs.inner.ClientSteps.{ClientState, HandlesClient, ReachesClient, StopsClient, TellsDue}
use Rattle.bank_server.specs.inner.ClientTurns.{HearsClient, IsServing, StopsHearing, TellsClient, ending_at_failure, ending_of, state_of_client}
use Rattle.bank_server.proofs.sessions.FrameSteps.{bad_at, further}
use Rattle.bank_server.proofs.clients.ClientAsks.{All-behind}
use Rattle.bank_server.proofs.clients.ClientSteps.{many_unflushed}

-- ---- pieces

-- once an end is among pieces, nothing more counts
ends_or_goes_on : (pieces : List Piece) → All HasBytes pieces ⊎ ((more : List Piece) → bytes_of (pieces ++ more) ≡ bytes_of pieces)
ends_or_goes_on [] = inl (All-nil HasBytes)
ends_or_goes_on (None ∷ pieces) = inr (λ more. refl)
ends_or_goes_on (Some [] ∷ pieces) = inr (λ more. refl)
ends_or_goes_on (Some (byte ∷ bytes) ∷ pieces) = by (ends_or_goes_on pieces)
  where
    by : All HasBytes pieces ⊎ ((more : List Piece) → bytes_of (pieces ++ more) ≡ bytes_of pieces)
        → All HasBytes (Some (byte ∷ bytes) ∷ pieces)
        ⊎ ((more : List Piece) → bytes_of ((Some (byte ∷ bytes) ∷ pieces) ++ more) ≡ bytes_of (Some (byte ∷ bytes) ∷ pieces))
    by (inl all) = inl (All-cons HasBytes (Some (byte ∷ bytes)) pieces tt all)
    by (inr over) = inr (λ more. ap (λ (l : List ℕ). (byte ∷ bytes) ++ l) (over more))

over_after : (pieces more : List Piece) (end : Piece) → ¬ HasBytes end → Contains pieces end → bytes_of (pieces ++ more) ≡ bytes_of pieces
over_after pieces more end none there = by (ends_or_goes_on pieces)
  where
    by : All HasBytes pieces ⊎ ((more : List Piece) → bytes_of (pieces ++ more) ≡ bytes_of pieces) → bytes_of (pieces ++ more) ≡ bytes_of pieces
    by (inl all) = absurd (none (All-contains HasBytes pieces end all there))
    by (inr over) = over more

-- one more piece is more bytes, or none
pub bytes_on : (pieces more : List Piece) → (extra : List ℕ) × (bytes_of (pieces ++ more) ≡ bytes_of pieces ++ extra)
bytes_on [] more = (bytes_of more, refl)
bytes_on (None ∷ pieces) more = ([], refl)
bytes_on (Some [] ∷ pieces) more = ([], refl)
bytes_on (Some (byte ∷ bytes) ∷ pieces) more =
    let rest = bytes_on pieces more in
    (rest.0, ap (λ (l : List ℕ). (byte ∷ bytes) ++ l) rest.1 ∙ sym (append_assoc (byte ∷ bytes) (bytes_of pieces) rest.0))

-- of a client that goes on
pub bytes_then : (pieces more : List Piece) → All HasBytes pieces → bytes_of (pieces ++ more) ≡ bytes_of pieces ++ bytes_of more
bytes_then [] more all = refl
bytes_then (None ∷ pieces) more all = absurd (All-head HasBytes None pieces all)
bytes_then (Some [] ∷ pieces) more all = absurd (All-head HasBytes (Some []) pieces all)
bytes_then (Some (byte ∷ bytes) ∷ pieces) more all =
    ap (λ (l : List ℕ). (byte ∷ bytes) ++ l) (bytes_then pieces more (All-tail HasBytes (Some (byte ∷ bytes)) pieces all))
    ∙ sym (append_assoc (byte ∷ bytes) (bytes_of pieces) (bytes_of more))

pub has_bytes : (bytes : List ℕ) → 0 < length bytes → HasBytes (Some bytes)
has_bytes [] lt = absurd (omega (arith, lt))
has_bytes (byte ∷ bytes) lt = tt

one_piece : (bytes : List ℕ) → bytes_of (Some bytes ∷ []) ≡ bytes
one_piece [] = refl
one_piece (byte ∷ bytes) = append-nil (byte ∷ bytes)

ends_there : (pieces : List Piece) (piece : Piece) → Contains (pieces ++ piece ∷ []) piece
ends_there pieces piece = Contains-append_right pieces (piece ∷ []) piece (All-head (Contains (piece ∷ [])) piece [] (All-contains_itself (piece ∷ [])))

-- ---- what is heard

abbrev pub IsHeardBy : Option End → PastOf → ClientOf → Type 0
IsHeardBy ending past client = (rest : List ℕ) × (bytes_of past.pieces ≡ flat_map spelling past.frames ++ rest) × IsLeft ending past client rest

pub heard_by : (ending : Option End) (past : PastOf) (client : ClientOf) → client.ending ≡ ending → IsHeard past client → IsHeardBy ending past client
heard_by ending past client same heard =
    (heard.rest, heard.bytes_are, subst (λ e. IsLeft e past client heard.rest) same heard.left)

-- the connection failed if that came
abbrev IsFailed : Bool → PastOf → Type 0
IsFailed broken past = (broken ≡ true) ↔ Contains past.pieces None

heard_from : (ending : Option End) (past : PastOf) (client : ClientOf) → client.ending ≡ ending → IsHeardBy ending past client
    → IsFailed client.broken past → IsHeard past client
heard_from ending past client same heard failed =
    record { rest = heard.0; bytes_are = heard.1; left = subst (λ e. IsLeft e past client heard.0) (sym same) heard.2; failed = failed }

-- and it still did
failed_still : (past : PastOf) (old new : ClientOf) → new.broken ≡ old.broken → IsHeard past old → IsFailed new.broken past
failed_still past old new same heard = (λ is. heard.failed.0 (sym same ∙ is), λ there. same ∙ heard.failed.1 there)

-- and it came before bytes or an end
failed_on : (past : PastOf) (bytes : List ℕ) (old new : ClientOf) → new.broken ≡ old.broken → IsHeard past old
    → IsFailed new.broken (record past { pieces = past.pieces ++ Some bytes ∷ [] })
failed_on past bytes old new same heard = (
  λ is. Contains-append_left past.pieces (Some bytes ∷ []) None (heard.failed.0 (sym same ∙ is)),
  λ there. same ∙ heard.failed.1 (before (Contains-append_cases past.pieces (Some bytes ∷ []) None there)),
)
  where
    some_is_none : (Some bytes) ≡ None → ⊥
    some_is_none e = cc

    before : Contains past.pieces None ⊎ Contains (Some bytes ∷ []) None → Contains past.pieces None
    before (inl there) = there
    before (inr last) = absurd (some_is_none (All-contains (λ (p : Piece). Some bytes ≡ p) (Some bytes ∷ []) None
        (All-cons (λ (p : Piece). Some bytes ≡ p) (Some bytes) [] refl (All-nil (λ (p : Piece). Some bytes ≡ p))) last))

-- and it fails now
failed_now : (past : PastOf) (new : ClientOf) → new.broken ≡ true → IsFailed new.broken (record past { pieces = past.pieces ++ None ∷ [] })
failed_now past new is = (λ e. ends_there past.pieces None, λ there. is)

-- what was heard stays heard when outcomes are given
heard_told : (ending : Option End) (past : PastOf) (old new : ClientOf) (bytes : List ℕ) → new.limits ≡ old.limits → new.stream ≡ old.stream
    → new.outcomes ≡ old.outcomes ++ bytes
    → IsHeardBy ending past old → IsHeardBy ending past new
heard_told None past old new bytes limits stream given (rest, are, (all, unread, short)) =
    (rest, are, (all, unread ∙ ap (λ (s : StreamState). s.unread) (sym stream), subst IsShort (sym stream) short))
heard_told (Some (Ok done)) past old new bytes limits stream given is = is
heard_told (Some (Err (Frame fault))) past old new bytes limits stream given is = is
heard_told (Some (Err Unexpected)) past old new bytes limits stream given is = is
heard_told (Some (Err CrewGone)) past old new bytes limits stream given is = is
heard_told (Some (Err OutOfMemory)) past old new bytes limits stream given is = is
heard_told (Some (Err (Log fault))) past old new bytes limits stream given is = is
heard_told (Some (Err TooMany)) past old new bytes limits stream given (rest, are, (at, many)) =
    (rest, are, (at, many ∙ ap (λ (l : ClientLimits). l.asks) (sym limits)))
heard_told (Some (Err Device)) past old new bytes limits stream given (rest, are, inl there) = (rest, are, inl there)
heard_told (Some (Err Device)) past old new bytes limits stream given (rest, are, inr (before, since, sent, many)) = (
  rest,
  are,
  inr (
    before,
    since,
    sent,
    subst (λ (l : ClientLimits). l.unread < length (since ++ new.outcomes)) (sym limits)
        (subst (λ (o : List ℕ). old.limits.unread < length (since ++ o)) (sym given)
        (subst (λ (o : List ℕ). old.limits.unread < length o) (append_assoc since old.outcomes bytes) longer)),
  ),
)
  where
    longer : old.limits.unread < length ((since ++ old.outcomes) ++ bytes)
    longer = omega (arith, many, length-append (since ++ old.outcomes) bytes)

-- a client that ended isn't heard
deaf_by : (end : End) (past : PastOf) (piece : Piece) (client : ClientOf) → IsHeardBy (Some end) past client
    → IsHeardBy (Some end) (record past { pieces = past.pieces ++ piece ∷ [] }) client
deaf_by (Ok done) past piece client (rest, are, (all, there)) =
    (rest, over_after past.pieces (piece ∷ []) (Some []) (λ h. h) there ∙ are, (all, Contains-append_left past.pieces (piece ∷ []) (Some []) there))
deaf_by (Err (Frame fault)) past piece client (rest, are, (at, inr there)) = (
  rest,
  over_after past.pieces (piece ∷ []) (Some []) (λ h. h) there ∙ are,
  (at, inr (Contains-append_left past.pieces (piece ∷ []) (Some []) there)),
)
deaf_by (Err (Frame fault)) past piece client (rest, are, (at, inl long)) =
    let on = bytes_on past.pieces (piece ∷ []) in (
      rest ++ on.0,
      on.1 ∙ ap (λ (l : List ℕ). l ++ on.0) are
          ∙ append_assoc (flat_map spelling past.frames) rest on.0,
      (bad_at rest on.0 fault at.0 long, inl long),
    )
deaf_by (Err Unexpected) past piece client (rest, are, (frame, behind, valid, apart, is)) =
    let on = bytes_on past.pieces (piece ∷ []) in (
      rest ++ on.0,
      on.1 ∙ ap (λ (l : List ℕ). l ++ on.0) are ∙ append_assoc (flat_map spelling past.frames) rest on.0,
      (frame, behind ++ on.0, valid, apart, ap (λ (l : List ℕ). l ++ on.0) is ∙ append_assoc (spelling frame) behind on.0),
    )
deaf_by (Err TooMany) past piece client (rest, are, ((frame, behind, valid, one, is), many)) =
    let on = bytes_on past.pieces (piece ∷ []) in (
      rest ++ on.0,
      on.1 ∙ ap (λ (l : List ℕ). l ++ on.0) are ∙ append_assoc (flat_map spelling past.frames) rest on.0,
      ((frame, behind ++ on.0, valid, one, ap (λ (l : List ℕ). l ++ on.0) is ∙ append_assoc (spelling frame) behind on.0), many),
    )
deaf_by (Err Device) past piece client (rest, are, why) =
    let on = bytes_on past.pieces (piece ∷ []) in
    (rest ++ on.0, on.1 ∙ ap (λ (l : List ℕ). l ++ on.0) are ∙ append_assoc (flat_map spelling past.frames) rest on.0, still why)
  where
    still : Contains past.pieces None ⊎ HadManyUnread client.limits.unread past.sent client.outcomes
        → Contains (past.pieces ++ piece ∷ []) None ⊎ HadManyUnread client.limits.unread past.sent client.outcomes
    still (inl there) = inl (Contains-append_left past.pieces (piece ∷ []) None there)
    still (inr many) = inr many
deaf_by (Err CrewGone) past piece client (rest, are, is) = absurd is
deaf_by (Err OutOfMemory) past piece client (rest, are, is) = absurd is
deaf_by (Err (Log fault)) past piece client (rest, are, is) = absurd is

-- nothing more was taken
nothing_taken : (opening : Rows) (log : List (Key × Call)) (old new : ClientOf) (piece : Piece)
    → state_of_client log new ≡ state_of_client log old
    → ((past : PastOf) → IsHeard past old → IsHeard (record past { pieces = past.pieces ++ piece ∷ [] }) new)
    → HearsClient opening log old piece log new
nothing_taken opening log old new piece same heard asks past log_is serving = (
  [],
  log_is ∙ ap first_asks (sym (append-nil asks)),
  subst (λ (a : List (Key × Call)). IsServing opening a log (record { pieces = past.pieces ++ piece ∷ []; frames = past.frames ++ []; sent = past.sent }) new)
      (sym (append-nil asks))
      (subst (λ (f : List wire.Frame). IsServing opening asks log (record { pieces = past.pieces ++ piece ∷ []; frames = f; sent = past.sent }) new)
      (sym (append-nil past.frames))
      (record {
        reached = subst (ReachesClient opening asks past.sent past.frames) (sym same) serving.reached;
        heard = heard past serving.heard;
      })),
)

pub hears_deaf : (opening : Rows) (log : List (Key × Call)) (client : ClientOf) (bytes : List ℕ) → is_some client.ending ≡ true
    → HearsClient opening log client (Some bytes) log client
hears_deaf opening log client bytes over =
    nothing_taken opening log client client (Some bytes) refl (λ past heard. by client.ending refl over past heard)
  where
    by : (ending : Option End) → client.ending ≡ ending → is_some ending ≡ true → (past : PastOf) → IsHeard past client
        → IsHeard (record past { pieces = past.pieces ++ Some bytes ∷ [] }) client
    by None same is past heard = absurd (true≢false (sym is))
    by (Some end) same is past heard =
        heard_from (Some end) (record past { pieces = past.pieces ++ Some bytes ∷ [] }) client same
        (deaf_by end past (Some bytes) client (heard_by (Some end) past client same heard)) (failed_on past bytes client client refl heard)

pub none_now : (ending : Option End) → is_some ending ≡ false → ending ≡ None
none_now None is = refl
none_now (Some end) is = absurd (true≢false is)

pub none_on : (ending : Option End) → ending ≡ None → is_some ending ≡ false
none_on ending same = ap is_some same

-- the end of a client, behind a whole frame
hears_end : (opening : Rows) (log : List (Key × Call)) (old new : ClientOf) → is_some old.ending ≡ false → old.stream.unread ≡ []
    → new ≡ record old { ending = Some (Ok tt) } → HearsClient opening log old (Some []) log new
hears_end opening log old new on all same = nothing_taken opening log old new (Some []) (ap (state_of_client log) same)
    (λ past heard.
    let was = heard_by None past old (none_now old.ending on) heard in
    heard_from (Some (Ok tt)) (record past { pieces = past.pieces ++ Some [] ∷ [] }) new (ap (λ (c : ClientOf). c.ending) same) (
      was.0,
      bytes_then past.pieces (Some [] ∷ []) was.2.0 ∙ append-nil (bytes_of past.pieces) ∙ was.1,
      (was.2.1 ∙ all, ends_there past.pieces (Some [])),
    ) (failed_on past [] old new (ap (λ (c : ClientOf). c.broken) same) heard))

-- the end within a frame
hears_short : (opening : Rows) (log : List (Key × Call)) (old new : ClientOf) → is_some old.ending ≡ false → old.stream.unread ≢ []
    → new ≡ record old { ending = Some (Err (Frame Short)) } → HearsClient opening log old (Some []) log new
hears_short opening log old new on some same = nothing_taken opening log old new (Some []) (ap (state_of_client log) same)
    (λ past heard.
    let was = heard_by None past old (none_now old.ending on) heard in
    heard_from (Some (Err (Frame Short))) (record past { pieces = past.pieces ++ Some [] ∷ [] }) new (ap (λ (c : ClientOf). c.ending) same) (
      was.0,
      bytes_then past.pieces (Some [] ∷ []) was.2.0 ∙ append-nil (bytes_of past.pieces) ∙ was.1,
      ((ap decode_result was.2.1 ∙ was.2.2.1, λ none. some (sym was.2.1 ∙ none)), inr (ends_there past.pieces (Some []))),
    ) (failed_on past [] old new (ap (λ (c : ClientOf). c.broken) same) heard))

-- either end
pub hears_ending : (opening : Rows) (log : List (Key × Call)) (old new : ClientOf) → is_some old.ending ≡ false
    → new ≡ record old { ending = Some (ending_of old.stream.unread) } → HearsClient opening log old (Some []) log new
hears_ending opening log old new on same = by old.stream.unread refl
  where
    not_empty : {byte : ℕ} {bytes : List ℕ} → (byte ∷ bytes) ≡ [] → ⊥
    not_empty h = cc

    by : (unread : List ℕ) → old.stream.unread ≡ unread → HearsClient opening log old (Some []) log new
    by [] e = hears_end opening log old new on e (same ∙ ap (λ u. record old { ending = Some (ending_of u) }) e)
    by (byte ∷ bytes) e = hears_short opening log old new on (λ none. not_empty (sym e ∙ none)) (same ∙ ap (λ u. record old { ending = Some (ending_of u) }) e)

-- the connection failed, be it after the end
abbrev pub broken_off : ClientOf → ClientOf
broken_off client = record client { ending = ending_at_failure client.ending; broken = true }

pub hears_failure : (opening : Rows) (log : List (Key × Call)) (old new : ClientOf)
    → new ≡ broken_off old → HearsClient opening log old None log new
hears_failure opening log old new same = nothing_taken opening log old new None (ap (state_of_client log) same)
    (λ past heard.
    subst (λ (c : ClientOf). IsHeard (record past { pieces = past.pieces ++ None ∷ [] }) c) (sym same) (by old.ending refl past heard))
  where
    by : (ending : Option End) → old.ending ≡ ending → (past : PastOf) → IsHeard past old
        → IsHeard (record past { pieces = past.pieces ++ None ∷ [] }) (broken_off old)
    by None is past heard =
        let was = heard_by None past old is heard in
        heard_from (Some (Err Device)) (record past { pieces = past.pieces ++ None ∷ [] }) (broken_off old) (ap ending_at_failure is) (
          was.0,
          bytes_then past.pieces (None ∷ []) was.2.0 ∙ append-nil (bytes_of past.pieces) ∙ was.1,
          inl (ends_there past.pieces None),
        ) (failed_now past (broken_off old) refl)
    by (Some end) is past heard =
        let now : PastOf = record past { pieces = past.pieces ++ None ∷ [] } in
        heard_from (Some end) now (broken_off old) (ap ending_at_failure is)
        (heard_told (Some end) now old (broken_off old) [] refl refl (sym (append-nil old.outcomes))
        (deaf_by end past None old (heard_by (Some end) past old is heard))) (failed_now past (broken_off old) refl)

-- the bytes of one more piece, behind those of pieces before
bytes_further : (past : PastOf) (old : ClientOf) (bytes rest : List ℕ) (more : List wire.Frame) → IsHeardBy None past old
    → old.stream.unread ++ bytes ≡ flat_map spelling more ++ rest
    → bytes_of (past.pieces ++ Some bytes ∷ []) ≡ flat_map spelling (past.frames ++ more) ++ rest
bytes_further past old bytes rest more was read =
    bytes_then past.pieces (Some bytes ∷ []) was.2.0
    ∙ ap (λ (l : List ℕ). bytes_of past.pieces ++ l) (one_piece bytes)
    ∙ further bytes (bytes_of past.pieces) old.stream.unread rest past.frames more
    (was.1 ∙ ap (λ (l : List ℕ). flat_map spelling past.frames ++ l) was.2.1) read

-- its bytes were taken as far as they are handled, and the rest is left
takes_bytes : (opening : Rows) (old_log : List (Key × Call)) (old : ClientOf) (bytes : List ℕ) (new_log : List (Key × Call)) (new : ClientOf)
    (rest : List ℕ) → is_some old.ending ≡ false → HasBytes (Some bytes) → new.broken ≡ old.broken
    → HandlesClient opening (state_of_client old_log old) (old.stream.unread ++ bytes) (state_of_client new_log new) rest
    → ((past : PastOf) (asks : List (Key × Call)) → All HasBytes past.pieces
    → ReachesClient opening asks past.sent past.frames (state_of_client new_log new) → IsLeft new.ending past new rest)
    → HearsClient opening old_log old (Some bytes) new_log new
takes_bytes opening old_log old bytes new_log new rest on has broken handles left asks past log_is serving =
    let was = heard_by None past old (none_now old.ending on) serving.heard in
    let reached : ReachesClient opening (asks ++ asks_in handles.more) past.sent (past.frames ++ handles.more)
    (state_of_client new_log new) =
    handles.leads asks past.sent past.frames serving.reached in
    let now : PastOf = record { pieces = past.pieces ++ Some bytes ∷ []; frames = past.frames ++ handles.more; sent = past.sent } in (
      handles.more,
      reached.log_is,
      record {
        reached = reached;
        heard = record {
          rest = rest;
          bytes_are = bytes_further past old bytes rest handles.more was handles.read;
          left = left now (asks ++ asks_in handles.more) (All-push HasBytes past.pieces (Some bytes) was.2.0 has) reached;
          failed = failed_on past bytes old new broken serving.heard;
        };
      },
    )

pub hears_well : (opening : Rows) (old_log : List (Key × Call)) (old : ClientOf) (bytes : List ℕ) (new_log : List (Key × Call)) (new : ClientOf)
    → is_some old.ending ≡ false → HasBytes (Some bytes) → new.broken ≡ old.broken → new.ending ≡ old.ending → IsShort new.stream
    → HandlesClient opening (state_of_client old_log old) (old.stream.unread ++ bytes) (state_of_client new_log new) new.stream.unread
    → HearsClient opening old_log old (Some bytes) new_log new
hears_well opening old_log old bytes new_log new on has broken same short handles =
    takes_bytes opening old_log old bytes new_log new new.stream.unread on has broken handles
    (λ past asks all reached. subst (λ e. IsLeft e past new new.stream.unread) (sym (same ∙ none_now old.ending on)) (all, refl, short))

hears_bad : (opening : Rows) (old_log : List (Key × Call)) (old : ClientOf) (bytes : List ℕ) (new_log : List (Key × Call)) (new : ClientOf) (fault : FrameFault)
    → is_some old.ending ≡ false → HasBytes (Some bytes) → new.broken ≡ old.broken → new.ending ≡ Some (Err (Frame fault))
    → StopsClient opening new.limits.asks (state_of_client old_log old) (old.stream.unread ++ bytes) (Frame fault) (state_of_client new_log new)
    → HearsClient opening old_log old (Some bytes) new_log new
hears_bad opening old_log old bytes new_log new fault on has broken is stops =
    takes_bytes opening old_log old bytes new_log new stops.rest on has broken stops.handles
    (λ past asks all reached. subst (λ e. IsLeft e past new stops.rest) (sym is)
    (subst (IsFaultAt (Frame fault)) (append-nil stops.rest) (stops.at []), inl stops.of_frames))

hears_unexpected : (opening : Rows) (old_log : List (Key × Call)) (old : ClientOf) (bytes : List ℕ) (new_log : List (Key × Call)) (new : ClientOf)
    → is_some old.ending ≡ false → HasBytes (Some bytes) → new.broken ≡ old.broken → new.ending ≡ Some (Err Unexpected)
    → StopsClient opening new.limits.asks (state_of_client old_log old) (old.stream.unread ++ bytes) Unexpected (state_of_client new_log new)
    → HearsClient opening old_log old (Some bytes) new_log new
hears_unexpected opening old_log old bytes new_log new on has broken is stops =
    takes_bytes opening old_log old bytes new_log new stops.rest on has broken stops.handles
    (λ past asks all reached. subst (λ e. IsLeft e past new stops.rest) (sym is) (subst (IsFaultAt Unexpected) (append-nil stops.rest) (stops.at [])))

hears_many : (opening : Rows) (old_log : List (Key × Call)) (old : ClientOf) (bytes : List ℕ) (new_log : List (Key × Call)) (new : ClientOf)
    → is_some old.ending ≡ false → HasBytes (Some bytes) → new.broken ≡ old.broken → new.ending ≡ Some (Err TooMany)
    → StopsClient opening new.limits.asks (state_of_client old_log old) (old.stream.unread ++ bytes) TooMany (state_of_client new_log new)
    → HearsClient opening old_log old (Some bytes) new_log new
hears_many opening old_log old bytes new_log new on has broken is stops =
    takes_bytes opening old_log old bytes new_log new stops.rest on has broken stops.handles
    (λ past asks all reached. subst (λ e. IsLeft e past new stops.rest) (sym is) (
      subst (IsFaultAt TooMany) (append-nil stops.rest) (stops.at []),
      many_unflushed opening asks past.sent past.frames (state_of_client new_log new) new.limits.asks reached stops.of_frames,
    ))

-- its bytes were taken up to a fault of its own
pub hears_fault : (opening : Rows) (old_log : List (Key × Call)) (old : ClientOf) (bytes : List ℕ) (new_log : List (Key × Call)) (new : ClientOf)
    (fault : SessionFault) → is_some old.ending ≡ false → HasBytes (Some bytes) → new.broken ≡ old.broken → new.ending ≡ Some (Err fault)
    → fault ≢ OutOfMemory
    → StopsClient opening new.limits.asks (state_of_client old_log old) (old.stream.unread ++ bytes) fault (state_of_client new_log new)
    → HearsClient opening old_log old (Some bytes) new_log new
hears_fault opening old_log old bytes new_log new (Frame fault) on has broken is other stops =
    hears_bad opening old_log old bytes new_log new fault on has broken is stops
hears_fault opening old_log old bytes new_log new Unexpected on has broken is other stops =
    hears_unexpected opening old_log old bytes new_log new on has broken is stops
hears_fault opening old_log old bytes new_log new CrewGone on has broken is other stops = absurd stops.of_frames
hears_fault opening old_log old bytes new_log new Device on has broken is other stops = absurd stops.of_frames
hears_fault opening old_log old bytes new_log new OutOfMemory on has broken is other stops = absurd (other refl)
hears_fault opening old_log old bytes new_log new (Log fault) on has broken is other stops = absurd stops.of_frames
hears_fault opening old_log old bytes new_log new TooMany on has broken is other stops =
    hears_many opening old_log old bytes new_log new on has broken is stops

-- ---- where memory was refused

-- its bytes were taken up to there
pub stops_hearing : (opening : Rows) (old_log : List (Key × Call)) (old : ClientOf) (bytes : List ℕ) (most : ℕ) (fault : SessionFault) (at : ClientState)
    → is_some old.ending ≡ false
    → StopsClient opening most (state_of_client old_log old) (old.stream.unread ++ bytes) fault at
    → StopsHearing opening old_log old (Some bytes) at.log
stops_hearing opening old_log old bytes most fault at on stops asks past log_is serving =
    let was = heard_by None past old (none_now old.ending on) serving.heard in
    let more = stops.handles.more in
    let reached : ReachesClient opening (asks ++ asks_in more) past.sent (past.frames ++ more) at =
    stops.handles.leads asks past.sent past.frames serving.reached in (
      more,
      All-behind IsFromClient past.frames more reached.clients,
      reached.log_is,
      (stops.rest, bytes_further past old bytes stops.rest more was stops.handles.read),
    )

-- or later on
pub stops_behind : (opening : Rows) (old_log : List (Key × Call)) (old : ClientOf) (piece : Piece) (mid_log : List (Key × Call)) (mid : ClientOf)
    (new_log : List (Key × Call)) → HearsClient opening old_log old piece mid_log mid → new_log ≡ mid_log
    → StopsHearing opening old_log old piece new_log
stops_behind opening old_log old piece mid_log mid new_log hears same asks past log_is serving =
    let (more, log, heard) = hears asks past log_is serving in (
      more,
      All-behind IsFromClient past.frames more heard.reached.clients,
      same ∙ log,
      (heard.heard.rest, heard.heard.bytes_are),
    )

-- ---- what is told

-- a client ends in a turn if too many of its outcomes are unread
abbrev pub EndsByUnread : ClientOf → ClientOf → Type 0
EndsByUnread old new = (old.ending ≡ None) × (new.ending ≡ Some (Err Device)) × (old.limits.unread < length new.outcomes)

heard_after : (past : PastOf) (old new : ClientOf) (bytes : List ℕ) → new.limits ≡ old.limits → new.stream ≡ old.stream → new.broken ≡ old.broken
    → new.outcomes ≡ old.outcomes ++ bytes → (new.ending ≡ old.ending) ⊎ EndsByUnread old new → IsHeard past old → IsHeard past new
heard_after past old new bytes limits stream broken given (inl same) heard =
    heard_from old.ending past new same (heard_told old.ending past old new bytes limits stream given (heard_by old.ending past old refl heard))
    (failed_still past old new broken heard)
heard_after past old new bytes limits stream broken given (inr (on, is, many)) heard =
    let was = heard_by None past old on heard in
    heard_from (Some (Err Device)) past new is (
      was.0,
      was.1,
      inr (
        past.sent,
        [],
        sym (append-nil past.sent),
        subst (λ (l : ClientLimits). l.unread < length new.outcomes) (sym limits) many,
      ),
    ) (failed_still past old new broken heard)

pub tells_client : (opening : Rows) (log : List (Key × Call)) (old new : ClientOf) (bytes : List ℕ) → new.limits ≡ old.limits → new.stream ≡ old.stream
    → new.broken ≡ old.broken
    → TellsDue opening (state_of_client log old) (state_of_client log new) → new.outcomes ≡ old.outcomes ++ bytes
    → (new.ending ≡ old.ending) ⊎ EndsByUnread old new → TellsClient opening log old new
tells_client opening log old new bytes limits stream broken tells appended ending asks past serving = record {
  reached = tells asks past.sent past.frames serving.reached;
  heard = heard_after past old new bytes limits stream broken appended ending serving.heard;
}

-- ---- between turns

-- a client that is served is served within a turn, and nothing is due to it
pub serving_from : (opening : Rows) (asks log : List (Key × Call)) (past : PastOf) (client : ClientOf) → log ≡ first_asks asks
    → IsServed opening asks log past client → IsServing opening asks log past client
serving_from opening asks log past client log_is served = record {
  reached = record {
    clients = served.clients;
    among = served.among;
    log_is = log_is;
    told = flushed_asks past.frames;
    waiting = [];
    flushed_are = sym (append-nil (flushed_asks past.frames));
    pending_are = served.waiting;
    due_is = served.none_due;
    given = served.given;
  };
  heard = served.heard;
}

pub served_from : (opening : Rows) (asks log : List (Key × Call)) (past : PastOf) (client : ClientOf) → client.due ≡ 0
    → IsServing opening asks log past client → IsServed opening asks log past client
served_from opening asks log past client none_due serving =
    let came = serving.reached in
    let none : came.waiting ≡ [] = nil_from_length came.waiting (sym came.due_is ∙ none_due) in record {
      clients = came.clients;
      among = came.among;
      given = came.given ∙ ap (λ (l : List (Key × Call)). flat_map spelling (flat_map (outcome_of opening log) l))
          (sym (append-nil came.told) ∙ ap (λ (l : List (Key × Call)). came.told ++ l) (sym none) ∙ sym came.flushed_are);
      waiting = came.pending_are ∙ ap (λ (l : List (Key × Call)). map (pending_ask log) (l ++ unflushed_asks past.frames)) none;
      none_due = none_due;
      heard = serving.heard;
    }

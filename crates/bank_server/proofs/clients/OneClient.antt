-- The history of a client who is served alone is a session.
use Rattle.std.proofs.Common.{◌≡◌, ℕ, Bool, Option, Some, None, Ok, Err, List, [], ◌∷◌, ◌++◌, drop, length, take, refl, sym, ap, subst, ◌∙◌, append_assoc, append-nil, inl, inr}
use Rattle.std.specs.Prelude.{◌⊎◌, IfErr, IfSome, OnOk}
use Rattle.std.specs.Io.KnownBytes.{Appends, Consumes, IsAtEnd}
use Rattle.std.proofs.KnownBytes.{Appends-nil, Appends-trans, Consumes-nil, Consumes-trans, Consumes-whole}
use Rattle.std.specs.List.{All, Contains, flat_map}
use Rattle.std.proofs.lemmas.Grind.{flat_map-append}
use Rattle.std.proofs.lemmas.List.{take-append-drop}
use Rattle.std.proofs.lemmas.List.Elements.{All-append, All-cons, All-contains, All-nil, Contains-append_cases}
use Rattle.sb_rows.specs.Rows.{Rows}
use Rattle.sb_calls.specs.declared.ask.Key.{Key}
use Rattle.sb_calls.specs.declared.call.Call.{Call}
use Rattle.sb_calls.specs.declared.op.Op.{Op}
use Rattle.cown_board.specs.Board.{BoardOf}
use Rattle.sb_frames.specs.Grammar.{spelling}
use Rattle.sb_frames.specs.declared.frame.Frame as wire
use Rattle.sb_sequencer.specs.Numbering.{IsLog, first_asks}
use Rattle.bank_server.specs.Clients.{ClientOf, End, HasBytes, IsLeft, PastOf, Piece, bytes_of, fresh_client, no_past}
use Rattle.bank_server.specs.Pending.{unflushed_asks}
use Rattle.bank_server.specs.Session.{IsFromClient, ask_of_frame, asks_in, log_of_session}
use Rattle.cown_workers.specs.declared.crew_fault.CrewFault.{CrewFault}
use Rattle.cown_workers.specs.declared.crew_fault.CrewFault.TheVariants as crew
use Rattle.bank_server.specs.SessionFaults.{LosesCrew, LosesLog, session_of_crew_fault, session_of_turn_fault}
use Rattle.bank_server.specs.SessionResults.{IsFaultAt, ServesSession, ServesUntilFault, WritesOutcomes, WritesOutcomesBefore}
use Rattle.bank_server.specs.declared.session.client_limits.ClientLimits.{ClientLimits}
use Rattle.bank_server.specs.declared.session.session_fault.SessionFault.{SessionFault}
use Rattle.bank_server.specs.declared.session.session_fault.SessionFault.TheVariants.{Frame, Unexpected, CrewGone, Device, OutOfMemory, Log, TooMany}
use Rattle.bank_server.specs.inner.ClientTurns.{HearsClient, IsServing, StopsHearing, TellsClient}
use Rattle.bank_server.specs.declared.session.turn_fault.TurnFault.{TurnFault}
use Rattle.bank_server.specs.declared.session.turn_fault.TurnFault.TheVariants as turn
use Rattle.bank_server.specs.inner.FlushFaults.{IsFlushFault}
use Rattle.bank_server.specs.inner.SessionSteps.{IsInSession, ServesPiece}
use Rattle.bank_server.proofs.sessions.FrameSteps.{bad_at}
use Rattle.bank_server.proofs.sessions.OwnLog.{own_log}
use Rattle.bank_server.proofs.clients.ClientPlaces.{fresh_served, heard_sent}
use Rattle.bank_server.proofs.clients.ClientTurns.{bytes_then, heard_by, served_from, serving_from}

-- ---- a turn

-- outcomes that a connection took are in its client's past
serving_sent : (opening : Rows) (asks log : List (Key × Call)) (past : PastOf) (client : ClientOf) (count : ℕ) → IsServing opening asks log past client
    → IsServing opening asks log (record past { sent = past.sent ++ take count client.outcomes }) (record client { outcomes = drop count client.outcomes })
serving_sent opening asks log past client count serving =
    let came = serving.reached in record {
      reached = record {
        clients = came.clients;
        among = came.among;
        log_is = came.log_is;
        told = came.told;
        waiting = came.waiting;
        flushed_are = came.flushed_are;
        pending_are = came.pending_are;
        due_is = came.due_is;
        given = append_assoc past.sent (take count client.outcomes) (drop count client.outcomes)
            ∙ ap (λ (l : List ℕ). past.sent ++ l) (take-append-drop count client.outcomes) ∙ came.given;
      };
      heard = heard_sent past client count serving.heard;
    }

-- a piece is taken that makes nothing due
pub piece_heard : (opening : Rows) (old_log : List (Key × Call)) (old : ClientOf) (written : Option (List ℕ)) (piece : Piece)
    (mid_log new_log : List (Key × Call)) (new : ClientOf) → HearsClient opening old_log old piece mid_log new → new_log ≡ mid_log
    → ServesPiece opening old_log old written piece new_log new written
piece_heard opening old_log old written piece mid_log new_log new hears same asks past start log_is serving so_far =
    let (more, log, heard) = hears asks past log_is serving in (
      more,
      past.sent,
      subst (λ (l : List (Key × Call)). IsServing opening (asks ++ asks_in more) l
          (record { pieces = past.pieces ++ piece ∷ []; frames = past.frames ++ more; sent = past.sent }) new) (sym same) heard,
      so_far,
    )

-- a piece is taken, and all that the client is told then is written
pub piece_told : (opening : Rows) (old_log : List (Key × Call)) (old : ClientOf) (old_written : Option (List ℕ)) (piece : Piece)
    (mid_log : List (Key × Call)) (mid : ClientOf) (new_log : List (Key × Call)) (told new : ClientOf) (new_written : Option (List ℕ)) (count : ℕ)
    → HearsClient opening old_log old piece mid_log mid → new_log ≡ mid_log → TellsClient opening new_log mid told
    → Appends old_written new_written told.outcomes → take count told.outcomes ≡ told.outcomes
    → new ≡ record told { outcomes = drop count told.outcomes }
    → ServesPiece opening old_log old old_written piece new_log new new_written
piece_told opening old_log old old_written piece mid_log mid new_log told new new_written count hears same tells appends whole is asks past start log_is
    serving so_far =
    let (more, log, heard) = hears asks past log_is serving in
    let now : PastOf = record { pieces = past.pieces ++ piece ∷ []; frames = past.frames ++ more; sent = past.sent } in
    let there : IsServing opening (asks ++ asks_in more) new_log now told =
    tells (asks ++ asks_in more) now (subst (λ (l : List (Key × Call)). IsServing opening (asks ++ asks_in more) l now mid) (sym same) heard) in (
      more,
      past.sent ++ take count told.outcomes,
      subst (λ (c : ClientOf). IsServing opening (asks ++ asks_in more) new_log (record now { sent = past.sent ++ take count told.outcomes }) c) (sym is)
          (serving_sent opening (asks ++ asks_in more) new_log now told count there),
      Appends-trans start old_written new_written past.sent (take count told.outcomes) so_far
          (subst (Appends old_written new_written) (sym whole) appends),
    )

-- ---- a session, turn after turn

-- before the first byte
pub session_begins : (opening : Rows) (before : List (Key × Call)) (given start : Option (List ℕ)) (log : List (Key × Call)) (limits : ClientLimits)
    (client : ClientOf) → IsLog before → log ≡ before → client ≡ fresh_client limits
    → IsInSession opening before given given start start log client
session_begins opening before given start log limits client is same fresh = record {
  past = no_past;
  serving = subst (λ (c : ClientOf). IsServing opening (before ++ []) log no_past c) (sym fresh)
      (serving_from opening (before ++ []) log no_past (fresh_client limits)
      (same ∙ sym (ap first_asks (append-nil before) ∙ own_log before is)) (fresh_served limits opening (before ++ []) log));
  output = Appends-nil start;
  read = Consumes-nil given;
  over = λ there. absurd (All-contains (λ (p : Piece). ⊥) [] (Some []) (All-nil (λ (p : Piece). ⊥)) there);
}

-- of a client that goes on bytes came, and nothing else
all_bytes : (past : PastOf) (client : ClientOf) (opening : Rows) (asks log : List (Key × Call)) → client.ending ≡ None
    → IsServing opening asks log past client → All HasBytes past.pieces
all_bytes past client opening asks log on serving = (heard_by None past client on serving.heard).2.0

over_now : (pieces : List Piece) (piece : Piece) (left : Option (List ℕ)) → All HasBytes pieces → (piece ≡ Some [] → IsAtEnd left)
    → Contains (pieces ++ piece ∷ []) (Some []) → IsAtEnd left
over_now pieces piece left all end there = by (Contains-append_cases pieces (piece ∷ []) (Some []) there)
  where
    by : Contains pieces (Some []) ⊎ Contains (piece ∷ []) (Some []) → IsAtEnd left
    by (inl before) = absurd (All-contains HasBytes pieces (Some []) all before)
    by (inr last) = end (All-contains (λ (p : Piece). piece ≡ p) (piece ∷ []) (Some [])
        (All-cons (λ (p : Piece). piece ≡ p) piece [] refl (All-nil (λ (p : Piece). piece ≡ p))) last)

read_more : (given old new : Option (List ℕ)) (pieces : List Piece) (piece : Piece) → All HasBytes pieces → Consumes given old (bytes_of pieces)
    → Consumes old new (bytes_of (piece ∷ [])) → Consumes given new (bytes_of (pieces ++ piece ∷ []))
read_more given old new pieces piece all first second =
    subst (Consumes given new) (sym (bytes_then pieces (piece ∷ []) all))
    (Consumes-trans given old new (bytes_of pieces) (bytes_of (piece ∷ [])) first second)

-- one turn more
pub session_on : (opening : Rows) (before : List (Key × Call)) (given old_left new_left start old_written new_written : Option (List ℕ))
    (old_log new_log : List (Key × Call)) (old new : ClientOf) (piece : Piece) → old.ending ≡ None
    → ServesPiece opening old_log old old_written piece new_log new new_written → Consumes old_left new_left (bytes_of (piece ∷ []))
    → (piece ≡ Some [] → IsAtEnd new_left) → IsInSession opening before given old_left start old_written old_log old
    → IsInSession opening before given new_left start new_written new_log new
session_on opening before given old_left new_left start old_written new_written old_log new_log old new piece on serves read end session =
    let past = session.past in
    let all = all_bytes past old opening (before ++ asks_in past.frames) old_log on session.serving in
    let (more, sent, serving, written) =
    serves (before ++ asks_in past.frames) past start session.serving.reached.log_is session.serving session.output in
    let now : PastOf = record { pieces = past.pieces ++ piece ∷ []; frames = past.frames ++ more; sent = sent } in record {
      past = now;
      serving = subst (λ (a : List (Key × Call)). IsServing opening a new_log now new)
          (append_assoc before (asks_in past.frames) (asks_in more)
          ∙ ap (λ (l : List (Key × Call)). before ++ l) (sym (flat_map-append ask_of_frame past.frames more))) serving;
      output = written;
      read = read_more given old_left new_left past.pieces piece all session.read read;
      over = over_now past.pieces piece new_left all end;
    }

-- a read that gave nothing
pub session_still : (opening : Rows) (before : List (Key × Call)) (given old_left new_left start written : Option (List ℕ)) (log : List (Key × Call))
    (client : ClientOf) → client.ending ≡ None → Consumes old_left new_left [] → IsInSession opening before given old_left start written log client
    → IsInSession opening before given new_left start written log client
session_still opening before given old_left new_left start written log client on read session =
    let past = session.past in
    let all = all_bytes past client opening (before ++ asks_in past.frames) log on session.serving in record {
      past = past;
      serving = session.serving;
      output = session.output;
      read = subst (Consumes given new_left) (append-nil (bytes_of past.pieces))
          (Consumes-trans given old_left new_left (bytes_of past.pieces) [] session.read read);
      over = λ there. absurd (All-contains HasBytes past.pieces (Some []) all there);
    }

-- ---- its end

-- each outcome was sent
writes_outcomes : (opening : Rows) (before : List (Key × Call)) (given left start written : Option (List ℕ)) (log : List (Key × Call)) (client : ClientOf)
    (session : IsInSession opening before given left start written log client) → client.due ≡ 0 → client.outcomes ≡ []
    → WritesOutcomes opening before session.past.frames log start written
writes_outcomes opening before given left start written log client session none_due told =
    let past = session.past in
    let served = served_from opening (before ++ asks_in past.frames) log past client none_due session.serving in record {
      log_is = session.serving.reached.log_is;
      written = subst (Appends start written)
          (sym (append-nil past.sent) ∙ ap (λ (l : List ℕ). past.sent ++ l) (sym told) ∙ served.given) session.output;
    }

-- with the last byte
session_served : (opening : Rows) (before : List (Key × Call)) (given left start written : Option (List ℕ)) (log : List (Key × Call)) (client : ClientOf)
    (done : Unit {0}) → client.ending ≡ Some (Ok done) → client.due ≡ 0 → client.outcomes ≡ []
    → IsInSession opening before given left start written log client
    → IfSome given (ServesSession opening before log start written)
session_served opening before given left start written log client done is none_due told session =
    let past = session.past in
    let heard = heard_by (Some (Ok done)) past client is session.serving.heard in
    Consumes-whole given left (bytes_of past.pieces) (ServesSession opening before log start written) session.read (session.over heard.2.1)
    (record {
      frames = past.frames;
      clients = session.serving.reached.clients;
      input_is = heard.1 ∙ ap (λ (l : List ℕ). flat_map spelling past.frames ++ l) heard.2.0 ∙ append-nil (flat_map spelling past.frames);
      outcomes = writes_outcomes opening before given left start written log client session none_due told;
    })

-- what follows for an input whose front was read, by what is behind it
of_front : (P : List ℕ → Type 0) (given left : Option (List ℕ)) (bytes : List ℕ) → Consumes given left bytes
    → ((behind : List ℕ) → (IsAtEnd left → behind ≡ []) → P (bytes ++ behind)) → IfSome given P
of_front P None left bytes read f = tt
of_front P (Some xs) None bytes read f = absurd read
of_front P (Some xs) (Some ys) bytes read f = subst P (sym read) (f ys (λ end. end))

-- where each outcome was sent, those before a fault were
outcomes_before : (fault : SessionFault) (opening : Rows) (before : List (Key × Call)) (frames : List wire.Frame) (log : List (Key × Call))
    (start now : Option (List ℕ)) → WritesOutcomes opening before frames log start now → WritesOutcomesBefore fault opening before frames log start now
outcomes_before (Frame fault) opening before frames log start now all = all
outcomes_before Unexpected opening before frames log start now all = all
outcomes_before CrewGone opening before frames log start now all = all.log_is
outcomes_before Device opening before frames log start now all = all.log_is
outcomes_before OutOfMemory opening before frames log start now all = all.log_is
outcomes_before (Log fault) opening before frames log start now all = all.log_is
outcomes_before TooMany opening before frames log start now all = all

-- the fault of a client stays where it is, whatever comes behind, if that isn't behind its end
fault_at : (fault : SessionFault) (past : PastOf) (client : ClientOf) (rest behind : List ℕ) → IsLeft (Some (Err fault)) past client rest
    → (Contains past.pieces (Some []) → behind ≡ []) → IsFaultAt fault (rest ++ behind)
fault_at (Frame fault) past client rest behind (at, inl long) over = bad_at rest behind fault at.0 long
fault_at (Frame fault) past client rest behind (at, inr there) over =
    subst (IsFaultAt (Frame fault)) (sym (append-nil rest) ∙ ap (λ (l : List ℕ). rest ++ l) (sym (over there))) at
fault_at Unexpected past client rest behind (frame, after, valid, apart, is) over =
    (frame, after ++ behind, valid, apart, ap (λ (l : List ℕ). l ++ behind) is ∙ append_assoc (spelling frame) after behind)
fault_at CrewGone past client rest behind is over = tt
fault_at Device past client rest behind is over = tt
fault_at OutOfMemory past client rest behind is over = tt
fault_at (Log fault) past client rest behind is over = tt
fault_at TooMany past client rest behind ((frame, after, valid, one, is), many) over =
    (frame, after ++ behind, valid, one, ap (λ (l : List ℕ). l ++ behind) is ∙ append_assoc (spelling frame) after behind)

many_at : (fault : SessionFault) (past : PastOf) (client : ClientOf) (rest : List ℕ) → IsLeft (Some (Err fault)) past client rest → fault ≡ TooMany
    → length (unflushed_asks past.frames) ≡ client.limits.asks
many_at fault past client rest left is =
    (subst (λ (f : SessionFault). IsLeft (Some (Err f)) past client rest) is left).1

-- with a fault of its own
session_cut_short : (opening : Rows) (before : List (Key × Call)) (given left start written : Option (List ℕ)) (log : List (Key × Call))
    (client : ClientOf) (fault : SessionFault) → client.ending ≡ Some (Err fault) → client.due ≡ 0 → client.outcomes ≡ []
    → client.limits.asks ≡ 2000000 → IsInSession opening before given left start written log client
    → IfSome given (λ input. ServesUntilFault opening before log start written input fault)
session_cut_short opening before given left start written log client fault is none_due told limit session =
    let past = session.past in
    let heard = heard_by (Some (Err fault)) past client is session.serving.heard in
    of_front (λ input. ServesUntilFault opening before log start written input fault) given left (bytes_of past.pieces) session.read
    (λ behind end. record {
      frames = past.frames;
      clients = session.serving.reached.clients;
      rest = heard.0 ++ behind;
      input_is = ap (λ (l : List ℕ). l ++ behind) heard.1 ∙ append_assoc (flat_map spelling past.frames) heard.0 behind;
      at = fault_at fault past client heard.0 behind heard.2 (λ there. end (session.over there));
      many = λ many. many_at fault past client heard.0 heard.2 many ∙ limit;
      outcomes = outcomes_before fault opening before past.frames log start written
          (writes_outcomes opening before given left start written log client session none_due told);
    })

-- however the client ended
pub session_well : (opening : Rows) (before : List (Key × Call)) (given left start written : Option (List ℕ)) (log : List (Key × Call)) (client : ClientOf)
    (ending : End) → client.ending ≡ Some ending → client.due ≡ 0 → client.outcomes ≡ [] → IsInSession opening before given left start written log client
    → OnOk ending (IfSome given (ServesSession opening before log start written))
session_well opening before given left start written log client (Ok done) is none_due told session =
    session_served opening before given left start written log client done is none_due told session
session_well opening before given left start written log client (Err fault) is none_due told session = tt

pub session_failed : (opening : Rows) (before : List (Key × Call)) (given left start written : Option (List ℕ)) (log : List (Key × Call)) (client : ClientOf)
    (ending : End) → client.ending ≡ Some ending → client.due ≡ 0 → client.outcomes ≡ [] → client.limits.asks ≡ 2000000
    → IsInSession opening before given left start written log client
    → IfErr ending (λ fault. IfSome given (λ input. ServesUntilFault opening before log start written input fault))
session_failed opening before given left start written log client (Ok done) is none_due told limit session = tt
session_failed opening before given left start written log client (Err fault) is none_due told limit session =
    session_cut_short opening before given left start written log client fault is none_due told limit session

-- a client's own fault is none of the crew, nor of the log
own_fault_of : (keeps fails failed : Bool) (board : BoardOf Op) (fault : SessionFault) (past : PastOf) (client : ClientOf) (rest : List ℕ)
    → IsLeft (Some (Err fault)) past client rest → LosesCrew keeps board fault × LosesLog fails failed fault
own_fault_of keeps fails failed board (Frame fault) past client rest is = (tt, tt)
own_fault_of keeps fails failed board Unexpected past client rest is = (tt, tt)
own_fault_of keeps fails failed board CrewGone past client rest is = absurd is
own_fault_of keeps fails failed board Device past client rest is = (tt, tt)
own_fault_of keeps fails failed board OutOfMemory past client rest is = absurd is
own_fault_of keeps fails failed board (Log fault) past client rest is = absurd is
own_fault_of keeps fails failed board TooMany past client rest is = (tt, tt)

pub own_ending : (keeps fails failed : Bool) (board : BoardOf Op) (opening : Rows) (before : List (Key × Call))
    (given left start written : Option (List ℕ)) (log : List (Key × Call)) (client : ClientOf)
    (ending : End) → client.ending ≡ Some ending → IsInSession opening before given left start written log client
    → IfErr ending (LosesCrew keeps board) × IfErr ending (LosesLog fails failed)
own_ending keeps fails failed board opening before given left start written log client (Ok done) is session = (tt, tt)
own_ending keeps fails failed board opening before given left start written log client (Err fault) is session =
    let heard = heard_by (Some (Err fault)) session.past client is session.serving.heard in
    own_fault_of keeps fails failed board fault session.past client heard.0 heard.2

-- ---- other faults

-- a fault that says nothing of what the client sent
flush_at : (fault : SessionFault) (rest : List ℕ) → IsFlushFault fault → IsFaultAt fault rest
flush_at (Frame fault) rest is = absurd is
flush_at Unexpected rest is = absurd is
flush_at CrewGone rest is = tt
flush_at Device rest is = tt
flush_at OutOfMemory rest is = tt
flush_at (Log fault) rest is = tt
flush_at TooMany rest is = absurd is

flush_before : (fault : SessionFault) (opening : Rows) (before : List (Key × Call)) (frames : List wire.Frame) (log : List (Key × Call))
    (start now : Option (List ℕ)) → IsFlushFault fault → log ≡ log_of_session before frames → WritesOutcomesBefore fault opening before frames log start now
flush_before (Frame fault) opening before frames log start now is same = absurd is
flush_before Unexpected opening before frames log start now is same = absurd is
flush_before CrewGone opening before frames log start now is same = same
flush_before Device opening before frames log start now is same = same
flush_before OutOfMemory opening before frames log start now is same = same
flush_before (Log fault) opening before frames log start now is same = same
flush_before TooMany opening before frames log start now is same = absurd is

-- it ends a session anywhere, and the log is that of the frames by then
ended_by : (fault : SessionFault) (opening : Rows) (before : List (Key × Call)) (start now : Option (List ℕ)) (bytes behind rest : List ℕ)
    (frames : List wire.Frame) (log : List (Key × Call)) → IsFlushFault fault → All IsFromClient frames → bytes ≡ flat_map spelling frames ++ rest
    → log ≡ log_of_session before frames → ServesUntilFault opening before log start now (bytes ++ behind) fault
ended_by fault opening before start now bytes behind rest frames log is clients are same = record {
  frames = frames;
  clients = clients;
  rest = rest ++ behind;
  input_is = ap (λ (l : List ℕ). l ++ behind) are ∙ append_assoc (flat_map spelling frames) rest behind;
  at = flush_at fault (rest ++ behind) is;
  many = λ many. absurd (subst IsFlushFault many is);
  outcomes = flush_before fault opening before frames log start now is same;
}

-- what ends the execution of the log, or a turn, may end a flush
pub flush_of_crew : (fault : CrewFault) → IsFlushFault (session_of_crew_fault fault)
flush_of_crew crew.CrewGone = tt
flush_of_crew crew.OutOfMemory = tt

pub flush_of_turn : (fault : TurnFault) → IsFlushFault (session_of_turn_fault fault)
flush_of_turn (turn.Crew fault) = flush_of_crew fault
flush_of_turn (turn.Log fault) = tt

-- before a piece is taken
pub session_broken : (opening : Rows) (before : List (Key × Call)) (given left start written now : Option (List ℕ)) (log : List (Key × Call))
    (client : ClientOf) (fault : SessionFault) → IsFlushFault fault → IsInSession opening before given left start written log client
    → IfSome given (λ input. ServesUntilFault opening before log start now input fault)
session_broken opening before given left start written now log client fault is session =
    let past = session.past in
    let heard = session.serving.heard in
    of_front (λ input. ServesUntilFault opening before log start now input fault) given left (bytes_of past.pieces) session.read
    (λ behind end. ended_by fault opening before start now (bytes_of past.pieces) behind heard.rest past.frames log is
    session.serving.reached.clients heard.bytes_are session.serving.reached.log_is)

-- or while one is
pub session_stopped : (opening : Rows) (before : List (Key × Call)) (given old_left new_left start written now : Option (List ℕ))
    (old_log new_log : List (Key × Call)) (client : ClientOf) (piece : Piece) (fault : SessionFault) → IsFlushFault fault → client.ending ≡ None
    → StopsHearing opening old_log client piece new_log → Consumes old_left new_left (bytes_of (piece ∷ []))
    → IsInSession opening before given old_left start written old_log client
    → IfSome given (λ input. ServesUntilFault opening before new_log start now input fault)
session_stopped opening before given old_left new_left start written now old_log new_log client piece fault is on stops read session =
    let past = session.past in
    let all = all_bytes past client opening (before ++ asks_in past.frames) old_log on session.serving in
    let (more, clients, log, begins) = stops (before ++ asks_in past.frames) past session.serving.reached.log_is session.serving in
    of_front (λ input. ServesUntilFault opening before new_log start now input fault) given new_left (bytes_of (past.pieces ++ piece ∷ []))
    (read_more given old_left new_left past.pieces piece all session.read read)
    (λ behind end. ended_by fault opening before start now (bytes_of (past.pieces ++ piece ∷ [])) behind begins.0 (past.frames ++ more) new_log is
    (All-append IsFromClient past.frames more session.serving.reached.clients clients) begins.1
    (log ∙ ap first_asks (append_assoc before (asks_in past.frames) (asks_in more)
    ∙ ap (λ (l : List (Key × Call)). before ++ l) (sym (flat_map-append ask_of_frame past.frames more)))))

-- How a client goes from state to state.
use Rattle.std.proofs.Common.{arith, ◌≡◌, ℕ, ◌+◌, true, false, Result, Ok, Err, List, [], ◌∷◌, ◌++◌, drop, length, map, take, refl, sym, ap, subst, ◌∙◌, append_assoc, append-nil}
use Rattle.std.specs.Prelude.{◌≢◌}
use Rattle.std.specs.Result.{is_err}
use Rattle.std.specs.List.{All, Contains, drop-map, flat_map, take-map}
use Rattle.std.proofs.Math.Seq.{drop-append_seam, take-append_seam}
use Rattle.std.proofs.lemmas.Grind.{flat_map-append}
use Rattle.std.proofs.lemmas.List.{length-append, length-map}
use Rattle.std.proofs.lemmas.List.Elements.{All-append, All-contains_itself, All-push, All-weaker, Contains-append_right}
use Rattle.sb_rows.specs.Rows.{Rows}
use Rattle.sb_calls.specs.Log.{replies_to}
use Rattle.sb_calls.specs.declared.ask.Key.{Key}
use Rattle.sb_calls.specs.declared.call.Call.{Call}
use Rattle.sb_frames.specs.Decoding.{decode_result}
use Rattle.sb_frames.specs.Grammar.{Spells, spelling}
use Rattle.sb_frames.specs.Streaming.{Feeds, StreamState}
use Rattle.sb_frames.specs.declared.fault.StreamFault.{StreamFault}
use Rattle.sb_frames.specs.declared.fault.FrameFault.{FrameFault}
use Rattle.sb_frames.specs.declared.fault.FrameFault.TheVariants.{Short}
use Rattle.sb_frames.specs.declared.frame.Frame.{Frame}
use Rattle.sb_frames.specs.declared.frame.Frame.TheVariants.{Ask, Flush}
use Rattle.sb_sequencer.specs.Numbering.{calls_of, first_asks}
use Rattle.bank_server.specs.inner.AskSteps.{AddsAsk}
use Rattle.bank_server.specs.inner.ClientSteps.{ClientState, HandlesClient, IsFrameRefusal, LeadsClient, ReachesClient, RefusesClientFrame, StopsClient, TellsDue}
use Rattle.bank_server.specs.Pending.{pending_ask, unflushed_asks}
use Rattle.bank_server.specs.Session.{IsFromClient, ask_of_frame, asks_in, outcome_by, outcome_of}
use Rattle.bank_server.specs.declared.input.asking.Standing.{Standing}
use Rattle.bank_server.specs.declared.session.inbox.PendingAsk.{PendingAsk}
use Rattle.bank_server.specs.declared.session.session_fault.SessionFault.{SessionFault}
use Rattle.bank_server.specs.declared.session.session_fault.SessionFault.TheVariants as faults
use Rattle.bank_server.specs.declared.session.session_fault.SessionFault.TheVariants.{Unexpected, CrewGone, Device, OutOfMemory, Log, TooMany}
use Rattle.bank_server.proofs.sessions.FrameSteps.{bad_at}
use Rattle.bank_server.proofs.clients.ClientAsks.{All-behind, All-front, outcomes_kept, pending_kept, still_among}
use Rattle.bank_server.proofs.sessions.Flushes.{all_asks, asks_push, told_all, told_same, untold_more, untold_none}

-- ---- the asks of others

-- what is asked by others leaves a client where it is
pub beside : (opening : Rows) (asks others : List (Key × Call)) (sent : List ℕ) (frames : List Frame) (at new : ClientState)
    → ReachesClient opening asks sent frames at → new ≡ record at { log = first_asks (asks ++ others) }
    → ReachesClient opening (asks ++ others) sent frames new
beside opening asks others sent frames at new came same = record {
  clients = came.clients;
  among = still_among asks others (asks_in frames) came.among;
  log_is = log;
  told = came.told;
  waiting = came.waiting;
  flushed_are = came.flushed_are;
  pending_are = ap (λ (s : ClientState). s.pending) same ∙ came.pending_are ∙ ap (λ l. map (pending_ask l) later) came.log_is
      ∙ sym (pending_kept asks others later among_later) ∙ ap (λ l. map (pending_ask l) later) (sym log);
  due_is = ap (λ (s : ClientState). s.due) same ∙ came.due_is;
  given = ap (λ (o : List ℕ). sent ++ o) (ap (λ (s : ClientState). s.outcomes) same) ∙ came.given ∙ ap (flat_map spelling) outcomes;
}
  where
    later : List (Key × Call)
    later = came.waiting ++ unflushed_asks frames

    log : new.log ≡ first_asks (asks ++ others)
    log = ap (λ (s : ClientState). s.log) same

    -- its asks are those told, and those later
    parts : asks_in frames ≡ came.told ++ later
    parts = all_asks frames ∙ ap (λ l. l ++ unflushed_asks frames) came.flushed_are ∙ append_assoc came.told came.waiting (unflushed_asks frames)

    among_all : All (Contains asks) (came.told ++ later)
    among_all = subst (All (Contains asks)) parts came.among

    among_later : All (Contains asks) later
    among_later = All-behind (Contains asks) came.told later among_all

    outcomes : flat_map (outcome_of opening at.log) came.told ≡ flat_map (outcome_of opening new.log) came.told
    outcomes = ap (λ l. flat_map (outcome_of opening l) came.told) came.log_is
        ∙ sym (outcomes_kept opening asks others came.told (All-front (Contains asks) came.told later among_all))
        ∙ ap (λ l. flat_map (outcome_of opening l) came.told) (sym log)

-- ---- steps one after another

pub leads_nowhere_client : (opening : Rows) (at : ClientState) → LeadsClient opening at [] at
leads_nowhere_client opening at asks sent frames came =
    subst (λ (l : List Frame). ReachesClient opening (asks ++ []) sent l at) (sym (append-nil frames))
    (subst (λ l. ReachesClient opening l sent frames at) (sym (append-nil asks)) came)

pub leads_on_client : (opening : Rows) (old mid new : ClientState) (xs ys : List Frame) → LeadsClient opening old xs mid
    → LeadsClient opening mid ys new → LeadsClient opening old (xs ++ ys) new
leads_on_client opening old mid new xs ys first second asks sent frames came =
    subst (λ l. ReachesClient opening l sent (frames ++ (xs ++ ys)) new)
    (append_assoc asks (asks_in xs) (asks_in ys) ∙ ap (λ l. asks ++ l) (sym (flat_map-append ask_of_frame xs ys)))
    (subst (λ (l : List Frame). ReachesClient opening ((asks ++ asks_in xs) ++ asks_in ys) sent l new) (append_assoc frames xs ys)
    (second (asks ++ asks_in xs) sent (frames ++ xs) (first asks sent frames came)))

-- ---- an ask

map-push : {A B : Type 0} (f : A → B) (xs : List A) (x : A) → map f (xs ++ x ∷ []) ≡ map f xs ++ f x ∷ []
map-push f [] x = refl
map-push f (y ∷ xs) x = ap (λ l. f y ∷ l) (map-push f xs x)

pub ask_leads_client : (opening : Rows) (old new : ClientState) (key : Key) (call : Call) (standing : Standing)
    → ((asks : List (Key × Call)) → old.log ≡ first_asks asks → AddsAsk asks (key, call) new.log standing)
    → new.pending ≡ old.pending ++ record { key = key; standing = standing } ∷ [] → new.due ≡ old.due → new.outcomes ≡ old.outcomes
    → LeadsClient opening old (Ask key.client key.request call ∷ []) new
ask_leads_client opening old new key call standing asked pending due given asks sent frames came = record {
  clients = All-push IsFromClient frames frame came.clients tt;
  among = subst (All (Contains (asks ++ ask ∷ []))) (sym (asks_push frames frame))
      (All-append (Contains (asks ++ ask ∷ [])) (asks_in frames) (ask ∷ []) (still_among asks (ask ∷ []) (asks_in frames) came.among)
      (All-weaker (Contains (ask ∷ [])) (Contains (asks ++ ask ∷ [])) (Contains-append_right asks (ask ∷ [])) (ask ∷ []) (All-contains_itself (ask ∷ []))));
  log_is = one.0;
  told = there.told;
  waiting = there.waiting;
  flushed_are = told_same frames frame refl ∙ there.flushed_are;
  pending_are = pending
      ∙ ap (λ (l : List PendingAsk). l ++ record { key = key; standing = standing } ∷ []) there.pending_are
      ∙ ap (λ (s : Standing). map (pending_ask new.log) later ++ record { key = key; standing = s } ∷ []) one.1
      ∙ sym (map-push (pending_ask new.log) later ask)
      ∙ ap (map (pending_ask new.log)) (append_assoc there.waiting (unflushed_asks frames) (ask ∷ []) ∙ ap (λ l. there.waiting ++ l)
      (sym (untold_more frames frame refl)));
  due_is = due ∙ there.due_is;
  given = ap (λ (o : List ℕ). sent ++ o) given ∙ there.given;
}
  where
    ask : Key × Call
    ask = (key, call)

    frame : Frame
    frame = Ask key.client key.request call

    one : AddsAsk asks ask new.log standing
    one = asked asks came.log_is

    -- the client beside the ask's number
    aside : ClientState
    aside = record old { log = new.log }

    there : ReachesClient opening (asks ++ ask ∷ []) sent frames aside
    there = beside opening asks (ask ∷ []) sent frames old aside came (ap (λ l. record old { log = l }) one.0)

    later : List (Key × Call)
    later = there.waiting ++ unflushed_asks frames

-- ---- a flush

pub flush_leads_client : (opening : Rows) (old new : ClientState) → new.log ≡ old.log → new.pending ≡ old.pending → new.due ≡ length old.pending
    → new.outcomes ≡ old.outcomes → LeadsClient opening old (Flush ∷ []) new
flush_leads_client opening old new log pending due given asks sent frames came = record {
  clients = All-push IsFromClient frames Flush came.clients tt;
  among = subst (λ l. All (Contains l) (asks_in (frames ++ Flush ∷ []))) (sym (append-nil asks))
      (subst (All (Contains asks)) (sym (asks_push frames Flush ∙ append-nil (asks_in frames))) came.among);
  log_is = log ∙ came.log_is ∙ ap first_asks (sym (append-nil asks));
  told = came.told;
  waiting = later;
  flushed_are = told_all frames ∙ all_asks frames ∙ ap (λ l. l ++ unflushed_asks frames) came.flushed_are
      ∙ append_assoc came.told came.waiting (unflushed_asks frames);
  pending_are = pending ∙ came.pending_are ∙ ap (λ l. map (pending_ask l) later) (sym log)
      ∙ ap (map (pending_ask new.log)) (sym (append-nil later) ∙ ap (λ l. later ++ l) (sym (untold_none frames)));
  due_is = due ∙ ap length came.pending_are ∙ length-map later (pending_ask old.log);
  given = ap (λ (o : List ℕ). sent ++ o) given ∙ came.given
      ∙ ap (λ (l : List (Key × Call)). flat_map spelling (flat_map (outcome_of opening l) came.told)) (sym log);
}
  where
    later : List (Key × Call)
    later = came.waiting ++ unflushed_asks frames

-- ---- a client's frames, one after another

pub handles_nothing : (opening : Rows) (at : ClientState) (unread : List ℕ) → HandlesClient opening at unread at unread
handles_nothing opening at unread = record { more = []; read = refl; leads = leads_nowhere_client opening at }

-- one more frame
pub handles_frame : (opening : Rows) (old mid new : ClientState) (unread left behind : List ℕ) (frame : Frame) (bytes : List ℕ)
    → HandlesClient opening old unread mid left → Spells frame bytes → left ≡ bytes ++ behind → LeadsClient opening mid (frame ∷ []) new
    → HandlesClient opening old unread new behind
handles_frame opening old mid new unread left behind frame bytes heard spells is leads =
    let before = flat_map spelling heard.more in record {
      more = heard.more ++ frame ∷ [];
      read = heard.read ∙ ap (λ l. before ++ l) (is ∙ ap (λ b. b ++ behind) spells.spelled)
          ∙ sym (append_assoc before (spelling frame) behind)
          ∙ ap (λ l. l ++ behind) (ap (λ s. before ++ s) (sym (append-nil (spelling frame))) ∙ sym (flat_map-append spelling heard.more (frame ∷ [])));
      leads = leads_on_client opening old mid new heard.more (frame ∷ []) heard.leads leads;
    }

-- ---- what is told

-- what is spelled for the waiting asks is the spelling of their outcomes
spelled_of : (opening : Rows) (log : List (Key × Call)) (asks : List (Key × Call))
    → flat_map (λ (w : PendingAsk). flat_map spelling (outcome_by (replies_to opening (calls_of log)) w.key w.standing)) (map (pending_ask log) asks)
    ≡ flat_map spelling (flat_map (outcome_of opening log) asks)
spelled_of opening log [] = refl
spelled_of opening log (ask ∷ asks) =
    ap (λ l. flat_map spelling (outcome_of opening log ask) ++ l) (spelled_of opening log asks)
    ∙ sym (flat_map-append spelling (outcome_of opening log ask) (flat_map (outcome_of opening log) asks))

-- the outcomes of all that was due were given
pub tells_due : (opening : Rows) (old new : ClientState) (bytes : List ℕ) → new.log ≡ old.log → new.pending ≡ drop old.due old.pending → new.due ≡ 0
    → bytes ≡ flat_map (λ (w : PendingAsk). flat_map spelling (outcome_by (replies_to opening (calls_of old.log)) w.key w.standing)) (take old.due old.pending)
    → new.outcomes ≡ old.outcomes ++ bytes → TellsDue opening old new
tells_due opening old new bytes log pending due told_now appended asks sent wires came = record {
  clients = came.clients;
  among = came.among;
  log_is = log ∙ came.log_is;
  told = came.told ++ came.waiting;
  waiting = [];
  flushed_are = came.flushed_are ∙ sym (append-nil (came.told ++ came.waiting));
  pending_are = pending ∙ ap (drop old.due) came.pending_are ∙ drop-map (pending_ask old.log) old.due (came.waiting ++ unflushed_asks wires)
      ∙ ap (map (pending_ask old.log)) (ap (λ n. drop n (came.waiting ++ unflushed_asks wires)) came.due_is
      ∙ drop-append_seam came.waiting (unflushed_asks wires))
      ∙ ap (λ l. map (pending_ask l) (unflushed_asks wires)) (sym log);
  due_is = due;
  given = ap (λ (o : List ℕ). sent ++ o) appended ∙ sym (append_assoc sent old.outcomes bytes) ∙ ap (λ (o : List ℕ). o ++ bytes) came.given
      ∙ sym all_are ∙ ap (λ (l : List (Key × Call)). flat_map spelling (flat_map (outcome_of opening l) (came.told ++ came.waiting))) (sym log);
}
  where
    first : take old.due old.pending ≡ map (pending_ask old.log) came.waiting
    first = ap (take old.due) came.pending_are ∙ take-map (pending_ask old.log) old.due (came.waiting ++ unflushed_asks wires)
        ∙ ap (map (pending_ask old.log)) (ap (λ n. take n (came.waiting ++ unflushed_asks wires)) came.due_is
        ∙ take-append_seam came.waiting (unflushed_asks wires))

    bytes_are : bytes ≡ flat_map spelling (flat_map (outcome_of opening old.log) came.waiting)
    bytes_are = told_now
        ∙ ap (flat_map (λ (w : PendingAsk). flat_map spelling (outcome_by (replies_to opening (calls_of old.log)) w.key w.standing))) first
        ∙ spelled_of opening old.log came.waiting

    all_are : flat_map spelling (flat_map (outcome_of opening old.log) (came.told ++ came.waiting))
        ≡ flat_map spelling (flat_map (outcome_of opening old.log) came.told) ++ bytes
    all_are = ap (flat_map spelling) (flat_map-append (outcome_of opening old.log) came.told came.waiting)
        ∙ flat_map-append spelling (flat_map (outcome_of opening old.log) came.told) (flat_map (outcome_of opening old.log) came.waiting)
        ∙ ap (λ (l : List ℕ). flat_map spelling (flat_map (outcome_of opening old.log) came.told) ++ l) (sym bytes_are)

-- ---- faults

-- a frame that is refused stops a client
pub refused_stops_client : (opening : Rows) (most : ℕ) (old mid new : ClientState) (unread left behind : List ℕ) (frame : Frame) (bytes : List ℕ)
    (fault : SessionFault) → HandlesClient opening old unread mid left → Spells frame bytes → left ≡ bytes ++ behind
    → RefusesClientFrame most frame fault mid new → StopsClient opening most old unread fault new
refused_stops_client opening most old mid new unread left behind frame bytes fault heard spells is refused =
    subst (StopsClient opening most old unread fault) (sym refused.1) (by fault refused.0)
  where
    begins : (more : List ℕ) → left ++ more ≡ spelling frame ++ (behind ++ more)
    begins more = ap (λ l. l ++ more) (is ∙ ap (λ b. b ++ behind) spells.spelled) ∙ append_assoc (spelling frame) behind more

    by : (f : SessionFault) → IsFrameRefusal most frame f mid → StopsClient opening most old unread f mid
    by (faults.Frame f) why = absurd why
    by Unexpected why =
        record { rest = left; handles = heard; at = λ more. (frame, behind ++ more, spells.valid, why, begins more); of_frames = tt }
    by CrewGone why = absurd why
    by Device why = absurd why
    by OutOfMemory why = record { rest = left; handles = heard; at = λ more. tt; of_frames = tt }
    by (Log f) why = absurd why
    by TooMany why =
        record { rest = left; handles = heard; at = λ more. (frame, behind ++ more, spells.valid, why.0, begins more); of_frames = why.1 }

pub bad_stops_client : (opening : Rows) (most : ℕ) (old at : ClientState) (unread left : List ℕ) (fault : FrameFault)
    → HandlesClient opening old unread at left → decode_result left ≡ Err fault → fault ≢ Short → StopsClient opening most old unread (faults.Frame fault) at
bad_stops_client opening most old at unread left fault heard bad long =
    record { rest = left; handles = heard; at = λ more. bad_at left more fault bad long; of_frames = long }

-- where so many asks are behind those that are due, so many wait for a flush
pub many_unflushed : (opening : Rows) (asks : List (Key × Call)) (sent : List ℕ) (frames : List Frame) (at : ClientState) (most : ℕ)
    → ReachesClient opening asks sent frames at → length at.pending ≡ at.due + most → length (unflushed_asks frames) ≡ most
many_unflushed opening asks sent frames at most came many =
    let later = unflushed_asks frames in
    let whole : length at.pending ≡ length came.waiting + length later =
    ap length came.pending_are ∙ length-map (came.waiting ++ later) (pending_ask at.log) ∙ length-append came.waiting later in
    omega (arith, whole, came.due_is, many)

-- ---- bytes that are fed

pub fed_unread : (old new : StreamState) (bytes : List ℕ) (answer : Result (Unit {0}) StreamFault) → false ≡ is_err answer → Feeds old bytes answer new
    → new.unread ≡ old.unread ++ bytes
fed_unread old new bytes (Ok done) e fed = ap (λ (s : StreamState). s.unread) fed.1
fed_unread old new bytes (Err fault) e fed = absurd (false_is_true e)
  where
    false_is_true : false ≡ true → ⊥
    false_is_true f = cc

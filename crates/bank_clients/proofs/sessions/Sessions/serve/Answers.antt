use Rattle.std.proofs.Common.{◌≡◌, ℕ, inl, inr, List, false, [], Ok, Err, length, subst, sym, ap, ◌∙◌}
use Rattle.std.specs.Prelude.{Result, OnOk, is_err}
use Rattle.std.proofs.lemmas.Bool.{false≢true}
use Rattle.std.proofs.lemmas.Result.{err_from_is_err_and}
use Rattle.bank_server.specs.Clients.{AreCalmBut, OutgoingOf}
use Rattle.bank_server.specs.Primary.{opening_rows_of}
use Rattle.bank_server.specs.SessionFaults.{as_session, session_of_turn_fault}
use Rattle.bank_server.proofs.boards.WholeReplies.{err_always}
use Rattle.bank_server.proofs.sessions.Serving.{keep_fails, serves_kept}
use Rattle.bank_clients.specs.History.{GoesOn}
use Rattle.bank_clients.specs.Sessions.{AreReady, AreSentBut, SessionsOf, TakesUnread, outside_of}
use Rattle.bank_clients.specs.inner.Rounds.{LeavesRest}
use Rattle.bank_clients.proofs.Deliveries.{sent_among, sent_before_turn}
use Rattle.bank_clients.proofs.Histories.{round_goes_on}
use Rattle.bank_clients.proofs.Leaving.{ended_in_round, listed_behind}
use Rattle.bank_clients.proofs.Unread.{round_unread, unsent_behind}
use Rattle.bank_clients.proofs.UnreadByAll.{few_behind}
use Rattle.bank_clients.proofs.sessions.Sessions.serve.Goals as goal

pub turn-requires : goal.turn-requires
turn-requires g c =
    let calls = length c.args.primary.now.log in
    let before = subst (λ (s : SessionsOf g.row.A.Denot). AreReady g.A.Arrivals.outgoing g.A.Connections.writable_places calls s) (sym c.self.view_is)
    c.requires.ready in
    record { ready = c.deliver_rest.ensures.ready calls before.ready }

pub returns-in_err-turn-clause-unsent : goal.returns-in_err-turn-clause-unsent
returns-in_err-turn-clause-unsent g c =
    let outgoing = g.A.Arrivals.outgoing in
    let rests = subst (λ (s : SessionsOf g.row.A.Denot). LeavesRest s.clients.all c.deliver_rest.new.clients.all (outgoing s.connections).sent
    (outgoing c.deliver_rest.new.connections).sent) c.self.view_is c.deliver_rest.ensures.rest in
    err_always _ (unsent_behind outgoing c.args.self.now c.deliver_rest.new.clients.all (outgoing c.deliver_rest.new.connections)
    (outgoing c.turn.new.arrivals) rests c.turn.ensures.leaves.outgoing)

pub returns-in_err-keep-clause-serves : goal.returns-in_err-keep-clause-serves
returns-in_err-keep-clause-serves g c =
    let p = err_from_is_err_and c.from_residual-in_err-keep.result c.from_residual-in_err-keep.ensures.1 in
    let mid = c.turn.new.primary in
    let step = c.turn.ensures.serves in
    rw (p.1, p.2) (keep_fails _ c.args.primary.now mid c.keep.new.self step.bank step.none_out c.keep.ensures.bank c.keep.ensures.unchanged
    c.in_err-keep.ensures.fault)

pub returns-in_err-keep-clause-unsent : goal.returns-in_err-keep-clause-unsent
returns-in_err-keep-clause-unsent g c =
    let outgoing = g.A.Arrivals.outgoing in
    let rests = subst (λ (s : SessionsOf g.row.A.Denot). LeavesRest s.clients.all c.deliver_rest.new.clients.all (outgoing s.connections).sent
    (outgoing c.deliver_rest.new.connections).sent) c.self.view_is c.deliver_rest.ensures.rest in
    err_always _ (unsent_behind outgoing c.args.self.now c.deliver_rest.new.clients.all (outgoing c.deliver_rest.new.connections)
    (outgoing c.turn.new.arrivals) rests c.turn.ensures.leaves.outgoing)

pub returns-then-is_err-clause-unsent : goal.returns-then-is_err-clause-unsent
returns-then-is_err-clause-unsent g c =
    let outgoing = g.A.Arrivals.outgoing in
    let rests = subst (λ (s : SessionsOf g.row.A.Denot). LeavesRest s.clients.all c.deliver_rest.new.clients.all (outgoing s.connections).sent
    (outgoing c.deliver_rest.new.connections).sent) c.self.view_is c.deliver_rest.ensures.rest in
    unsent_behind outgoing c.args.self.now c.deliver_rest.new.clients.all (outgoing c.deliver_rest.new.connections)
    (outgoing c.turn.new.arrivals) rests c.turn.ensures.leaves.outgoing

pub returns-then-is_err-clause-serves : goal.returns-then-is_err-clause-serves
returns-then-is_err-clause-serves g c =
    let step = serves_kept (as_session session_of_turn_fault c.turn.result) c.args.primary.now c.turn.new.primary c.keep.new.self c.turn.ensures.serves
    c.keep.ensures.bank c.keep.ensures.unchanged in
    record { bank = step.bank; none_out = step.none_out; crew_lost = tt; log_lost = tt }

pub list_leaving-requires : goal.list_leaving-requires
list_leaving-requires g c =
    let before = subst (λ (s : SessionsOf g.row.A.Denot).
    AreReady g.A.Arrivals.outgoing g.A.Connections.writable_places (length c.args.primary.now.log) s) (sym c.self.view_is) c.requires.ready in
    ended_in_round c.self.inside.leaving.items c.turn.new.self.stirred c.self.inside.clients.all c.deliver_rest.new.clients.all c.turn.new.self.all
    before.listed c.deliver_rest.ensures.endings c.in_ok-turn.ensures.leaves.calm

if_ok : {E P : Type 0} (result : Result (Unit {0}) E) → is_err result ≡ false → OnOk result P → P
if_ok (Ok done) fine h = h
if_ok (Err fault) fine h = absurd (false≢true (sym fine))

pub returns-clause-ready : goal.returns-clause-ready
returns-clause-ready g c =
    let before = subst (λ (s : SessionsOf g.row.A.Denot). AreReady g.A.Arrivals.outgoing g.A.Connections.writable_places (length c.args.primary.now.log) s)
    (sym c.self.view_is) c.requires.ready in
    let stirred = c.turn.new.self.stirred in
    let last = c.deliver_new.new in
    let rested : AreSentBut (g.A.Arrivals.outgoing c.deliver_rest.new.connections).full [] c.deliver_rest.new.clients.all =
    c.deliver_rest.ensures.sent before.sent in
    let turned : AreSentBut (g.A.Arrivals.outgoing c.turn.new.arrivals).full stirred c.turn.new.self.all =
    subst (λ (o : OutgoingOf). AreSentBut o.full stirred c.turn.new.self.all) (sym c.turn.ensures.leaves.outgoing)
    (sent_before_turn (g.A.Arrivals.outgoing c.deliver_rest.new.connections).full stirred c.deliver_rest.new.clients.all c.turn.new.self.all rested
    c.in_ok-turn.ensures.leaves.calm) in
    let told : AreSentBut (g.A.Arrivals.outgoing last.connections).full [] last.clients.all = c.deliver_new.ensures.sent turned in (
      record {
        ready = c.deliver_new.ensures.ready (length c.turn.new.primary.log) c.in_ok-turn.ensures.ready;
        listed = listed_behind c.list_leaving.new.leaving.items c.turn.new.self.all last.clients.all c.deliver_new.ensures.endings
            (if_ok c.list_leaving.result (sym c.is_err.ensures.value ∙ c.if-is_err.false) c.list_leaving.ensures);
        sent = sent_among (g.A.Arrivals.outgoing last.connections).full (g.A.Connections.writable_places last.connections) last.clients.all told;
      },
      told,
    )

pub returns-clause-served : goal.returns-clause-served
returns-clause-served g c =
    let outside = outside_of g.A.Arrivals.coming g.A.Arrivals.outgoing in
    let opening = opening_rows_of c.args.primary.now in
    let inside = c.self.inside in
    let last = c.deliver_new.new in
    subst (λ (s : SessionsOf g.row.A.Denot). GoesOn opening (outside s.connections) c.args.primary.now.log s.clients.all [] (outside last.connections)
    c.turn.new.primary.log last.clients.all) c.self.view_is
    (round_goes_on opening (outside inside.connections) (outside c.deliver_rest.new.connections) (outside c.turn.new.arrivals)
    (outside last.connections) (g.A.Arrivals.here c.deliver_rest.new.connections) c.args.primary.now.log c.turn.new.primary.log
    inside.clients.all c.deliver_rest.new.clients.all c.turn.new.self.all last.clients.all
    c.deliver_rest.ensures.stands (ap (λ (o : OutgoingOf). o.sent) c.turn.ensures.leaves.outgoing) c.in_ok-turn.ensures.served
    c.deliver_new.ensures.stands)

pub invariant_of-self-2 : goal.invariant_of-self-2
invariant_of-self-2 g c known =
    let sent = λ (a : g.row.A.Denot). (g.A.Arrivals.outgoing a).sent in
    let inside = c.self.inside in
    let rested = c.deliver_rest.new in
    let turned = c.turn.new in
    let last = c.deliver_new.new in
    few_behind inside.may_exceed last.clients.stirred inside.clients.all rested.clients.all turned.self.all last.clients.all
    (sent inside.connections) (sent rested.connections) (sent turned.arrivals) (sent last.connections) c.self.invariant c.deliver_rest.ensures.rest
    (subst (λ (l : List ℕ). AreCalmBut l rested.clients.all turned.self.all) (sym c.deliver_new.ensures.stirred) c.in_ok-turn.ensures.leaves.calm)
    c.deliver_new.ensures.rest (c.is_exceeded-self-inside.ensures.few known)

pub returns-clause-kept : goal.returns-clause-kept
returns-clause-kept g c =
    let sent = λ (a : g.row.A.Denot). (g.A.Arrivals.outgoing a).sent in
    let inside = c.self.inside in
    let rested = c.deliver_rest.new in
    let turned = c.turn.new in
    let last = c.deliver_new.new in
    elim c.in_ok-turn.ensures.leaves.stirred [
      | inl kept ↦ inl kept
      | inr none ↦ inr (subst (λ (s : SessionsOf g.row.A.Denot). TakesUnread s.clients.all (sent s.connections) (sent last.connections))
          c.self.view_is (round_unread turned.self.stirred inside.clients.all rested.clients.all turned.self.all last.clients.all
          (sent inside.connections) (sent rested.connections) (sent turned.arrivals) (sent last.connections) none c.deliver_rest.ensures.rest
          c.in_ok-turn.ensures.leaves.calm (ap (λ (o : OutgoingOf). o.sent) c.turn.ensures.leaves.outgoing) c.deliver_new.ensures.rest))
    ]

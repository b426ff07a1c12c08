use Rattle.std.proofs.Common.{ap, List, length, sym, subst, ◌∙◌, inl, inr}
use Rattle.std.specs.List.{All}
use Rattle.std.proofs.lemmas.Result.{err_from_is_err_and, on_ok_weaker}
use Rattle.sb_calls.specs.declared.ask.Key.{Key}
use Rattle.sb_calls.specs.declared.call.Call.{Call}
use Rattle.bank_server.specs.Clients.{ClientOf, IsSound, ServesTurn}
use Rattle.bank_server.specs.Primary.{opening_rows_of}
use Rattle.bank_server.specs.SessionFaults.{as_session, session_of_crew_fault}
use Rattle.bank_server.specs.inner.ClientTurns.{IsServing}
use Rattle.bank_server.proofs.clients.ClientLists.{turn_stopped}
use Rattle.bank_server.proofs.sessions.Serving.{serves_numbered, serves_still}
use Rattle.bank_server.proofs.clients.Stirs.{none_if_empty}
use Rattle.bank_server.proofs.boards.WholeReplies.{ok_always}
use Rattle.bank_server.proofs.session.clients.take_turn.Goals as goal

pub returns-in_err-take_arrivals-clause-serves : goal.returns-in_err-take_arrivals-clause-serves
returns-in_err-take_arrivals-clause-serves g c =
    let p = err_from_is_err_and c.from_residual.result c.from_residual.ensures.1 in
    let mid = c.take_arrivals.new.primary in
    rw (p.1, p.2) (serves_numbered _ c.args.primary.now mid mid c.take_arrivals.ensures.numbered (serves_still _ mid tt tt))

pub returns-then-is_empty-clause-sound : goal.returns-then-is_empty-clause-sound
returns-then-is_empty-clause-sound g c =
    ok_always c.offer_rest.result (subst (λ (l : List (Key × Call)). All (λ (x : ClientOf). IsSound (length l) x) c.take_arrivals.new.clients)
    (sym (ap (λ p. p.log) c.offer_rest.ensures.unchanged)) c.in_ok-take_arrivals.ensures.sound)

pub returns-then-is_empty-clause-taken : goal.returns-then-is_empty-clause-taken
returns-then-is_empty-clause-taken g c =
    let old = c.args.primary.now in
    let mid = c.take_arrivals.new in
    ok_always c.offer_rest.result (subst (λ (l : List (Key × Call)). ServesTurn (IsServing (opening_rows_of old)) (g.A.Arrivals.coming c.args.arrivals.now)
    (g.A.Arrivals.coming mid.arrivals) (g.A.Arrivals.here c.args.arrivals.now) old.log c.args.clients.now l mid.clients)
    (sym (ap (λ p. p.log) c.offer_rest.ensures.unchanged)) c.in_ok-take_arrivals.ensures.taken)

pub returns-then-is_empty-clause-whole_log : goal.returns-then-is_empty-clause-whole_log
returns-then-is_empty-clause-whole_log g c =
    let stirred = c.take_arrivals.new.stirred in
    ok_always c.offer_rest.result (inr (none_if_empty stirred.items stirred.len stirred.ok.0 (sym c.is_empty.ensures ∙ c.if-is_empty.true)))

pub returns-then-is_empty-clause-calm : goal.returns-then-is_empty-clause-calm
returns-then-is_empty-clause-calm g c = ok_always c.offer_rest.result c.in_ok-take_arrivals.ensures.calm

pub returns-then-is_empty-clause-serves : goal.returns-then-is_empty-clause-serves
returns-then-is_empty-clause-serves g c =
    serves_numbered (as_session session_of_crew_fault c.offer_rest.result) c.args.primary.now c.take_arrivals.new.primary c.offer_rest.new.self
    c.take_arrivals.ensures.numbered c.offer_rest.ensures.serves

pub returns-then-is_empty-clause-log : goal.returns-then-is_empty-clause-log
returns-then-is_empty-clause-log g c =
    let old = c.args.primary.now in
    let mid = c.take_arrivals.new in
    turn_stopped (opening_rows_of old) (g.A.Arrivals.coming c.args.arrivals.now) (g.A.Arrivals.coming mid.arrivals)
    (g.A.Arrivals.here c.args.arrivals.now) old.log c.args.clients.now mid.primary.log mid.clients c.offer_rest.new.self.log
    c.in_ok-take_arrivals.ensures.taken c.take_arrivals.ensures.as_many (ap (λ p. p.log) c.offer_rest.ensures.unchanged)

pub returns-clause-sound : goal.returns-clause-sound
returns-clause-sound g c =
    ok_always c.settle.result (subst (λ (l : List (Key × Call)). All (λ (x : ClientOf). IsSound (length l) x) c.take_arrivals.new.clients)
    (sym (ap (λ p. p.log) c.settle.ensures.unchanged)) c.in_ok-take_arrivals.ensures.sound)

pub returns-clause-taken : goal.returns-clause-taken
returns-clause-taken g c =
    let old = c.args.primary.now in
    let mid = c.take_arrivals.new in
    ok_always c.settle.result (subst (λ (l : List (Key × Call)). ServesTurn (IsServing (opening_rows_of old)) (g.A.Arrivals.coming c.args.arrivals.now)
    (g.A.Arrivals.coming mid.arrivals) (g.A.Arrivals.here c.args.arrivals.now) old.log c.args.clients.now l mid.clients)
    (sym (ap (λ p. p.log) c.settle.ensures.unchanged)) c.in_ok-take_arrivals.ensures.taken)

pub returns-clause-whole_log : goal.returns-clause-whole_log
returns-clause-whole_log g c = on_ok_weaker c.settle.result (λ whole. inl whole) c.settle.ensures.whole_log

pub returns-clause-calm : goal.returns-clause-calm
returns-clause-calm g c = ok_always c.settle.result c.in_ok-take_arrivals.ensures.calm

pub returns-clause-serves : goal.returns-clause-serves
returns-clause-serves g c =
    serves_numbered (as_session session_of_crew_fault c.settle.result) c.args.primary.now c.take_arrivals.new.primary c.settle.new.self
    c.take_arrivals.ensures.numbered c.settle.ensures.serves

pub returns-clause-log : goal.returns-clause-log
returns-clause-log g c =
    let old = c.args.primary.now in
    let mid = c.take_arrivals.new in
    turn_stopped (opening_rows_of old) (g.A.Arrivals.coming c.args.arrivals.now) (g.A.Arrivals.coming mid.arrivals)
    (g.A.Arrivals.here c.args.arrivals.now) old.log c.args.clients.now mid.primary.log mid.clients c.settle.new.self.log
    c.in_ok-take_arrivals.ensures.taken c.take_arrivals.ensures.as_many (ap (λ p. p.log) c.settle.ensures.unchanged)

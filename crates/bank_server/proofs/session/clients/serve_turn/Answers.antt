use Rattle.std.proofs.Common.{◌≡◌, [], Ok, Err, ℕ, List, refl, sym, ap, subst, true, ◌∙◌}
use Rattle.std.specs.Prelude.{IfSome, OnOk, Result, is_ok, slice_get}
use Rattle.std.proofs.lemmas.Bool.{false≢true}
use Rattle.std.proofs.lemmas.Result.{err_from_is_err_and}
use Rattle.cown_workers.specs.declared.crew_fault.CrewFault.{CrewFault}
use Rattle.sb_calls.specs.declared.ask.Key.{Key}
use Rattle.sb_calls.specs.declared.call.Call.{Call}
use Rattle.sb_rows.specs.Rows.{Rows}
use Rattle.bank_server.specs.Clients.{AreCalmBut, ServesTurn}
use Rattle.bank_server.specs.Primary.{PreservesBank, opening_rows_of}
use Rattle.bank_server.specs.ServesOn.{ServesOn}
use Rattle.bank_server.specs.SessionFaults.{as_session, session_of_crew_fault}
use Rattle.bank_server.specs.inner.ClientTurns.{AreDueWithin, IsServing, TellsClients}
use Rattle.bank_server.proofs.clients.ClientLists.{turn_served}
use Rattle.bank_server.proofs.clients.Stirs.{all_ready, due_within, none_due_now, none_if_empty}
use Rattle.bank_server.proofs.sessions.FrameSteps.{keeps_on}
use Rattle.bank_server.proofs.sessions.Serving.{keep_fails, serves_kept}
use Rattle.bank_server.proofs.boards.WholeReplies.{same_opening}
use Rattle.bank_server.proofs.session.clients.serve_turn.Goals as goal

-- what a result says if it is Ok
if_ok : {T E P : Type 0} (result : Result T E) → is_ok result ≡ true → OnOk result P → P
if_ok (Ok value) fine h = h
if_ok (Err fault) fine h = absurd (false≢true fine)

pub returns-then-is_empty-clause-served : goal.returns-then-is_empty-clause-served
returns-then-is_empty-clause-served g c =
    let old = c.args.primary.now in
    let mid = c.take_turn-taken.new in
    let took = c.take_turn-taken.ensures in
    let fine : is_ok c.take_turn-taken.result ≡ true = sym c.is_ok.ensures.value ∙ c.if-is_ok.true in
    let none : mid.stirred.items ≡ [] =
    none_if_empty mid.stirred.items mid.stirred.len mid.stirred.ok.0 (sym c.is_empty.ensures ∙ c.if-is_empty.true) in
    let calm : AreCalmBut mid.stirred.items c.args.clients.now mid.clients = if_ok c.take_turn-taken.result fine took.calm in
    let none_due : (i : ℕ) → IfSome (slice_get mid.clients i) (λ x. x.due ≡ 0) =
    none_due_now mid.clients (subst (λ (l : List ℕ). AreDueWithin l mid.clients) none
    (due_within mid.stirred.items c.args.clients.now mid.clients calm)) in
    turn_served (opening_rows_of old) (g.A.Arrivals.coming c.args.arrivals.now) (g.A.Arrivals.coming mid.arrivals)
    (g.A.Arrivals.here c.args.arrivals.now) old.log c.args.clients.now mid.primary.log mid.clients mid.clients
    (if_ok c.take_turn-taken.result fine took.taken) (λ asks past are. are) none_due refl

pub returns-in_err-keep-clause-serves : goal.returns-in_err-keep-clause-serves
returns-in_err-keep-clause-serves g c =
    let p = err_from_is_err_and c.from_residual.result c.from_residual.ensures.1 in
    let mid = c.take_turn-taken.new.primary in
    let step = c.take_turn-taken.ensures.serves in
    rw (p.1, p.2) (keep_fails _ c.args.primary.now mid c.keep.new.self step.bank step.none_out c.keep.ensures.bank c.keep.ensures.unchanged
    c.in_err-keep.ensures.fault)

pub returns-in_err-taken-clause-serves : goal.returns-in_err-taken-clause-serves
returns-in_err-taken-clause-serves g c =
    let p = err_from_is_err_and c.from_residual-in_err-taken.result c.from_residual-in_err-taken.ensures.1 in
    let old = c.args.primary.now in
    let mid = c.take_turn-taken.new.primary in
    let step = subst (λ (r : Result (Unit {0}) CrewFault). ServesOn g.K.Keeper.model g.C.Crew.keeps (as_session session_of_crew_fault r) old mid)
    c.in_err-taken.was c.take_turn-taken.ensures.serves in
    rw (p.1, p.2) (serves_kept _ old mid c.keep.new.self step c.keep.ensures.bank c.keep.ensures.unchanged)

pub returns-in_err-tell_all-clause-serves : goal.returns-in_err-tell_all-clause-serves
returns-in_err-tell_all-clause-serves g c =
    let p = err_from_is_err_and c.from_residual-in_err-tell_all.result c.from_residual-in_err-tell_all.ensures.1 in
    let step = serves_kept (as_session session_of_crew_fault c.take_turn-taken.result) c.args.primary.now c.take_turn-taken.new.primary
    c.keep.new.self c.take_turn-taken.ensures.serves c.keep.ensures.bank c.keep.ensures.unchanged in
    rw (p.1, p.2) (record { bank = step.bank; none_out = step.none_out; crew_lost = tt; log_lost = tt })

pub returns-clause-serves : goal.returns-clause-serves
returns-clause-serves g c =
    let step = serves_kept (as_session session_of_crew_fault c.take_turn-taken.result) c.args.primary.now c.take_turn-taken.new.primary
    c.keep.new.self c.take_turn-taken.ensures.serves c.keep.ensures.bank c.keep.ensures.unchanged in
    record { bank = step.bank; none_out = step.none_out; crew_lost = tt; log_lost = tt }

pub returns-clause-ready : goal.returns-clause-ready
returns-clause-ready g c =
    let told = c.in_ok-tell_all.ensures in
    all_ready _ c.tell_all.new.clients told.sound (none_due_now c.tell_all.new.clients told.none_due)

pub returns-clause-calm : goal.returns-clause-calm
returns-clause-calm g c =
    let mid = c.take_turn-taken.new in
    let calm : AreCalmBut mid.stirred.items c.args.clients.now mid.clients =
    subst (λ (r : Result (Unit {0}) CrewFault). OnOk r (AreCalmBut mid.stirred.items c.args.clients.now mid.clients)) c.in_ok-taken.was
    c.take_turn-taken.ensures.calm in
    subst (λ (l : List ℕ). AreCalmBut l c.args.clients.now c.tell_all.new.clients) c.deref.ensures.value
    (c.in_ok-tell_all.ensures.calm c.args.clients.now
    (subst (λ (l : List ℕ). AreCalmBut l c.args.clients.now mid.clients) (sym c.deref.ensures.value) calm))

pub returns-clause-served : goal.returns-clause-served
returns-clause-served g c =
    let old = c.args.primary.now in
    let opening = opening_rows_of old in
    let mid = c.take_turn-taken.new in
    let new = c.keep.new.self in
    let told = c.in_ok-tell_all.ensures in
    let bank : PreservesBank g.K.Keeper.model old new = keeps_on old mid.primary new c.take_turn-taken.ensures.serves.bank c.keep.ensures.bank in
    let coming = g.A.Arrivals.coming c.args.arrivals.now in
    let left = g.A.Arrivals.coming mid.arrivals in
    let here = g.A.Arrivals.here c.args.arrivals.now in
    let took : ServesTurn (IsServing opening) coming left here old.log c.args.clients.now mid.primary.log mid.clients =
    subst (λ (r : Result (Unit {0}) CrewFault). OnOk r (ServesTurn (IsServing opening) coming left here old.log c.args.clients.now mid.primary.log
    mid.clients)) c.in_ok-taken.was c.take_turn-taken.ensures.taken in
    let turn : ServesTurn (IsServing opening) coming left here old.log c.args.clients.now new.log mid.clients =
    subst (λ (l : List (Key × Call)). ServesTurn (IsServing opening) coming left here old.log c.args.clients.now l mid.clients)
    (sym (ap (λ p. p.log) c.keep.ensures.unchanged)) took in
    let tells : TellsClients opening new.log mid.clients c.tell_all.new.clients =
    subst (λ (rows : Rows). TellsClients rows new.log mid.clients c.tell_all.new.clients) (same_opening old new bank) told.told in
    turn_served opening coming left here old.log c.args.clients.now new.log mid.clients c.tell_all.new.clients turn tells
    (none_due_now c.tell_all.new.clients told.none_due) c.tell_all.ensures.as_many

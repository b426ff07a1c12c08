use Rattle.std.proofs.Common.{◌≡◌, ℕ, false, length, subst}
use Rattle.cown_workers.specs.Draining.{HasNoneOut}
use Rattle.bank_server.proofs.boards.WholeReplies.{if_err}
use Rattle.bank_server.proofs.sessions.FrameSteps.{keeps_on}
use Rattle.bank_server.proofs.sessions.Keeping.{stays_bank}
use Rattle.bank_service.specs.ServeFaults.{IsServingFault}
use Rattle.bank_service.proofs.GoneCrews.{serving_fault_if, turn_ends_server, unsaved_fault}
use Rattle.bank_service.proofs.server.Server.serve_round.Goals as goal

pub returns-in_err-wait-clause-bank : goal.returns-in_err-wait-clause-bank
returns-in_err-wait-clause-bank g c = stays_bank c.args.self.now.primary

pub serve-requires : goal.serve-requires
serve-requires g c = record { ready = c.wait.ensures.ready (length c.args.self.now.primary.log) c.requires.ready }

pub returns-clause-bank : goal.returns-clause-bank
returns-clause-bank g c =
    keeps_on c.args.self.now.primary c.serve.new.primary c.compare_if_due.new.primary c.serve.ensures.serves.bank c.compare_if_due.ensures.bank

pub returns-clause-fault : goal.returns-clause-fault
returns-clause-fault g c =
    let mid = c.serve.new.primary.node.board in
    let nodes = c.args.followers.now.nodes in
    let saves = c.args.self.now.plan.saves in
    let fails = g.K.Keeper.model.fails in
    if_err c.compare_if_due.result (λ fault is. serving_fault_if nodes saves fails fault
    (λ (gone : g.C.Crew.keeps ≡ false → ¬ HasNoneOut mid) e none. gone e (c.serve.ensures.serves.none_out e none))
    (unsaved_fault (g.C.Crew.keeps ≡ false → ¬ HasNoneOut mid) nodes saves fails fault
    (subst (λ (n : ℕ). IsServingFault n (g.C.Crew.keeps ≡ false → ¬ HasNoneOut mid) false fails fault) c.feed_if_many.ensures.nodes is)))
    c.compare_if_due.ensures.fault

pub returns-in-Err-clause-fault : goal.returns-in-Err-clause-fault
returns-in-Err-clause-fault g c =
    let lost = c.in-Err.ensures.serves in
    turn_ends_server c.args.followers.now.nodes g.C.Crew.keeps c.args.self.now.primary.node.board c.args.self.now.plan.saves g.K.Keeper.model.fails _
    c.in-Err.fault c.stop.result lost.crew_lost lost.log_lost c.stop.ensures.fault

use Rattle.std.proofs.Common.{rules, ◌≡◌, None, ap, sym, subst, ◌∙◌}
use Rattle.std.proofs.lemmas.Result.{err_from_is_err_and}
use Rattle.sb_checkpoint.specs.Stores.{StoreDoes}
use Rattle.sb_replica.specs.Marking.{PutsBytes}
use Rattle.sb_replica.specs.Replica.{ReplicaOf}
use Rattle.bank_server.specs.Primary.{PrimaryOf}
use Rattle.bank_server.proofs.sessions.Saves.{not_read, read_back, read_other}
use Rattle.bank_server.proofs.node0.primary.Primary.save.Goals as goal

pub returns-in_err-same-clause-fault : goal.returns-in_err-same-clause-fault
returns-in_err-same-clause-fault g c =
    let p = err_from_is_err_and c.from_residual-in_err-same.result c.from_residual-in_err-same.ensures.1 in
    let does = StoreDoes g.S.CheckpointStore.model in
    let old = c.args.self.now.node in
    let bytes = c.in_ok-put.put.items in
    let first : c.deref_mut.result.now ≡ old =
    c.deref_mut.ensures.value ∙ ap (λ (p : PrimaryOf g.row.S.Denot g.row.K.Denot). p.node) c.self.view_is in
    let uncut : old.board.cut ≡ None =
    subst (λ (p : PrimaryOf g.row.S.Denot g.row.K.Denot). p.node.board.cut ≡ None) c.self.view_is c.self.invariant.valid.behind.uncut in
    let puts : PutsBytes does old bytes c.deref_mut-2.result.now =
    subst (λ (r : ReplicaOf g.row.S.Denot). PutsBytes does r bytes c.deref_mut-2.result.now) first
    (subst (PutsBytes does c.deref_mut.result.now bytes) (sym c.deref_mut-2.ensures.value) c.in_ok-put.ensures.ok) in
    rw (p.1, p.2) (not_read does old c.deref_mut-2.result.now c.store_has_content.new.self bytes puts
    c.store_has_content.ensures.unchanged uncut c.in_err-same.field-0.0 c.in_err-same.ensures.compares)

pub returns-then-not-same-clause-fault : goal.returns-then-not-same-clause-fault
returns-then-not-same-clause-fault g c =
    let does = StoreDoes g.S.CheckpointStore.model in
    let old = c.args.self.now.node in
    let bytes = c.in_ok-put.put.items in
    let compared = c.in_ok-same.ensures.compares in
    let first : c.deref_mut.result.now ≡ old =
    c.deref_mut.ensures.value ∙ ap (λ (p : PrimaryOf g.row.S.Denot g.row.K.Denot). p.node) c.self.view_is in
    let uncut : old.board.cut ≡ None =
    subst (λ (p : PrimaryOf g.row.S.Denot g.row.K.Denot). p.node.board.cut ≡ None) c.self.view_is c.self.invariant.valid.behind.uncut in
    let puts : PutsBytes does old bytes c.deref_mut-2.result.now =
    subst (λ (r : ReplicaOf g.row.S.Denot). PutsBytes does r bytes c.deref_mut-2.result.now) first
    (subst (PutsBytes does c.deref_mut.result.now bytes) (sym c.deref_mut-2.ensures.value) c.in_ok-put.ensures.ok) in
    read_other does old c.deref_mut-2.result.now c.store_has_content.new.self bytes puts
    c.store_has_content.ensures.unchanged uncut compared.content compared.get (search rules)

pub returns-clause-saved : goal.returns-clause-saved
returns-clause-saved g c =
    let does = StoreDoes g.S.CheckpointStore.model in
    let old = c.args.self.now.node in
    let bytes = c.in_ok-put.put.items in
    let compared = c.in_ok-same.ensures.compares in
    let first : c.deref_mut.result.now ≡ old =
    c.deref_mut.ensures.value ∙ ap (λ (p : PrimaryOf g.row.S.Denot g.row.K.Denot). p.node) c.self.view_is in
    let uncut : old.board.cut ≡ None =
    subst (λ (p : PrimaryOf g.row.S.Denot g.row.K.Denot). p.node.board.cut ≡ None) c.self.view_is c.self.invariant.valid.behind.uncut in
    let puts : PutsBytes does old bytes c.deref_mut-2.result.now =
    subst (λ (r : ReplicaOf g.row.S.Denot). PutsBytes does r bytes c.deref_mut-2.result.now) first
    (subst (PutsBytes does c.deref_mut.result.now bytes) (sym c.deref_mut-2.ensures.value) c.in_ok-put.ensures.ok) in
    read_back does old c.deref_mut-2.result.now c.store_has_content.new.self bytes puts
    c.store_has_content.ensures.unchanged uncut compared.content compared.get (search rules)

use Rattle.std.proofs.Common.{◌≡◌, Option, option_map, List, sym, ap, subst, ◌∙◌}
use Rattle.std.proofs.lemmas.Result.{err_from_is_err_and}
use Rattle.sb_calls.specs.declared.op.Op.{Op}
use Rattle.sb_checkpoint.specs.Stores.{StoreDoes}
use Rattle.cown_board.specs.Board.{length_of}
use Rattle.sb_replica.specs.Replica.{ReplicaOf}
use Rattle.sb_replica.specs.Restarting.{Restarts}
use Rattle.sb_replica.proofs.StoreReads.{store_fails, refuses}
use Rattle.sb_replica.proofs.replica.Replica.restart.Goals as goal

pub replace_log-requires-clause-customers : goal.replace_log-requires-clause-customers
replace_log-requires-clause-customers g c = c.in_ok-log.ensures.customers

pub replace_log-requires-clause-replies : goal.replace_log-requires-clause-replies
replace_log-requires-clause-replies g c = c.in_ok-log.ensures.replies

pub returns-in_err-content-clause-err : goal.returns-in_err-content-clause-err
returns-in_err-content-clause-err g c =
    let p = err_from_is_err_and c.from_residual.result c.from_residual.ensures.1 in
    rw (p.1, p.2) (store_fails g.S.CheckpointStore.model c.self.view_is c.get.new.self c.in_err-content.field-0.0 c.in_err-content.ensures)

pub returns-in_err-log-clause-err : goal.returns-in_err-log-clause-err
returns-in_err-log-clause-err g c =
    let p = err_from_is_err_and c.from_residual-in_err-log.result c.from_residual-in_err-log.ensures.1 in
    rw (p.1, p.2)
    (refuses g.S.CheckpointStore.model c.self.view_is c.get.new.self (option_map (λ bytes. bytes.items) c.in_ok-content.content)
    c.in_ok-content.ensures c.in_err-log.field-0.0 c.in_err-log.ensures.err)

pub returns-clause-ok : goal.returns-clause-ok
returns-clause-ok g c =
    let store = g.S.CheckpointStore in
    let inside = c.self.inside in
    let log = c.in_ok-log.log in
    let holding : List (Option Op) → ReplicaOf g.row.S.Denot = λ held. record {
      id = inside.id;
      names = inside.directory;
      opening = inside.opening;
      board = log.board;
      held = held;
      store = c.get.new.self;
    } in
    let gone_on : c.replace_log.new.self ≡ holding log.held = c.replace_log.ensures in
    subst (λ (new : ReplicaOf g.row.S.Denot). Restarts (StoreDoes store.model) c.args.self.now c.length.result new)
    (sym gone_on)
    (subst
    (λ (old : ReplicaOf g.row.S.Denot).
    Restarts (StoreDoes store.model) old c.length.result (holding log.held))
    c.self.view_is
    (record {
      content = option_map (λ bytes. bytes.items) c.in_ok-content.content;
      got = c.in_ok-content.ensures;
      board = c.in_ok-log.ensures.log;
      length_is = c.length.ensures.value ∙ ap (λ (r : ReplicaOf g.row.S.Denot). length_of r.board) gone_on;
      stays = ap holding c.in_ok-log.ensures.no_held_entry;
    }))

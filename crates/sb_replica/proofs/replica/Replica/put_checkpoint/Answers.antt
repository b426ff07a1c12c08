use Rattle.std.proofs.Common.{◌≡◌, None, Ok, inl, refl, rules, ap, subst, ◌∙◌}
use Rattle.sb_checkpoint.specs.Stores.{StoreDoes, Put}
use Rattle.cown_board.specs.Board.{BoardOf, length_of}
use Rattle.sb_calls.specs.declared.op.Op.{Op}
use Rattle.sb_replica.specs.Log.{LogOf}
use Rattle.sb_replica.specs.Replica.{ReplicaOf}
use Rattle.sb_replica.specs.inner.Rotation.{in_order_after}
use Rattle.sb_replica.proofs.replica.Replica.put_checkpoint.Goals as goal

pub returns-in-Ok-put-clause-ok : goal.returns-in-Ok-put-clause-ok
returns-in-Ok-put-clause-ok g c =
    let store = g.S.CheckpointStore in
    let old = c.args.self.now in
    let put : StoreDoes store.model old.store (Put c.in-Ok.bytes.items (Ok tt)) c.put.new.self = search rules in
    let here : ReplicaOf g.row.S.Denot → ReplicaOf g.row.S.Denot = λ r. record r { board = record r.board { cut = None }; store = c.put.new.self } in
    let raw = c.self-inside.inside.0 in
    let with_board : BoardOf Op → ReplicaOf g.row.S.Denot = λ b. record {
      id = raw.0;
      names = raw.1.1.0;
      opening = raw.1.1.1.0;
      board = b;
      held = in_order_after (length_of b) raw.1.1.1.1.0.held;
      store = c.put.new.self;
    } in
    let stays : with_board c.drop_cut.new.self ≡ here old =
    ap with_board c.drop_cut.ensures
    ∙ ap (λ inside. record {
      id = inside.id;
      names = inside.directory;
      opening = inside.opening;
      board = record inside.log.board { cut = None };
      held = inside.log.held;
      store = c.put.new.self;
    })
    c.self-inside.view_is ∙ ap here c.self.view_is in (
      record {
        idle = c.in-Some.ensures.value.0;
        columns = c.in-Some.columns.now;
        after = c.in-Some.ensures.value.1;
        bytes = c.in-Ok.bytes.items;
        spelled = c.in-Ok.ensures;
        put = put;
        stays = stays;
      },
      refl,
    )

pub returns-in_default : goal.returns-in_default
returns-in_default g c = record { busy = (λ e. c.in_default.ensures.value, λ e. refl); ok = tt; err = (c.in_default.ensures.value, refl) }

pub returns-in_default-checkpoint_bytes : goal.returns-in_default-checkpoint_bytes
returns-in_default-checkpoint_bytes g c =
    let idle = c.in-Some.ensures.value.0 in
    record { busy = (λ e. absurd cc, λ some. absurd (some idle)); ok = tt; err = (idle, inl refl) }

pub returns-in-Ok-put-clause-busy : goal.returns-in-Ok-put-clause-busy
returns-in-Ok-put-clause-busy g c = (λ e. absurd cc, λ some. absurd (some c.in-Some.ensures.value.0))

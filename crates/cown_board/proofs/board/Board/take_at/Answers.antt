use Rattle.std.proofs.Common.{◌≡◌, ◌≤◌, Some, length, refl, sym, ap, ◌∙◌, subst, arith}
use Rattle.std.specs.Prelude.{slice_get, slice_set}
use Rattle.std.proofs.lemmas.Option.{slice_get_read}
use Rattle.sb_calls.specs.Cowns.{AreBelow, contents_of, read_cowns}
use Rattle.cown_board.proofs.BoardSteps.{IsBoard-linked, one_each}
use Rattle.cown_board.proofs.JobTake.{ready_within, number_below, takes_from, taken_inputs_held, board_taken, declared_in_held}
use Rattle.cown_board.specs.Board.{BoardOf}
use Rattle.cown_board.specs.inner.BoardInvariant.{AreLinks}
use Rattle.cown_board.specs.Readiness.{ready_positions}
use Rattle.cown_board.specs.declared.state.State.TheVariants.{Out}
use Rattle.cown_board.proofs.board.Board.take_at.Goals as goal

pub take-requires-clause-links : goal.take-requires-clause-links
take-requires-clause-links g c =
    let touches = g.B.Behaviour.touches in
    let effect = g.B.Behaviour.effect in
    subst (λ n. AreLinks touches effect c.self.inside.log.items c.self.inside.states.items c.self.inside.unfinished n c.self.inside.links)
    (sym (one_each touches effect c.self.invariant)) c.self.invariant.links

pub take-requires-clause-cowns : goal.take-requires-clause-cowns
take-requires-clause-cowns g c k cown among =
    let lt = c.self.invariant.keeps.in_range k cown among in
    omega (arith, lt, one_each g.B.Behaviour.touches g.B.Behaviour.effect c.self.invariant)

pub take-requires-clause-limit : goal.take-requires-clause-limit
take-requires-clause-limit g c = omega (arith, c.self.invariant.length_limit)

pub returns-in_err-position : goal.returns-in_err-position
returns-in_err-position g c =
    let few = c.in_err-position.ensures.outcome.0 in
    record {
      made = rw c.from_residual.ensures (
        subst (λ (v : BoardOf g.row.B.Denot). length
            (ready_positions g.B.Behaviour.touches v.log v.states) ≤ c.args.index) c.self.view_is few,
        c.self.view_is,
      );
    }

pub index-behaviour-requires : goal.index-behaviour-requires
index-behaviour-requires g c =
    let touches = g.B.Behaviour.touches in
    let effect = g.B.Behaviour.effect in
    let lt = ready_within touches effect c.self.invariant c.args.index c.in_ok-position.position
    c.in_ok-position.ensures.outcome.0 in
    omega (arith, lt, c.self.inside.log.ok)

pub index_mut-requires : goal.index_mut-requires
index_mut-requires g c =
    let touches = g.B.Behaviour.touches in
    let effect = g.B.Behaviour.effect in
    let lt = ready_within touches effect c.self.invariant c.args.index c.in_ok-position.position
    c.in_ok-position.ensures.outcome.0 in
    omega (arith, lt, c.self.inside.states.ok, c.self.invariant.keeps.same_length)

pub read_cowns-inputs-requires-clause-cowns : goal.read_cowns-inputs-requires-clause-cowns
read_cowns-inputs-requires-clause-cowns g c =
    let touches = g.B.Behaviour.touches in
    let effect = g.B.Behaviour.effect in
    let log = c.self.inside.log.items in
    let lt = ready_within touches effect c.self.invariant c.args.index c.in_ok-position.position
    c.in_ok-position.ensures.outcome.0 in
    let here : slice_get log c.in_ok-position.position ≡ Some c.index-behaviour.result.now =
    slice_get_read log (length log) c.in_ok-position.position c.index-behaviour.result.now refl lt c.index-behaviour.ensures in
    subst (AreBelow (length (contents_of c.self.inside.columns))) (sym (c.as_slice.ensures.value ∙ c.cowns.ensures))
    (declared_in_held touches effect c.self.invariant c.in_ok-position.position c.index-behaviour.result.now here)

pub overflow_add-self-inside : goal.overflow_add-self-inside
overflow_add-self-inside g c =
    let touches = g.B.Behaviour.touches in
    let effect = g.B.Behaviour.effect in
    let lt = ready_within touches effect c.self.invariant c.args.index c.in_ok-position.position
    c.in_ok-position.ensures.outcome.0 in
    let few = number_below touches effect c.self.invariant c.in_ok-position.position lt in
    record { fits = omega (arith, few) }

pub overflow_add-self-inside-2 : goal.overflow_add-self-inside-2
overflow_add-self-inside-2 g c =
    let touches = g.B.Behaviour.touches in
    let effect = g.B.Behaviour.effect in
    let lt = ready_within touches effect c.self.invariant c.args.index c.in_ok-position.position
    c.in_ok-position.ensures.outcome.0 in
    let few = number_below touches effect c.self.invariant c.in_ok-position.position lt in
    record { fits = omega (arith, few) }

pub new-requires : goal.new-requires
new-requires g c =
    let touches = g.B.Behaviour.touches in
    let effect = g.B.Behaviour.effect in
    let log = c.self.inside.log.items in
    let ready = c.in_ok-position.ensures.outcome.0 in
    let lt = ready_within touches effect c.self.invariant c.args.index c.in_ok-position.position ready in
    let here : slice_get log c.in_ok-position.position ≡ Some c.index-behaviour.result.now =
    slice_get_read log (length log) c.in_ok-position.position c.index-behaviour.result.now refl lt c.index-behaviour.ensures in
    let read : c.read_cowns-inputs.result.items ≡ read_cowns (contents_of c.self.inside.columns) (touches c.index-behaviour.result.now) =
    c.read_cowns-inputs.ensures ∙ ap (read_cowns (contents_of c.self.inside.columns)) (c.as_slice.ensures.value ∙ c.cowns.ensures) in
    taken_inputs_held touches effect c.self.invariant g.met.B.Behaviour.valid_outputs c.args.index c.in_ok-position.position c.index-behaviour.result.now
    c.read_cowns-inputs.result.items ready here read

pub invariant_of-self : goal.invariant_of-self
invariant_of-self g c =
    let touches = g.B.Behaviour.touches in
    let effect = g.B.Behaviour.effect in
    let log = c.self.inside.log.items in
    let states = c.self.inside.states.items in
    IsBoard-linked touches effect c.self.invariant c.take.new.self
    (subst (λ n. AreLinks touches effect log states c.self.inside.unfinished n c.take.new.self) (one_each touches effect c.self.invariant)
    c.in_err-position.ensures.outcome.1)

pub invariant_of-self-2 : goal.invariant_of-self-2
invariant_of-self-2 g c =
    let touches = g.B.Behaviour.touches in
    let effect = g.B.Behaviour.effect in
    let log = c.self.inside.log.items in
    let states = slice_set c.self.inside.states.items c.in_ok-position.position Out in
    board_taken touches effect c.self.invariant c.args.index c.in_ok-position.position c.take.new.self c.in_ok-position.ensures.outcome.0
    (subst (λ n. AreLinks touches effect log states c.self.inside.unfinished n c.take.new.self) (one_each touches effect c.self.invariant)
    c.in_ok-position.ensures.outcome.1)

pub returns : goal.returns
returns g c =
    let touches = g.B.Behaviour.touches in
    let effect = g.B.Behaviour.effect in
    let log = c.self.inside.log.items in
    let ready = c.in_ok-position.ensures.outcome.0 in
    let lt = ready_within touches effect c.self.invariant c.args.index c.in_ok-position.position ready in
    let here : slice_get log c.in_ok-position.position ≡ Some c.index-behaviour.result.now =
    slice_get_read log (length log) c.in_ok-position.position c.index-behaviour.result.now refl lt c.index-behaviour.ensures in
    let read : c.read_cowns-inputs.result.items ≡ read_cowns (contents_of c.self.inside.columns) (touches c.index-behaviour.result.now) =
    c.read_cowns-inputs.ensures ∙ ap (read_cowns (contents_of c.self.inside.columns)) (c.as_slice.ensures.value ∙ c.cowns.ensures) in
    let takes = takes_from touches effect c.self.invariant c.args.index c.in_ok-position.position c.index-behaviour.result.now c.read_cowns-inputs.result.items
    ready here read in
    record { made = rw (c.new.ensures, sym c.self.view_is) takes }

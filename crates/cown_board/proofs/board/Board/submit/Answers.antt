use Rattle.std.proofs.Common.{◌≤◌, ◌≡◌, ◌+◌, true, false, vec_capacity, Ok, Err, ◌++◌, ◌∷◌, [], List, length, ap, sym, ◌∙◌, subst, arith}
use Rattle.std.specs.Prelude.{Result, OnErr, OnOk}
use Rattle.std.specs.Result.{is_err}
use Rattle.std.proofs.lemmas.Bool.{false≢true}
use Rattle.sb_calls.specs.Cowns.{AreBelow, contents_of}
use Rattle.cown_board.specs.Board.{BoardOf}
use Rattle.cown_board.proofs.BoardSteps.{IsBoard-pushed, IsBoard-stays, few_ready, links_submitted, one_each}
use Rattle.cown_board.proofs.CallEffects.{submits_busy, submits_full, submits_no_memory, submits_next}
use Rattle.cown_board.specs.inner.Links.{AddsToLinks}
use Rattle.cown_board.specs.BoardCalls.{Submits}
use Rattle.cown_board.specs.declared.board.SubmitFault.TheVariants.{Busy, LogFull}
use Rattle.cown_board.specs.declared.state.State.TheVariants.{Waiting}
use Rattle.cown_board.proofs.board.Board.submit.Goals as goal

-- what holds of an error
on_err : {T E P : Type 0} (r : Result T E) → is_err r ≡ true → OnErr r P → P
on_err (Ok value) is p = absurd (false≢true is)
on_err (Err fault) is p = p

-- what holds of a value
on_ok : {T E P : Type 0} (r : Result T E) → is_err r ≡ false → OnOk r P → P
on_ok (Ok value) is p = p
on_ok (Err fault) is p = absurd (false≢true (sym is))

pub enqueue-requires-clause-cowns : goal.enqueue-requires-clause-cowns
enqueue-requires-clause-cowns g c =
    let touches = g.B.Behaviour.touches in
    rw (one_each touches g.B.Behaviour.effect c.self.invariant)
    (subst (λ (v : BoardOf g.row.B.Denot). AreBelow (length (contents_of v.opening)) (touches c.args.behaviour)) (sym c.self.view_is) c.requires)

pub enqueue-requires-clause-counts : goal.enqueue-requires-clause-counts
enqueue-requires-clause-counts g c is =
    let counted = (c.self.invariant.links.linked is).counts.same_length in
    omega (arith, counted, c.self.inside.links.ready.behind.ok, c.self.inside.log.ok, c.len-position.ensures)

pub enqueue-requires-clause-ready : goal.enqueue-requires-clause-ready
enqueue-requires-clause-ready g c is =
    let few = few_ready g.B.Behaviour.touches g.B.Behaviour.effect c.self.invariant is in
    omega (arith, few, c.self.inside.links.ready.ready.ok)

pub invariant_of-self : goal.invariant_of-self
invariant_of-self g c = let room = c.make_room.ensures in rw (room.log.0, room.states.0) c.self.invariant

pub invariant_of-self-then-is_err-2 : goal.invariant_of-self-then-is_err-2
invariant_of-self-then-is_err-2 g c =
    let room = c.make_room.ensures in
    rw (room.log.0, room.states.0)
    (IsBoard-stays g.B.Behaviour.touches g.B.Behaviour.effect c.self.invariant c.enqueue.new.self c.enqueue.ensures.room
    (on_err c.enqueue.result (sym c.is_err-2.ensures.value ∙ c.if-is_err-2.true) c.enqueue.ensures.err))

pub push_reserved-requires : goal.push_reserved-requires
push_reserved-requires g c =
    let room = on_ok c.make_room.result (sym c.is_err.ensures.value ∙ c.if-is_err.false) c.make_room.ensures.log_room in omega (arith, room)

pub push_reserved-requires-2 : goal.push_reserved-requires-2
push_reserved-requires-2 g c =
    let room = on_ok c.make_room.result (sym c.is_err.ensures.value ∙ c.if-is_err.false) c.make_room.ensures.states_room in omega (arith, room)

pub invariant_of-self-2 : goal.invariant_of-self-2
invariant_of-self-2 g c =
    let touches = g.B.Behaviour.touches in
    let effect = g.B.Behaviour.effect in
    let room = c.make_room.ensures in
    let links = c.self.inside.links in
    let new = c.enqueue.new.self in
    let position : c.len-position.result ≡ length c.self.inside.log.items = omega (arith, c.len-position.ensures, room.log.1, c.self.inside.log.ok) in
    let below : AreBelow (length (contents_of c.self.inside.opening)) (touches c.args.behaviour) =
    subst (λ (v : BoardOf g.row.B.Denot). AreBelow (length (contents_of v.opening)) (touches c.args.behaviour)) (sym c.self.view_is) c.requires in
    let put = on_ok c.enqueue.result (sym c.is_err-2.ensures.value ∙ c.if-is_err-2.false) c.enqueue.ensures.ok in
    IsBoard-pushed touches effect c.self.invariant c.args.behaviour c.push_reserved.new.self.items c.push_reserved-2.new.self.items new below
    (c.push_reserved.ensures.items ∙ ap (λ (xs : List g.row.B.Denot). xs ++ c.args.behaviour ∷ []) room.log.0)
    (c.push_reserved-2.ensures.items ∙ ap (λ xs. xs ++ Waiting ∷ []) room.states.0)
    (links_submitted touches effect c.self.invariant c.args.behaviour new below c.enqueue.ensures.room.linked
    (λ is. subst (λ n. AddsToLinks n (touches c.args.behaviour) links new) position (put.linked is))
    put.unlinked (subst (λ n. n + 1 ≤ vec_capacity new.ready.behind) position put.counts) put.ready)
    c.if-self-eq-OPEN_BEHAVIOURS.false
    (λ full. c.if-length.false (omega (arith, full, c.len-position.ensures, c.self.inside.log.ok)))

pub returns-then-self-eq-OPEN_BEHAVIOURS : goal.returns-then-self-eq-OPEN_BEHAVIOURS
returns-then-self-eq-OPEN_BEHAVIOURS g c =
    let touches = g.B.Behaviour.touches in
    let effect = g.B.Behaviour.effect in
    record {
      made = subst (λ (v : BoardOf g.row.B.Denot). Submits v c.args.behaviour (Err Busy) v) c.self.view_is
          (submits_busy touches effect c.self.invariant c.args.behaviour c.if-self-eq-OPEN_BEHAVIOURS.true);
    }

pub returns-then-length : goal.returns-then-length
returns-then-length g c =
    let touches = g.B.Behaviour.touches in
    let effect = g.B.Behaviour.effect in
    record {
      made = subst (λ (v : BoardOf g.row.B.Denot). Submits v c.args.behaviour (Err LogFull) v) c.self.view_is
          (submits_full touches effect c.self.invariant c.args.behaviour c.if-self-eq-OPEN_BEHAVIOURS.false
          (omega (arith, c.if-length.true, c.len-position.ensures, c.self.inside.log.ok)));
    }

pub returns-then-is_err : goal.returns-then-is_err
returns-then-is_err g c =
    let touches = g.B.Behaviour.touches in
    let effect = g.B.Behaviour.effect in
    let room = c.make_room.ensures in
    record {
      made = rw (room.log.0, room.states.0, sym c.self.view_is)
          (submits_no_memory touches effect c.self.invariant c.args.behaviour c.if-self-eq-OPEN_BEHAVIOURS.false
          (λ full. c.if-length.false (omega (arith, full, c.len-position.ensures, c.self.inside.log.ok))));
    }

pub returns-then-is_err-2 : goal.returns-then-is_err-2
returns-then-is_err-2 g c =
    let touches = g.B.Behaviour.touches in
    let effect = g.B.Behaviour.effect in
    let room = c.make_room.ensures in
    record {
      made = rw (room.log.0, room.states.0, sym c.self.view_is)
          (submits_no_memory touches effect c.self.invariant c.args.behaviour c.if-self-eq-OPEN_BEHAVIOURS.false
          (λ full. c.if-length.false (omega (arith, full, c.len-position.ensures, c.self.inside.log.ok))));
    }

pub returns : goal.returns
returns g c =
    let touches = g.B.Behaviour.touches in
    let effect = g.B.Behaviour.effect in
    let room = c.make_room.ensures in
    let pushed = c.push_reserved.ensures.items ∙ ap (λ (xs : List g.row.B.Denot). xs ++ c.args.behaviour ∷ []) room.log.0 in
    let waits = c.push_reserved-2.ensures.items ∙ ap (λ xs. xs ++ Waiting ∷ []) room.states.0 in
    record {
      made = rw (pushed, waits, sym c.self.view_is)
          (submits_next touches effect c.self.invariant c.args.behaviour (c.self.inside.base + c.len-position.result + 1) c.if-self-eq-OPEN_BEHAVIOURS.false
          (λ full. c.if-length.false (omega (arith, full, c.len-position.ensures, c.self.inside.log.ok)))
          (omega (arith, c.len-position.ensures, room.log.1, c.self.inside.log.ok)));
    }

use Rattle.std.proofs.Common.{◌≡◌, ◌+◌, ◌≤◌, suc, Err, length, refl, sym, ap, ◌∙◌, subst, arith}
use Rattle.std.specs.Prelude.{IfSome}
use Rattle.std.proofs.lemmas.Bool.{both_ways}
use Rattle.sb_calls.specs.Cowns.{AreBelow, AreCownValues, IsRising, contents_of, write_cowns}
use Rattle.cown_queue.specs.Queues.{IsInFront, Releases, fronts_of}
use Rattle.cown_board.proofs.JobFinish.{not_numbered, not_inside, released_in_front, some_unfinished, outputs_held, board_finished, fronts_behind, room_for_fronts, cowns_of_cut, unfinished_in_cut, finishes_from}
use Rattle.cown_board.proofs.JobTake.{declared_in_held}
use Rattle.cown_board.specs.Board.{BoardOf}
use Rattle.cown_board.specs.inner.Links.{ComesForward}
use Rattle.cown_board.specs.inner.CutUpdates.{UpdatesAnyCut}
use Rattle.cown_board.specs.BoardCalls.{TakesBack}
use Rattle.cown_board.proofs.board.Board.finish.Given.{Over}
use Rattle.cown_board.proofs.board.Board.finish.Goals as goal
use Rattle.cown_board.proofs.board.Board.finish.Goals.{After-as_slice-cowns}

-- the result has the number of the position
numbered : (g : Over) (c : After-as_slice-cowns g) → c.args.done.number ≡ suc (c.self.inside.base + c.in-Some.position)
numbered g c = sym c.number-number.ensures ∙ c.in-Some.ensures.1

-- the cowns are those that its behaviour declares
declared : (g : Over) (c : After-as_slice-cowns g) → c.as_slice-cowns.result.now ≡ g.B.Behaviour.touches c.args.done.behaviour
declared g c = c.as_slice-cowns.ensures.value ∙ c.cowns-cowns.ensures ∙ ap g.B.Behaviour.touches c.behaviour.ensures

pub is_out_at-requires-clause-position : goal.is_out_at-requires-clause-position
is_out_at-requires-clause-position g c = omega (arith, c.in-Some.ensures.0, c.len.ensures, c.self.inside.log.ok)

pub is_out_at-requires-clause-cowns : goal.is_out_at-requires-clause-cowns
is_out_at-requires-clause-cowns g c k b here = declared_in_held g.B.Behaviour.touches g.B.Behaviour.effect c.self.invariant k b here

pub release-requires-clause-rising : goal.release-requires-clause-rising
release-requires-clause-rising g c =
    subst IsRising (sym (declared g (goal.at.release-requires-clause-rising g c).After-as_slice-cowns)) (g.met.B.Behaviour.rising c.args.done.behaviour)

pub release-requires-clause-front : goal.release-requires-clause-front
release-requires-clause-front g c linked =
    let known = (goal.at.release-requires-clause-front g c).After-as_slice-cowns in
    subst (λ cowns. IsInFront c.in-Some.position cowns c.self.inside.links.queues.lists) (sym (declared g known))
    (released_in_front g.B.Behaviour.touches g.B.Behaviour.effect c.self.invariant c.in-Some.position c.args.done (numbered g known)
    (c.is_out_at.ensures.0 c.if-not-is_out_at.false) linked)

pub release-requires-clause-behind : goal.release-requires-clause-behind
release-requires-clause-behind g c linked new released k =
    let known = (goal.at.release-requires-clause-behind g c).After-as_slice-cowns in
    rw (declared g known) (fronts_behind g.B.Behaviour.touches g.B.Behaviour.effect c.self.invariant c.in-Some.position c.args.done
    (numbered g known) (c.is_out_at.ensures.0 c.if-not-is_out_at.false) g.met.B.Behaviour.rising c.into_effect-reply.result.0 linked new
    (subst (λ cowns. Releases cowns c.self.inside.links.queues.lists new) (declared g known) released) k)

pub release-requires-clause-room : goal.release-requires-clause-room
release-requires-clause-room g c =
    let known = (goal.at.release-requires-clause-room g c).After-as_slice-cowns in
    let room = room_for_fronts g.B.Behaviour.touches g.B.Behaviour.effect c.self.invariant c.in-Some.position c.args.done
    (numbered g known) (c.is_out_at.ensures.0 c.if-not-is_out_at.false) in
    omega (arith, room, c.self.inside.links.ready.ready.ok)

pub write_cowns-requires-clause-cowns : goal.write_cowns-requires-clause-cowns
write_cowns-requires-clause-cowns g c =
    let known = (goal.at.write_cowns-requires-clause-cowns g c).After-as_slice-cowns in
    subst (AreBelow (length (contents_of c.self.inside.columns))) (sym (declared g known))
    (declared_in_held g.B.Behaviour.touches g.B.Behaviour.effect c.self.invariant c.in-Some.position c.args.done.behaviour
    (c.is_out_at.ensures.0 c.if-not-is_out_at.false).1)

pub write_cowns-requires-clause-values : goal.write_cowns-requires-clause-values
write_cowns-requires-clause-values g c =
    let known = (goal.at.write_cowns-requires-clause-values g c).After-as_slice-cowns in
    subst (λ cowns. AreCownValues cowns c.as_slice-outputs.result.now) (sym (declared g known))
    (outputs_held g.B.Behaviour.touches g.B.Behaviour.effect c.self.invariant c.in-Some.position c.args.done
    (numbered g known) (c.is_out_at.ensures.0 c.if-not-is_out_at.false) g.met.B.Behaviour.valid_outputs
    c.as_slice-outputs.result.now (c.as_slice-outputs.ensures.value ∙ c.into_effect-reply.ensures.outputs))

pub update_cut-requires-clause-cowns : goal.update_cut-requires-clause-cowns
update_cut-requires-clause-cowns g c =
    let known = (goal.at.update_cut-requires-clause-cowns g c).After-as_slice-cowns in
    subst (λ cowns. IfSome c.self.inside.cut (λ cut. AreBelow (length (contents_of cut.columns)) cowns)) (sym (declared g known))
    (cowns_of_cut g.B.Behaviour.touches g.B.Behaviour.effect c.self.invariant c.in-Some.position c.args.done
    (numbered g known) (c.is_out_at.ensures.0 c.if-not-is_out_at.false))

pub update_cut-requires-clause-unfinished : goal.update_cut-requires-clause-unfinished
update_cut-requires-clause-unfinished g c =
    let known = (goal.at.update_cut-requires-clause-unfinished g c).After-as_slice-cowns in
    subst (λ number. IfSome c.self.inside.cut (λ cut. number ≤ cut.number → 1 ≤ cut.unfinished)) (sym c.number-number.ensures)
    (unfinished_in_cut g.B.Behaviour.touches g.B.Behaviour.effect c.self.invariant c.in-Some.position c.args.done
    (numbered g known) (c.is_out_at.ensures.0 c.if-not-is_out_at.false))

pub update_cut-requires-clause-values : goal.update_cut-requires-clause-values
update_cut-requires-clause-values g c =
    let known = (goal.at.update_cut-requires-clause-values g c).After-as_slice-cowns in
    subst (λ cowns. AreCownValues cowns c.as_slice-outputs.result.now) (sym (declared g known))
    (outputs_held g.B.Behaviour.touches g.B.Behaviour.effect c.self.invariant c.in-Some.position c.args.done
    (numbered g known) (c.is_out_at.ensures.0 c.if-not-is_out_at.false) g.met.B.Behaviour.valid_outputs
    c.as_slice-outputs.result.now (c.as_slice-outputs.ensures.value ∙ c.into_effect-reply.ensures.outputs))

pub index_mut-requires : goal.index_mut-requires
index_mut-requires g c =
    omega (arith, c.in-Some.ensures.0, c.len.ensures, c.self.inside.log.ok, c.self.inside.states.ok, c.self.invariant.keeps.same_length)

pub overflow_sub-self : goal.overflow_sub-self
overflow_sub-self g c =
    let known = (goal.at.overflow_sub-self g c).After-as_slice-cowns in
    some_unfinished g.B.Behaviour.touches g.B.Behaviour.effect c.self.invariant c.in-Some.position c.args.done
    (numbered g known) (c.is_out_at.ensures.0 c.if-not-is_out_at.false)

pub invariant_of-self : goal.invariant_of-self
invariant_of-self g c =
    let touches = g.B.Behaviour.touches in
    let known = (goal.at.invariant_of-self g c).After-as_slice-cowns in
    let lists = c.self.inside.links.queues.lists in
    let values = c.as_slice-outputs.result.now in
    let links = c.release.new.self in
    board_finished touches g.B.Behaviour.effect c.self.invariant c.in-Some.position c.args.done
    (numbered g known) (c.is_out_at.ensures.0 c.if-not-is_out_at.false) g.met.B.Behaviour.valid_outputs g.met.B.Behaviour.rising
    c.into_effect-reply.result.0 values c.write_cowns.new.columns links
    c.into_effect-reply.ensures.reply (c.as_slice-outputs.ensures.value ∙ c.into_effect-reply.ensures.outputs)
    (c.write_cowns.ensures ∙ ap (λ cowns. write_cowns (contents_of c.self.inside.columns) cowns values) (declared g known))
    c.release.ensures.linked c.release.ensures.unchanged
    (λ is. subst (λ cowns. Releases cowns lists links.queues.lists) (declared g known) (c.release.ensures.released is))
    (λ is. subst (λ cowns. ComesForward (fronts_of links.queues.lists cowns) c.self.inside.links.ready links.ready) (declared g known)
    (c.release.ensures.forward is))
    c.release.ensures.room c.update_cut.new.cut
    (subst (λ number. UpdatesAnyCut number (touches c.args.done.behaviour) values c.self.inside.cut c.update_cut.new.cut) c.number-number.ensures
    (subst (λ cowns. UpdatesAnyCut c.number-number.result cowns values c.self.inside.cut c.update_cut.new.cut) (declared g known) c.update_cut.ensures))

pub returns : goal.returns
returns g c =
    let known = (goal.at.returns g c).After-as_slice-cowns in
    record {
      made = rw (sym c.self.view_is) (finishes_from g.B.Behaviour.touches g.B.Behaviour.effect c.self.invariant c.in-Some.position c.args.done
          (numbered g known) (c.is_out_at.ensures.0 c.if-not-is_out_at.false) c.into_effect-reply.result.0 c.into_effect-reply.ensures.reply
          c.number-number.result c.as_slice-cowns.result.now c.as_slice-outputs.result.now c.update_cut.new.cut c.update_cut.ensures);
    }

pub returns-in_default : goal.returns-in_default
returns-in_default g c =
    let touches = g.B.Behaviour.touches in
    let effect = g.B.Behaviour.effect in
    let board = c.self.invariant in
    let done = c.args.done in
    record {
      made = subst (λ (v : BoardOf g.row.B.Denot). TakesBack touches effect v done (Err done) v) c.self.view_is (
        not_numbered touches effect board done (λ k lt same.
            c.in_default.ensures k (omega (arith, lt, c.len.ensures, c.self.inside.log.ok)) (c.number-number.ensures ∙ same)),
        refl,
        refl,
      );
    }

pub returns-then-not-is_out_at : goal.returns-then-not-is_out_at
returns-then-not-is_out_at g c =
    let touches = g.B.Behaviour.touches in
    let effect = g.B.Behaviour.effect in
    let board = c.self.invariant in
    let done = c.args.done in
    record {
      made = subst (λ (v : BoardOf g.row.B.Denot). TakesBack touches effect v done (Err done) v) c.self.view_is (
        not_inside touches effect board c.in-Some.position done (sym c.number-number.ensures ∙ c.in-Some.ensures.1)
            (λ inside. both_ways c.is_out_at.result c.if-not-is_out_at.true (c.is_out_at.ensures.1 inside)),
        refl,
        refl,
      );
    }

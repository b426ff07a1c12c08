use Rattle.std.proofs.Common.{◌≡◌, ◌-◌, ◌<◌, ◌≤◌, true, Some, length, refl, sym, ap, ◌∙◌, subst, arith}
use Rattle.std.specs.Prelude.{count_by, slice_get}
use Rattle.std.specs.VecDeque.{deque_len, deque_capacity}
use Rattle.std.proofs.lemmas.Option.{slice_get_read, slice_get_within}
use Rattle.sb_calls.specs.Cowns.{AreBelow}
use Rattle.cown_queue.specs.Queues.{Appends}
use Rattle.cown_board.proofs.LinkInvariant.{all_but_first, all_wait, counts_at_first, counts_next, declared_below, first_listed, held_none, queues_at_first, queues_next}
use Rattle.cown_board.specs.inner.Fronts.{is_occupied}
use Rattle.cown_board.specs.State.{is_waiting, state_is}
use Rattle.cown_board.specs.inner.StateTests.{waiting_at}
use Rattle.cown_board.proofs.links.Links.link.Goals as goal
use Rattle.cown_board.proofs.links.Links.link.Goals.{then-not-waits, else-not-waits}

pub loop-position-init : goal.loop-position-init
loop-position-init g c =
    let touches = g.B.Behaviour.touches in
    let effect = g.B.Behaviour.effect in
    let log = c.args.log.now.items in
    let states = c.args.states.now.items in
    let cowns = length c.args.self.now.queues.lists in
    let none = c.requires.unlinked in
    let start : c.args.first - c.args.first ≡ 0 = omega arith in
    let held = held_none c.args.self.now.queues.lists cowns none.lists in
    record {
      queues = queues_at_first touches effect log states c.args.first cowns c.requires.cowns c.requires.beside c.requires.within none.before
          (c.args.first - c.args.first) c.args.self.now.queues.lists start none.lists;
      counts = counts_at_first touches effect log states c.args.first cowns c.requires.cowns c.requires.beside c.requires.within none.before
          (c.args.first - c.args.first) c.args.self.now.queues.lists c.skip.new.self.behind.items c.skip.new.self.ready.items start c.skip.ensures.behind
          (ap (λ r. r.items) c.skip.ensures.ready ∙ none.ready);
      places = (let p = none.places in omega (arith, p, held));
      counts_room = omega (arith, none.counts, c.skip.ensures.counts);
      few = omega (arith, ap deque_len c.skip.ensures.ready, ap length none.ready, c.args.self.now.ready.ready.ok);
      room = ap deque_capacity c.skip.ensures.ready;
    }

pub put-requires-clause-cowns : goal.put-requires-clause-cowns
put-requires-clause-cowns g c =
    let log = c.args.log.now.items in
    let cowns = length c.args.self.now.queues.lists in
    let here : slice_get log c.loop-position.position ≡ Some c.index-behaviour.result.now =
    slice_get_read log (length log) c.loop-position.position c.index-behaviour.result.now refl
    (omega (arith, c.loop-position-test.true, c.len-position-end.ensures, c.args.log.now.ok)) c.index-behaviour.ensures in
    subst (AreBelow (length c.loop-position.self.queues.lists)) (sym (c.as_slice-cowns.ensures.value ∙ c.cowns-cowns.ensures))
    (subst (λ n. AreBelow n (g.B.Behaviour.touches c.index-behaviour.result.now)) (sym c.loop-position.invariant.queues.one_each)
    (declared_below g.B.Behaviour.touches g.B.Behaviour.effect log cowns c.requires.cowns c.loop-position.position
    c.index-behaviour.result.now here))

pub loop-position-preserved : goal.loop-position-preserved
loop-position-preserved g c =
    let touches = g.B.Behaviour.touches in
    let effect = g.B.Behaviour.effect in
    let log = c.args.log.now.items in
    let states = c.args.states.now.items in
    let cowns = length c.args.self.now.queues.lists in
    let before = c.loop-position.invariant in
    let position = c.loop-position.position in
    let b = c.index-behaviour.result.now in
    let lt : position < length log = omega (arith, c.loop-position-test.true, c.len-position-end.ensures, c.args.log.now.ok) in
    let from : c.args.first ≤ position = omega (arith, before.few) in
    let here : slice_get log position ≡ Some b = slice_get_read log (length log) position b refl lt c.index-behaviour.ensures in
    let declared : c.as_slice-cowns.result.now ≡ touches b = c.as_slice-cowns.ensures.value ∙ c.cowns-cowns.ensures in
    let appended = subst (λ cs. Appends position cs c.loop-position.self.queues.lists c.put.new.self.lists) declared c.put.ensures.lists in
    record {
      queues = queues_next touches effect log states c.args.first cowns c.requires.cowns c.requires.beside c.requires.within c.requires.unlinked.before
          position b c.loop-position.self.queues.lists c.put.new.self.lists from lt here before.queues appended;
      counts = counts_next touches effect log states c.args.first cowns c.requires.cowns c.requires.beside c.requires.within c.requires.unlinked.before
          position b c.loop-position.self.queues.lists c.put.new.self.lists from lt here before.queues appended
          c.loop-position.self.ready.behind.items c.loop-position.self.ready.ready.items c.push.new.self.behind.items c.push.new.self.ready.items
          c.count_occupied-behind.result (c.count_occupied-behind.ensures ∙ ap (count_by (is_occupied c.loop-position.self.queues.lists)) declared)
          c.push.ensures.behind c.push.ensures.ready before.counts;
      places = omega (arith, before.places, c.put.ensures.queued, c.put.ensures.places, c.as_slice-cowns.ensures.fits, lt);
      counts_room = omega (arith, before.counts_room, c.push.ensures.counts);
      few = omega (arith, before.few, c.push.ensures.len);
      room = c.push.ensures.room ∙ before.room;
    }

pub remove-requires : goal.remove-requires
remove-requires g c =
    let before = c.loop-position.invariant in
    slice_get_within c.loop-position.self.ready.ready.items 0 c.args.first
    (first_listed g.B.Behaviour.touches g.B.Behaviour.effect c.args.log.now.items c.args.states.now.items c.args.first
    (length c.args.self.now.queues.lists) c.requires.cowns c.requires.beside c.requires.within c.requires.unlinked.before c.loop-position.position
    c.loop-position.self c.loop-position.self
    (omega (arith, c.loop-position-test.false, c.len-position-end.ensures, c.args.log.now.ok))
    (let last = c.loop-position.auto.position-end (omega (arith, c.requires.within, c.len-position-end.ensures, c.args.log.now.ok)) in
    omega (arith, last, c.len-position-end.ensures, c.args.log.now.ok))
    (c.requires.unlinked.here c.requires.within) c.requires.unlinked.after before.queues before.counts)

pub returns-clause-all_linked : goal.returns-clause-all_linked
returns-clause-all_linked g c =
    let touches = g.B.Behaviour.touches in
    let effect = g.B.Behaviour.effect in
    let log = c.args.log.now.items in
    let states = c.args.states.now.items in
    let cowns = length c.args.self.now.queues.lists in
    let before = c.loop-position.invariant in
    let links = c.loop-position.self in
    let all : length log ≤ c.loop-position.position = omega (arith, c.loop-position-test.false, c.len-position-end.ensures, c.args.log.now.ok) in
    let last = c.loop-position.auto.position-end (omega (arith, c.requires.within, c.len-position-end.ensures, c.args.log.now.ok)) in
    let ends : c.loop-position.position ≤ length log = omega (arith, last, c.len-position-end.ensures, c.args.log.now.ok) in
    let read : slice_get states c.args.first ≡ Some c.index.result.now =
    slice_get_read states (length states) c.args.first c.index.result.now refl (omega (arith, c.requires.within, c.requires.beside)) c.index.ensures in
    let first : waiting_at states c.args.first ≡ c.waits.result = ap (state_is is_waiting) read ∙ sym c.waits.ensures in
    let open_here = c.requires.unlinked.here c.requires.within in
    elim c.if-not-waits.branch [
      | then-not-waits w ↦ rw w.self-is (all_but_first touches effect log states c.args.first cowns c.requires.cowns c.requires.beside c.requires.within
          c.requires.unlinked.before c.loop-position.position links
          (record links { linked = true; ready = w.remove.new.self }) all ends open_here c.requires.unlinked.after
          before.queues before.counts (first ∙ w.if-not-waits.true) refl (ap (λ b. b.items) w.remove.ensures.behind) w.remove.ensures.ready)
      | else-not-waits w ↦ rw w.self-is (all_wait touches effect log states c.args.first cowns c.requires.cowns c.requires.beside c.requires.within
          c.requires.unlinked.before c.loop-position.position (record links { linked = true }) links all ends open_here c.requires.unlinked.after
          before.queues before.counts (first ∙ w.if-not-waits.false))
    ]

use Rattle.std.proofs.Common.{◌≡◌, ◌-◌, ◌<◌, Some, length, true, refl, sym, ap, ◌∙◌, subst, arith}
use Rattle.std.specs.Prelude.{slice_get}
use Rattle.std.proofs.lemmas.Option.{slice_get_read}
use Rattle.cown_board.proofs.ReadyListLaws.{taken}
use Rattle.cown_board.proofs.UnlinkedBoards.{first_ready, links_first, none_ready}
use Rattle.cown_board.specs.Readiness.{ready_positions}
use Rattle.cown_board.specs.State.{is_waiting, state_is}
use Rattle.cown_board.specs.inner.StateTests.{waiting_at}
use Rattle.cown_board.proofs.links.Links.take.Goals as goal

pub returns-then-self-clause-outcome : goal.returns-then-self-clause-outcome
returns-then-self-clause-outcome g c =
    let links = c.args.self.now in
    let known = c.requires.links in
    taken g.B.Behaviour.touches g.B.Behaviour.effect c.args.log.now.items c.args.states.now.items (length links.queues.lists) links
    (known.linked c.if-self.true) c.requires.cowns c.take.result c.args.index c.args.unfinished (record links { ready = c.take.new.self }) c.if-self.true
    refl (ap (λ b. b.items) c.take.ensures.behind) (λ some. let room = known.room some in omega (arith, room, c.take.ensures.room)) c.take.ensures.outcome

pub returns-then-unfinished-eq0-clause-outcome : goal.returns-then-unfinished-eq0-clause-outcome
returns-then-unfinished-eq0-clause-outcome g c =
    let none = (c.requires.links.unlinked c.if-self.false).1 in (
      none_ready g.B.Behaviour.touches c.args.log.now.items c.args.states.now.items c.args.index
          (λ k lt. none.before k (omega (arith, lt, c.if-unfinished-eq0.true))),
      c.requires.links,
    )

pub returns-then-waits-clause-outcome : goal.returns-then-waits-clause-outcome
returns-then-waits-clause-outcome g c =
    let touches = g.B.Behaviour.touches in
    let log = c.args.log.now.items in
    let states = c.args.states.now.items in
    let cowns = length c.args.self.now.queues.lists in
    let known = c.requires.links.unlinked c.if-self.false in
    let first = c.len.result - c.args.unfinished in
    let here : first ≡ length log - c.args.unfinished = omega (arith, c.len.ensures, c.args.log.now.ok) in
    let within : first < length log = omega (arith, here, known.0, c.if-unfinished-eq0.false) in
    let read : slice_get states first ≡ Some c.index.result.now =
    slice_get_read states (length states) first c.index.result.now refl (omega (arith, within, c.requires.beside)) c.index.ensures in
    let waits : waiting_at states first ≡ true = ap (state_is is_waiting) read ∙ sym c.waits.ensures ∙ c.if-waits.true in (
      subst (λ i. slice_get (ready_positions touches log states) i ≡ Some first) (sym c.if-index-eq0.true)
          (first_ready touches log states first within (λ k lt. known.1.before k (omega (arith, lt, here))) waits),
      links_first touches g.B.Behaviour.effect log states c.args.unfinished cowns first c.args.self.now c.requires.links c.if-self.false here waits,
    )

pub returns-clause-outcome : goal.returns-clause-outcome
returns-clause-outcome g c =
    let links = c.link.new.self in
    let cowns = length c.args.self.now.queues.lists in
    taken g.B.Behaviour.touches g.B.Behaviour.effect c.args.log.now.items c.args.states.now.items cowns links c.link.ensures.all_linked c.requires.cowns
    c.take-2.result c.args.index c.args.unfinished (record links { ready = c.take-2.new.self }) c.link.ensures.linked refl
    (ap (λ b. b.items) c.take-2.ensures.behind)
    (λ some. let room = c.requires.links.room some in omega (arith, room, c.take-2.ensures.room, c.link.ensures.room)) c.take-2.ensures.outcome

use Rattle.std.proofs.Common.{◌≡◌, ℕ, suc, ◌+◌, ◌<◌, ◌≤◌, length, sym, ap, ◌∙◌, arith}
use Rattle.std.proofs.lemmas.Bool.{true≢false}
use Rattle.schedule_player.specs.inner.SettlingSteps.{IsAtRest, IsTrueAt}
use Rattle.schedule_player.specs.Settling.{after_events, work_events, undone_at}
use Rattle.schedule_player.specs.World.{WorldOf, world_move}
use Rattle.schedule_text.specs.declared.event.Event.TheVariants as event
use Rattle.schedule_text.specs.declared.event.NodeEvent.TheVariants as node_event
use Rattle.schedule_player.proofs.hands.SettledWorlds.{after_pair, busy_some, idle_none, left_after_pairs, pairs_count}
use Rattle.schedule_player.proofs.world.World.run_until_idle.Goals as goal

pub idle-requires : goal.idle-requires
idle-requires c =
    let world = c.args.self.now in
    let r = c.args.replica in
    let done = c.loop-self.done in
    let same = ap (λ (w : WorldOf). length w.nodes) c.loop-self.invariant.after ∙ pairs_count world r done c.requires.replica in
    let lt = c.requires.replica in
    omega (arith, same, lt)

-- this many are left
left : (world now : WorldOf) (r done : ℕ) → r < length world.nodes → IsTrueAt IsAtRest world r → done ≤ undone_at world r
    → now ≡ after_events world (work_events r done) → done + undone_at now r ≡ undone_at world r
left world now r done lt rests few is =
    ap (λ w. done + undone_at w r) is ∙ left_after_pairs world r done lt rests few

there : (world now : WorldOf) (r done : ℕ) → r < length world.nodes → now ≡ after_events world (work_events r done) → r < length now.nodes
there world now r done lt is =
    let same = ap (λ (w : WorldOf). length w.nodes) is ∙ pairs_count world r done lt in
    omega (arith, same, lt)

pub loop-self-smaller : goal.loop-self-smaller
loop-self-smaller c =
    let world = c.args.self.now in
    let r = c.args.replica in
    let now = c.loop-self.self in
    let done = c.loop-self.done in
    let is = c.loop-self.invariant.after in
    let all = left world now r done c.requires.replica c.requires.at_rest c.loop-self.invariant.few is in
    let some = busy_some now r (there world now r done c.requires.replica is)
    (λ idle. true≢false (sym (c.idle.ensures.1 idle) ∙ c.loop-self-test.true)) in
    omega (arith, all, some)

pub loop-self-preserved : goal.loop-self-preserved
loop-self-preserved c =
    let world = c.args.self.now in
    let r = c.args.replica in
    let now = c.loop-self.self in
    let done = c.loop-self.done in
    let is = c.loop-self.invariant.after in
    let all = left world now r done c.requires.replica c.requires.at_rest c.loop-self.invariant.few is in
    let some = busy_some now r (there world now r done c.requires.replica is)
    (λ idle. true≢false (sym (c.idle.ensures.1 idle) ∙ c.loop-self-test.true)) in
    let next : done + 1 ≡ suc done = omega arith in
    record {
      after =
          c.finish_hand.ensures
          ∙ ap (λ w. (world_move w (event.At r (node_event.Finish 1))).0) c.take_first.ensures
          ∙ ap (λ w. (world_move (world_move w (event.At r (node_event.Take 1 0))).0 (event.At r (node_event.Finish 1))).0) is
          ∙ sym (after_pair world r done)
          ∙ ap (λ n. after_events world (work_events r n)) (sym next);
      few = omega (arith, all, some);
    }

pub returns-clause-count : goal.returns-clause-count
returns-clause-count c =
    let world = c.args.self.now in
    let r = c.args.replica in
    let now = c.loop-self.self in
    let all = left world now r c.loop-self.done c.requires.replica c.requires.at_rest c.loop-self.invariant.few c.loop-self.invariant.after in
    let none = idle_none now r (c.idle.ensures.0 c.loop-self-test.false) in
    omega (arith, all, none)

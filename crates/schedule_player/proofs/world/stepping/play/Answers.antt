use Rattle.std.proofs.Common.{◌≡◌, ◌<◌, ◌≤◌, ◌+◌, suc, [], ◌∷◌, ◌++◌, inr, length, take, sym, ap, subst, ◌∙◌, arith}
use Rattle.std.proofs.lemmas.List.{length-append, take_all}
use Rattle.cown_board.proofs.LogLaws.{take_one_more}
use Rattle.schedule_player.specs.EventLists.{PlaysEvents}
use Rattle.schedule_player.specs.World.{MayWantMemory, NextMayWantMemory}
use Rattle.schedule_player.proofs.Lists.{get_here}
use Rattle.schedule_player.proofs.events.EventLists.{plays_more}
use Rattle.schedule_player.proofs.world.stepping.play.Goals as goal

pub loop-done-preserved : goal.loop-done-preserved
loop-done-preserved c =
    let done = c.loop-done.done in
    let events = c.args.events.now in
    let event = c.index-events-done.result in
    let so_far = c.loop-done.invariant in
    let items = c.push_reserved.ensures.items in
    let within : done < length events = omega (arith, c.loop-done-test.true, c.loop-done.auto.done-end) in
    let next : done + 1 ≡ suc done = omega arith in
    let longer : take (done + 1) events ≡ take done events ++ event ∷ [] =
    ap (λ n. take n events) next ∙ take_one_more events done event (get_here events done event within c.index-events-done.is) in
    record {
      plays =
          subst (λ notes. PlaysEvents c.args.world.now (take (done + 1) events) notes c.step.new.self) (sym items)
          (subst (λ es. PlaysEvents c.args.world.now es (c.loop-done.notes.items ++ c.in-Ok-step.note ∷ []) c.step.new.self) (sym longer)
          (plays_more c.args.world.now (take done events) c.loop-done.notes.items c.loop-done.world event c.in-Ok-step.note c.step.new.self
          so_far.plays c.in-Ok-step.ensures.moves));
      count =
          let more = ap length items ∙ length-append c.loop-done.notes.items (c.in-Ok-step.note ∷ []) in
          let count = so_far.count in
          omega (arith, more, count);
      room = let room = so_far.room in let same = c.push_reserved.ensures.capacity in omega (arith, room, same);
    }

-- at a refused event, the events before it happened
pub returns-in-Err-OutOfMemory-clause-stopped : goal.returns-in-Err-OutOfMemory-clause-stopped
returns-in-Err-OutOfMemory-clause-stopped c =
    let plays = subst (PlaysEvents c.args.world.now (take c.loop-done.done c.args.events.now) c.loop-done.notes.items)
    (sym c.in-Err-OutOfMemory.ensures.err) c.loop-done.invariant.plays in
    (omega (arith, c.loop-done-test.true, c.loop-done.auto.done-end), (c.loop-done.notes.items, plays))

pub returns-in-Err-OutOfMemory-clause-wanted : goal.returns-in-Err-OutOfMemory-clause-wanted
returns-in-Err-OutOfMemory-clause-wanted c =
    let done = c.loop-done.done in
    let events = c.args.events.now in
    let event = c.index-events-done.result in
    let within : done < length events = omega (arith, c.loop-done-test.true, c.loop-done.auto.done-end) in
    inr (subst (NextMayWantMemory c.step.new.self) (sym (get_here events done event within c.index-events-done.is))
    (subst (λ w. MayWantMemory w event) (sym c.in-Err-OutOfMemory.ensures.err) c.in-Err-OutOfMemory.ensures.wanted))

pub returns-clause-plays : goal.returns-clause-plays
returns-clause-plays c =
    let events = c.args.events.now in
    let all : length events ≤ c.loop-done.done = omega (arith, c.loop-done-test.false, c.loop-done.auto.done-end) in
    subst (λ es. PlaysEvents c.args.world.now es c.loop-done.notes.items c.loop-done.world) (take_all c.loop-done.done events all)
    c.loop-done.invariant.plays

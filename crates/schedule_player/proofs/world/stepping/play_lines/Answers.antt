use Rattle.std.proofs.Common.{◌≡◌, ◌-◌, ◌∷◌, ◌++◌, [], inl, inr, length, refl, sym, ap, subst, ◌∙◌, arith, append-nil, append_assoc}
use Rattle.schedule_player.specs.EventLists.{PlaysEvents}
use Rattle.schedule_player.specs.World.{MayWantMemory, NextMayWantMemory}
use Rattle.schedule_player.proofs.events.EventLists.{plays_more}
use Rattle.schedule_player.proofs.events.PlayedLines.{count_of, if_written, next_is, stops_at, up_to_last, up_to_next}
use Rattle.schedule_player.proofs.world.stepping.play_lines.Goals as goal

pub loop-event-init : goal.loop-event-init
loop-event-init c =
    record { done = []; notes = []; all = c.walk-left.ensures; plays = refl; written = sym (append-nil c.args.out.now.items) }

pub overflow_sub-done : goal.overflow_sub-done
overflow_sub-done c =
    let many = count_of c.loop-event.invariant.done c.loop-event.left c.args.events.now c.loop-event.invariant.all in
    let longer = ap length c.in-Some.ensures in
    omega (arith, many, longer, c.len.ensures, c.len-in-Err-OutOfMemory.ensures)

pub overflow_sub-done-in-Err-OutOfMemory : goal.overflow_sub-done-in-Err-OutOfMemory
overflow_sub-done-in-Err-OutOfMemory c =
    let many = count_of c.loop-event.invariant.done c.loop-event.left c.args.events.now c.loop-event.invariant.all in
    let longer = ap length c.in-Some.ensures in
    omega (arith, many, longer, c.len.ensures, c.len-in-Err-OutOfMemory.ensures)

pub overflow_sub-done-then-is_err : goal.overflow_sub-done-then-is_err
overflow_sub-done-then-is_err c =
    let many = count_of c.loop-event.invariant.done c.loop-event.left c.args.events.now c.loop-event.invariant.all in
    let longer = ap length c.in-Some.ensures in
    omega (arith, many, longer, c.len-then-is_err.ensures, c.len-then-is_err-2.ensures)

pub returns-then-is_err-clause-stopped : goal.returns-then-is_err-clause-stopped
returns-then-is_err-clause-stopped c =
    let so_far = c.loop-event.invariant in
    let events = c.args.events.now in
    let left = c.next.new.self in
    let event = c.in-Some.event in
    let done = so_far.done ++ event ∷ [] in
    let all : done ++ left ≡ events =
    append_assoc so_far.done (event ∷ []) left ∙ ap (λ es. so_far.done ++ es) (sym c.in-Some.ensures) ∙ so_far.all in
    let plays =
    plays_more c.args.world.now so_far.done so_far.notes c.loop-event.world event c.in-Ok.note c.step.new.self
    so_far.plays c.in-Ok.ensures.moves in
    let many = count_of done left events all in
    let stops = stops_at c.args.world.now events left c.step.new.self done (so_far.notes ++ c.in-Ok.note ∷ [])
    (c.len-then-is_err.result - c.len-then-is_err-2.result) all plays (omega (arith, many, c.len-then-is_err.ensures, c.len-then-is_err-2.ensures)) in
    (stops.within, (stops.notes, stops.plays))

-- and at least that one
pub returns-then-is_err-clause-wanted : goal.returns-then-is_err-clause-wanted
returns-then-is_err-clause-wanted c =
    let so_far = c.loop-event.invariant in
    let many = count_of so_far.done c.loop-event.left c.args.events.now so_far.all in
    let longer = ap length c.in-Some.ensures in
    inl (omega (arith, many, longer, c.len-then-is_err.ensures, c.len-then-is_err-2.ensures))

-- at a refused event, the events before it happened
pub returns-in-Err-OutOfMemory-clause-stopped : goal.returns-in-Err-OutOfMemory-clause-stopped
returns-in-Err-OutOfMemory-clause-stopped c =
    let so_far = c.loop-event.invariant in
    let plays : PlaysEvents c.args.world.now so_far.done so_far.notes c.step.new.self =
    subst (λ w. PlaysEvents c.args.world.now so_far.done so_far.notes w) (sym c.in-Err-OutOfMemory.ensures.err) so_far.plays in
    let many = count_of so_far.done c.loop-event.left c.args.events.now so_far.all in
    let longer = ap length c.in-Some.ensures in
    let stops = stops_at c.args.world.now c.args.events.now c.loop-event.left c.step.new.self so_far.done so_far.notes
    (c.len.result - c.len-in-Err-OutOfMemory.result - 1) so_far.all plays (omega (arith, many, longer, c.len.ensures, c.len-in-Err-OutOfMemory.ensures)) in
    (stops.within, (stops.notes, stops.plays))

pub returns-in-Err-OutOfMemory-clause-wanted : goal.returns-in-Err-OutOfMemory-clause-wanted
returns-in-Err-OutOfMemory-clause-wanted c =
    let so_far = c.loop-event.invariant in
    let events = c.args.events.now in
    let many = count_of so_far.done c.loop-event.left events so_far.all in
    let longer = ap length c.in-Some.ensures in
    let next = next_is so_far.done c.next.new.self events c.in-Some.event (c.len.result - c.len-in-Err-OutOfMemory.result - 1)
    (ap (λ es. so_far.done ++ es) (sym c.in-Some.ensures) ∙ so_far.all)
    (omega (arith, many, longer, c.len.ensures, c.len-in-Err-OutOfMemory.ensures)) in
    inr (subst (NextMayWantMemory c.step.new.self) (sym next)
    (subst (λ w. MayWantMemory w c.in-Some.event) (sym c.in-Err-OutOfMemory.ensures.err) c.in-Err-OutOfMemory.ensures.wanted))

pub loop-event-preserved : goal.loop-event-preserved
loop-event-preserved c =
    up_to_next c.args.world.now c.args.events.now c.loop-event.left c.next.new.self c.loop-event.world c.step.new.self c.args.out.now.items
    c.loop-event.out.items c.push_note.new.out.items c.in-Some.event c.in-Ok.note c.loop-event.invariant c.in-Some.ensures c.in-Ok.ensures.moves
    (if_written c.push_note.result (sym c.is_err.ensures.value ∙ c.if-is_err.false) c.push_note.ensures)

pub returns-clause-plays : goal.returns-clause-plays
returns-clause-plays c =
    up_to_last c.args.world.now c.args.events.now c.loop-event.left c.loop-event.world c.args.out.now.items c.loop-event.out.items
    c.loop-event.invariant c.in_default.ensures.0

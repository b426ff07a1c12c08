use Rattle.std.proofs.Common.{[], ◌∷◌, ◌++◌, refl}
use Rattle.sb_checkpoint.specs.declared.memory_store.MemoryStore.{MemoryStore}
use Rattle.bank_server.specs.FollowerTurns.{FollowerOf, Takes, Runs}
use Rattle.bank_server.proofs.boards.FollowerTurns.{short_after, turn_after}
use Rattle.bank_server.proofs.followers.follower.handle_rest.Goals as goal

pub loop-init : goal.loop-init
loop-init g c = ([], refl)

pub returns-in-Short : goal.returns-in-Short
returns-in-Short g c =
    let start : FollowerOf MemoryStore = record { replica = c.args.replica.now; stream = c.args.stream.now } in
    let now : FollowerOf MemoryStore = record { replica = c.loop.replica; stream = c.loop.stream } in
    let new : FollowerOf MemoryStore = record { replica = c.receive.new.self; stream = c.receive.new.stream } in
    let received = c.in-Ok.received in
    let heard = c.in-Ok.ensures.outcome in
    record {
      turns = c.loop.invariant.0 ++ Takes received ∷ [];
      taken = turn_after start now new c.loop.invariant.0 (Takes received) c.loop.invariant.1 heard;
      short = short_after now.replica new.replica now.stream new.stream received c.in-Short.is heard;
    }

pub loop-preserved : goal.loop-preserved
loop-preserved g c =
    let start : FollowerOf MemoryStore = record { replica = c.args.replica.now; stream = c.args.stream.now } in
    let now : FollowerOf MemoryStore = record { replica = c.loop.replica; stream = c.loop.stream } in
    let mid : FollowerOf MemoryStore = record { replica = c.receive.new.self; stream = c.receive.new.stream } in
    let new : FollowerOf MemoryStore = record { replica = c.execute_in_place.new.replica; stream = c.receive.new.stream } in
    let received = c.in-Ok.received in
    let before = c.loop.invariant.0 in
    let heard = c.in-Ok.ensures.outcome in (
      (before ++ Takes received ∷ []) ++ Runs ∷ [],
      turn_after start mid new (before ++ Takes received ∷ []) Runs (turn_after start now mid before (Takes received) c.loop.invariant.1 heard)
          (c.in_ok-execute_in_place-in-Busy.ensures, refl),
    )

pub loop-preserved-in-Entry : goal.loop-preserved-in-Entry
loop-preserved-in-Entry g c =
    let start : FollowerOf MemoryStore = record { replica = c.args.replica.now; stream = c.args.stream.now } in
    let now : FollowerOf MemoryStore = record { replica = c.loop.replica; stream = c.loop.stream } in
    let new : FollowerOf MemoryStore = record { replica = c.receive.new.self; stream = c.receive.new.stream } in
    let received = c.in-Ok.received in
    let heard = c.in-Ok.ensures.outcome in
    (c.loop.invariant.0 ++ Takes received ∷ [], turn_after start now new c.loop.invariant.0 (Takes received) c.loop.invariant.1 heard)

pub loop-preserved-in-Entry-2 : goal.loop-preserved-in-Entry-2
loop-preserved-in-Entry-2 g c =
    let start : FollowerOf MemoryStore = record { replica = c.args.replica.now; stream = c.args.stream.now } in
    let now : FollowerOf MemoryStore = record { replica = c.loop.replica; stream = c.loop.stream } in
    let new : FollowerOf MemoryStore = record { replica = c.receive.new.self; stream = c.receive.new.stream } in
    let received = c.in-Ok.received in
    let heard = c.in-Ok.ensures.outcome in
    (c.loop.invariant.0 ++ Takes received ∷ [], turn_after start now new c.loop.invariant.0 (Takes received) c.loop.invariant.1 heard)

use Rattle.std.proofs.Common.{refl, le_refl}
use Rattle.cown_board.specs.inner.Links.{LeavesLinks, KeepsRoom}
use Rattle.cown_board.proofs.BoardSteps.{IsBoard-stays}
use Rattle.cown_board.proofs.board.Board.reserve.Goals as goal

pub invariant_of-self : goal.invariant_of-self
invariant_of-self g c = rw (c.make_room.ensures.log.0, c.make_room.ensures.states.0) c.self.invariant

pub invariant_of-self-2 : goal.invariant_of-self-2
invariant_of-self-2 g c =
    let put = c.reserve.ensures in
    let stay : LeavesLinks c.self.inside.links c.reserve.new.self = record { lists = rw put.queues refl; behind = put.behind; ready = rw put.ready refl } in
    let room : KeepsRoom c.self.inside.links c.reserve.new.self = record {
      linked = put.linked;
      counts = put.counts;
      ready = rw put.ready (le_refl _);
      places = rw put.queues (le_refl _);
    } in
    rw (c.make_room.ensures.log.0, c.make_room.ensures.states.0)
    (IsBoard-stays g.B.Behaviour.touches g.B.Behaviour.effect c.self.invariant c.reserve.new.self room stay)

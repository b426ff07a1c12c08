use Rattle.std.proofs.Common.{arith, ◌+◌, ◌<◌, length, refl}
use Rattle.bank_clients.specs.History.{unread_by_all, unread_limit}
use Rattle.bank_clients.proofs.UnreadByAll.{unread_first, unread_more}
use Rattle.bank_clients.proofs.greediest.has_too_much_unread.Goals as goal

pub returns-then-unread-left : goal.returns-then-unread-left
returns-then-unread-left c =
    let clients = c.args.clients.now.all in
    let place = c.loop-place.place in
    let within : place < length clients = omega (arith, c.loop-place-test.true, c.len-place-end.ensures) in
    let much : unread_limit < unread_by_all clients = omega (
      arith,
      c.if-unread-left.true,
      c.loop-place.invariant,
      unread_more clients place c.outcomes-unread.result.now within c.outcomes-unread.ensures,
      unread_first clients (place + 1),
    ) in
    (λ is. much, λ is. refl)

pub loop-place-preserved : goal.loop-place-preserved
loop-place-preserved c =
    let clients = c.args.clients.now.all in
    let place = c.loop-place.place in
    let within : place < length clients = omega (arith, c.loop-place-test.true, c.len-place-end.ensures) in
    omega (
      arith,
      c.if-unread-left.false,
      c.loop-place.invariant,
      unread_more clients place c.outcomes-unread.result.now within c.outcomes-unread.ensures,
    )

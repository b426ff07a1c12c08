use Rattle.std.proofs.Common.{[], sym, ap, ◌∙◌}
use Rattle.cown_board.specs.BoardCalls.{board_at_opening}
use Rattle.schedule_player.specs.MachineView.{stages_of}
use Rattle.schedule_player.proofs.openings.NodeOpening.{opens_so, opens_along}
use Rattle.schedule_player.proofs.node.Node.open.Goals as goal

pub returns-clause-node : goal.returns-clause-node
returns-clause-node c =
    let replica = c.in_ok-open_replica.ensures in
    opens_so
    (record {
      replica = c.in_ok-open_replica.field-0;
      hands = c.in_ok-hands.hands;
      inbound = c.new.result;
      outbound = c.new-2.result;
      states = c.new-3.result;
    })
    c.args.workers (ap (λ x. stages_of x.board) replica) (ap (λ x. x.board.cut) replica) (ap (λ x. x.held) replica)
    (ap (λ x. x.store.slot) replica) c.in_ok-hands.ensures c.new.ensures c.new-2.ensures c.new-3.ensures

pub returns-clause-consistent : goal.returns-clause-consistent
returns-clause-consistent c bank names opening same few =
    let replica = c.in_ok-open_replica.ensures in
    opens_along bank c.args.id
    (record {
      replica = c.in_ok-open_replica.field-0;
      hands = c.in_ok-hands.hands;
      inbound = c.new.result;
      outbound = c.new-2.result;
      states = c.new-3.result;
    })
    c.args.workers same few (ap (λ x. x.id) replica) (ap (λ x. x.names) replica ∙ sym names) (ap (λ x. x.opening) replica ∙ sym opening)
    (ap (λ x. x.board) replica ∙ ap (λ o. board_at_opening o []) (sym opening)) (ap (λ x. x.held) replica)
    (ap (λ x. x.store.slot) replica) c.in_ok-hands.ensures c.new.ensures c.new-2.ensures c.new-3.ensures

-- What is out at a replica of a world is in its workers' hands.
use Rattle.std.proofs.Common.{◌≡◌, ℕ, ◌<◌, List, length, sym, ap, subst, ◌∙◌, arith}
use Rattle.std.specs.List.{slice_index_or}
use Rattle.sb_rows.specs.Balances.{Balances}
use Rattle.schedule_sequencer.specs.DurableSequencer.{DurableSequencerOf}
use Rattle.schedule_player.specs.inner.NodeInvariant.{machine_node}
use Rattle.schedule_player.specs.inner.SettlingSteps.{IsTrueAt, IsAbleToSettle}
use Rattle.schedule_player.specs.World.{WorldOf}
use Rattle.schedule_player.specs.inner.WorldInvariant.{IsWorld}
use Rattle.schedule_player.specs.declared.node.Node.{Node}
use Rattle.schedule_player.proofs.Lists.{get_here}
use Rattle.cown_board.proofs.LogLaws.{injective as some_is}
use Rattle.schedule_player.proofs.events.WorldStep.{world_of, node_seen}
use Rattle.schedule_player.proofs.boards.Stages.{length-map}
use Rattle.schedule_player.proofs.openings.WorldOpening.{true_to_log}

pub able_at : (names : List (List ℕ)) (opening : Balances) (s : DurableSequencerOf) (nodes : List Node) (now : WorldOf) (r : ℕ) (node : Node)
    → world_of names opening s nodes ≡ now → IsWorld names opening s.synced nodes → r < length now.nodes → node ≡ slice_index_or nodes r node
    → IsTrueAt IsAbleToSettle now r
able_at names opening s nodes now r node view is within at =
    let size = ap (λ w. length w.nodes) view in
    let many = length-map machine_node nodes in
    let lt : r < length nodes = omega (arith, size, many, within) in
    let here = get_here nodes r node lt at in
    let seen = node_seen names opening s nodes r node here in
    subst (λ w. IsTrueAt IsAbleToSettle w r) view
    (λ one there. subst IsAbleToSettle (some_is (sym seen ∙ there))
    (record {
      out_in_hands = is.out_in_hands r node here;
      within =
          let within_log = (true_to_log names opening s nodes is).within r (machine_node node) seen in
          let few = is.valid.log.limit in
          omega (arith, within_log, few);
    }))

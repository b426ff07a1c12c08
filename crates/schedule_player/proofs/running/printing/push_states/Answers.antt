use Rattle.std.proofs.Common.{◌<◌, ◌+◌, ◌++◌, get_or, drop, length, ap, ◌∙◌, arith}
use Rattle.std.proofs.lemmas.Option.{slice_get-get_or}
use Rattle.sb_rows.specs.Text.{unlines}
use Rattle.schedule_player.specs.ReplicaMoves.{opened_node}
use Rattle.schedule_player.specs.RunText.{states_from}
use Rattle.schedule_player.proofs.events.FinalStates.{states_step}
use Rattle.schedule_player.proofs.running.printing.push_states.Goals as goal

pub loop-replica-preserved : goal.loop-replica-preserved
loop-replica-preserved c =
    let world = c.args.world.now in
    let r = c.loop-replica.replica in
    let node = get_or world.nodes r (opened_node 0) in
    let many = c.replicas-replica-end.ensures.value in
    let within : r < length world.nodes = omega (arith, c.loop-replica-test.true, c.loop-replica.auto.replica-end, many) in
    let here = slice_get-get_or world.nodes r (opened_node 0) within in
    ap (λ out. out ++ unlines (states_from world (r + 1) (drop (r + 1) world.nodes))) (c.in_ok-push_state.ensures node here)
    ∙ states_step world c.loop-replica.out.items world.nodes r node here
    ∙ c.loop-replica.invariant

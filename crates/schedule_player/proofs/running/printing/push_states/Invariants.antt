use Rattle.std.proofs.Common.{◌≡◌, ◌++◌, drop}
use Rattle.sb_rows.specs.Text.{unlines}
use Rattle.schedule_player.specs.RunText.{states_from}
use Rattle.schedule_player.proofs.running.printing.push_states.Given as goal

-- what is written and what is left to write are all
abbrev pub invariant-loop-replica : goal.invariant-loop-replica
invariant-loop-replica l =
    l.out.items ++ unlines (states_from l.world l.replica (drop l.replica l.world.nodes))
    ≡ l.fn.out.items ++ unlines (states_from l.world 0 l.world.nodes)

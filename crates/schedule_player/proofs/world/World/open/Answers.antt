use Rattle.std.proofs.Common.{[]}
use Rattle.schedule_player.proofs.openings.WorldOpening.{opened_so}
use Rattle.schedule_player.proofs.world.World.open.Goals as goal

pub invariant_of-result : goal.invariant_of-result
invariant_of-result c =
    opened_so c.args.directory c.args.opening c.args.nodes c.args.workers c.in_ok-replicas.replicas.items c.in_ok-sequencer.sequencer
    c.requires.customers c.requires.limit c.requires.has_worker c.requires.worker_limit
    c.in_ok-sequencer.ensures c.in_ok-replicas.ensures.node (c.in_ok-replicas.ensures.consistent)

pub returns-clause-value : goal.returns-clause-value
returns-clause-value c =
    λ j. record {
      names = c.args.directory;
      opening = c.args.opening;
      sequencer = c.in_ok-sequencer.ensures j;
      nodes = c.in_ok-replicas.ensures.node j;
    }

pub returns-clause-played : goal.returns-clause-played
returns-clause-played c = record { notes = []; plays = returns-clause-value c }

use Rattle.std.proofs.Common.{length}
use Rattle.sb_ask_log.proofs.Taking.{Taken}
use Rattle.sb_ask_log.proofs.ask_replay.take_batch.Given as goal

abbrev pub invariant-loop-rest : goal.invariant-loop-rest
invariant-loop-rest l = Taken l.body l.rest l.initial.log.log l.log.log

abbrev pub decreases-loop-rest : goal.decreases-loop-rest
decreases-loop-rest l = length l.rest

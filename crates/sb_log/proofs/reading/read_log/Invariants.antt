use Rattle.std.proofs.Common.{◌≤◌, ◌*◌}
use Rattle.sb_log.specs.Replaying.{HoldsReplayed}
use Rattle.sb_log.proofs.SoFar.{ReadSoFar}
use Rattle.sb_log.specs.LogFiles.{Stays}
use Rattle.sb_log.proofs.reading.read_log.Given as goal

abbrev pub invariant-loop : goal.invariant-loop
invariant-loop g l = record {
  file : Stays g.F.LogFile.IsHonest g.F.LogFile.model l.fn.file l.file;
  counter : l.counter ≤ l.records;
  bound : l.records ≤ l.counter * 4294967336;
  replays : HoldsReplayed g.T.Replay.Replays l.fn.replay l.hasher l.replay;
  so_far : g.F.LogFile.IsHonest l.fn.file
      → ReadSoFar g.T.Replay.Replays (g.F.LogFile.model l.fn.file).content l.fn.replay l.records l.hasher l.replay;
}

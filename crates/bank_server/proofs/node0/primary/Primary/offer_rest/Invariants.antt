use Rattle.std.proofs.Common.{◌≡◌, ◌+◌, false, length}
use Rattle.cown_workers.specs.Draining.{HasNoneOut}
use Rattle.sb_replica.specs.Replica.{rest_of}
use Rattle.bank_server.specs.NodeTurns.{TurnsLead}
use Rattle.bank_server.specs.Primary.{log_ops}
use Rattle.bank_server.specs.inner.KeptPrimary.{IsKeptPrimary}
use Rattle.bank_server.proofs.node0.primary.Primary.offer_rest.Given as goal

-- node 0 has the log before this number
abbrev pub invariant-loop-number : goal.invariant-loop-number
invariant-loop-number g l = record {
  kept : IsKeptPrimary g.K.Keeper.model (record {
    log = l.self-inside.log.value.log;
    counts = l.self-inside.counts;
    node = l.self-inside.node.value;
    keeper = l.self-inside.keeper;
  });
  log : l.self-inside.log.value.log ≡ l.fn.self.log;
  counts : l.self-inside.counts ≡ l.fn.self.counts;
  keeper : l.self-inside.keeper ≡ l.fn.self.keeper;
  end : l.number-end ≡ length l.self-inside.log.value.log + 1;
  count : length l.self-inside.node.value.board.log + 1 ≡ l.number;
  opening : l.self-inside.node.value.board.opening ≡ l.fn.self.node.board.opening;
  beside : rest_of l.self-inside.node.value ≡ rest_of l.fn.self.node;
  turns : TurnsLead (log_ops l.fn.self.node.names l.fn.self.log) l.fn.self.node l.self-inside.node.value;
  none_out : g.C.Crew.keeps ≡ false → HasNoneOut l.fn.self.node.board → HasNoneOut l.self-inside.node.value.board;
}

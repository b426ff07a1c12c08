-- A replica stays node 0 of the bank as the log goes on.
use Rattle.std.proofs.Common.{◌≡◌, List, ◌++◌, map, sym, subst}
use Rattle.std.proofs.lemmas.List.{map-append}
use Rattle.cown_board.specs.Board.{length_of}
use Rattle.sb_calls.specs.Cowns.{contents_of}
use Rattle.sb_calls.specs.Op.{op_of}
use Rattle.sb_calls.specs.declared.op.Op.{Op}
use Rattle.schedule_player.specs.MachineView.{ops_of}
use Rattle.schedule_player.specs.ReplicaOfLog.{IsBoardOfLog, AreHeldOfLog}
use Rattle.schedule_player.proofs.boards.BoardOfLog.{board_longer}
use Rattle.schedule_player.proofs.entries.HeldEntries.{held_longer}
use Rattle.replica_laws.specs.Node0Moves.{Node0Stays}

pub node0_stays : (S : Type 0) → Node0Stays S
node0_stays S bank replica more is few =
    let opening = contents_of bank.opening in
    let later : List Op = map (op_of bank.names) more in
    let longer : ops_of (record bank { calls = bank.calls ++ more }) ≡ ops_of bank ++ later = map-append (op_of bank.names) bank.calls more in
    record {
      customers = is.customers;
      few = few;
      board = subst (λ ops. IsBoardOfLog opening ops replica.board) (sym longer) (board_longer opening (ops_of bank) later replica.board is.board);
      held = subst (λ ops. AreHeldOfLog ops (length_of replica.board) replica.held) (sym longer)
          (held_longer (ops_of bank) later (length_of replica.board) replica.held is.held);
      clear = is.clear;
    }

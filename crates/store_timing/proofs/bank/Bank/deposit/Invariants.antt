-- There were as many deposits so far as rounds.
use Rattle.std.proofs.Common.{◌≡◌, ◌++◌}
use Rattle.store_timing.specs.Deposits.{cents_in_turn}
use Rattle.store_timing.proofs.bank.Bank.deposit.Given as goal

abbrev pub invariant-loop-call : goal.invariant-loop-call
invariant-loop-call g l = record {
  added : l.self.board.log ≡ l.fn.self.board.log ++ cents_in_turn l.fn.self.directory l.payees l.call;
  base_replies : l.self.board.base_replies ≡ l.fn.self.board.base_replies;
  opening : l.self.board.opening ≡ l.fn.self.board.opening;
  directory : l.self.directory ≡ l.fn.self.directory;
}

use Rattle.std.proofs.Common.{◌≡◌, ℕ, ◌+◌, ◌≤◌, List, ◌++◌, length, vec_capacity}
use Rattle.std.specs.List.{All}
use Rattle.sb_calls.specs.Ask.{IsKey}
use Rattle.sb_calls.specs.declared.ask.AskLine.{AskLine}
use Rattle.sb_rows.specs.Text.{lines}
use Rattle.bank_server.specs.Input.{asks_from}
use Rattle.bank_server.proofs.input.asking.read_batch.Given as goal

-- the asks of the lines so far are the batch, and those of what is left follow
abbrev pub invariant-loop-taken : goal.invariant-loop-taken
invariant-loop-taken l = record {
  all : (first : ℕ) (before : List AskLine)
      → asks_from first before (lines l.fn.text) ≡ asks_from first (before ++ l.batch.items) (lines l.left);
  count : length l.batch.items ≡ l.taken;
  room : 32 ≤ vec_capacity l.batch;
  keys : All (λ asked. IsKey asked.key) l.batch.items;
  within : length l.left + length l.batch.items ≤ length l.fn.text;
}

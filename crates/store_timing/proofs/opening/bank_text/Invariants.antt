-- There are as many lines as there were rounds.
use Rattle.std.proofs.Common.{◌≡◌}
use Rattle.std.specs.Prelude.{string_bytes}
use Rattle.store_timing.specs.Banks.{generated_lines}
use Rattle.store_timing.proofs.opening.bank_text.Given as goal

abbrev pub invariant-loop-place : goal.invariant-loop-place
invariant-loop-place l = string_bytes l.text ≡ generated_lines l.balances l.place

-- The request numbers of a batch.
use Rattle.std.specs.Prelude.{◌+◌, ◌^◌, ◌≤◌, length}
use Rattle.ask_client.specs.Batches.{BatchOf}

-- each call has a request number
abbrev pub HasNumbers : BatchOf → Type 0
HasNumbers batch = batch.first + length batch.calls ≤ 2 ^ 32

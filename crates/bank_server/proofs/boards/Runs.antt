-- What a node that executed the log of a prepared input answers.
use Rattle.std.proofs.Common.{◌≡◌, ℕ, Ok, List, length, refl, sym, ap, subst, ◌∙◌}
use Rattle.std.specs.List.{All}
use Rattle.sb_rows.specs.Rows.{SameCustomers}
use Rattle.sb_rows.specs.declared.opening.Opening.{Opening}
use Rattle.sb_replica.specs.Replica.{ReplicaOf}
use Rattle.sb_checkpoint.specs.declared.memory_store.MemoryStore.{MemoryStore}
use Rattle.bank_server.specs.Execution.{HasNoEntries}
use Rattle.sb_sequencer.specs.Numbering.{calls_of}
use Rattle.bank_server.specs.Output.{output_of}
use Rattle.bank_server.specs.PreparedInput.{IsPreparedInputOf, output_after}
use Rattle.bank_server.specs.Primary.{RunsLog, node_at_opening}
use Rattle.bank_server.specs.Standing.{IsStandingWithin}
use Rattle.bank_server.specs.declared.input.prepared_input.PreparedInput.{PreparedInput}
use Rattle.bank_server.proofs.boards.LogOps.{length-ops}
use Rattle.sb_calls.specs.Op.{op_of}

module _ (text : List ℕ) (prepared : PreparedInput) (replica : ReplicaOf MemoryStore) (ready : IsPreparedInputOf text prepared)
    (run : RunsLog prepared.primary.log prepared.primary.node replica) where
  -- the standing of each ask is among its calls
  pub among : All (IsStandingWithin (length replica.board.log)) prepared.standings.items
  among =
      let primary = prepared.primary in
      subst (λ (n : ℕ). All (IsStandingWithin n) prepared.standings.items) (sym (ap length run.log_is ∙ length-ops (op_of primary.node.names) primary.log))
      ready.among

  -- the output is what it makes of them
  pub output : output_of text ≡ Ok (output_after replica.names replica.board.opening (calls_of prepared.primary.log) prepared.standings.items)
  output =
      let primary = prepared.primary in
      let calls = calls_of primary.log in
      ready.output
      ∙ ap (λ (d : List (List ℕ)). Ok (output_after d primary.node.board.opening calls prepared.standings.items)) (sym run.names_are)
      ∙ ap (λ b. Ok (output_after replica.names b calls prepared.standings.items)) (sym run.opening_is)

-- an input is prepared once its asks have standings in a log, and node 0 is as it was opened
pub prepared_at : (text : List ℕ) (prepared : PreparedInput) (opening : Opening) (store : MemoryStore)
    → prepared.primary.node ≡ node_at_opening opening store → SameCustomers opening.directory opening.columns
    → All (IsStandingWithin (length prepared.primary.log)) prepared.standings.items
    → output_of text ≡ Ok (output_after opening.directory opening.columns (calls_of prepared.primary.log) prepared.standings.items)
    → IsPreparedInputOf text prepared
prepared_at text prepared opening store is same among output =
    let opened : ReplicaOf MemoryStore → Type 0 = λ node. SameCustomers node.names node.board.opening × HasNoEntries node.board
    × (output_of text ≡ Ok (output_after node.names node.board.opening (calls_of prepared.primary.log) prepared.standings.items)) in
    let at = subst opened (sym is) (same, record { base_replies = refl; log = refl; states = refl }, output) in
    record { customers = at.0; opened = at.1; among = among; output = at.2 }

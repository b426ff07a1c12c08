use Rattle.std.proofs.Common.{Ok, List, ◌++◌, length, sym, ap, subst, ◌∙◌}
use Rattle.std.specs.List.{All}
use Rattle.sb_checkpoint.specs.declared.memory_store.MemoryStore.{MemoryStore}
use Rattle.sb_replica.specs.Replica.{ReplicaOf}
use Rattle.sb_sequencer.specs.Numbering.{calls_of}
use Rattle.bank_server.specs.PreparedInput.{output_after}
use Rattle.bank_server.specs.Primary.{RunsLog}
use Rattle.bank_server.specs.Standing.{IsStandingWithin}
use Rattle.bank_server.specs.declared.input.asking.Standing.{Standing}
use Rattle.bank_server.proofs.boards.Runs.{among, output}
use Rattle.bank_server.proofs.run.output_text.Goals as goal

pub push_output-requires-clause-ran : goal.push_output-requires-clause-ran
push_output-requires-clause-ran g c =
    let primary = c.args.prepared.primary in
    let run = subst (λ (r : ReplicaOf MemoryStore). RunsLog primary.log primary.node r) (sym c.deref-2.ensures) c.in_ok-node.ensures.run in
    (calls_of primary.log, run.one_by_one)

pub push_output-requires-clause-numbers : goal.push_output-requires-clause-numbers
push_output-requires-clause-numbers g c =
    let prepared = c.args.prepared in
    let node = c.deref-2.result.now in
    let run = subst (λ (r : ReplicaOf MemoryStore). RunsLog prepared.primary.log prepared.primary.node r) (sym c.deref-2.ensures) c.in_ok-node.ensures.run in
    subst (λ (standings : List Standing). All (IsStandingWithin (length node.board.log)) standings) (sym c.deref.ensures.value)
    (among c.args.input.items prepared node c.requires.prepared run)

pub returns-in-Ok-clause-value : goal.returns-in-Ok-clause-value
returns-in-Ok-clause-value g c =
    let prepared = c.args.prepared in
    let node = c.deref-2.result.now in
    let calls = calls_of prepared.primary.log in
    let run = subst (λ (r : ReplicaOf MemoryStore). RunsLog prepared.primary.log prepared.primary.node r) (sym c.deref-2.ensures) c.in_ok-node.ensures.run in
    let written = c.in-Ok.ensures calls run.one_by_one in
    output c.args.input.items prepared node c.requires.prepared run
    ∙ ap Ok (sym (written ∙ λ j. c.clear.ensures.items j ++ output_after node.names node.board.opening calls (c.deref.ensures.value j)))

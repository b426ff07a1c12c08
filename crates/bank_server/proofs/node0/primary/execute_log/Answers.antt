use Rattle.std.proofs.Common.{length, sym, ap, ◌∙◌, arith}
use Rattle.std.proofs.lemmas.List.{length-map}
use Rattle.sb_sequencer.specs.Numbering.{calls_of}
use Rattle.sb_sequencer.specs.Sequencer.{SequencerOf}
use Rattle.bank_server.proofs.node0.primary.execute_log.Goals as goal

pub execute_calls-requires-clause-limit : goal.execute_calls-requires-clause-limit
execute_calls-requires-clause-limit g c =
    let size = length-map c.args.log.value.log (λ entry. entry.1) in
    omega (arith, ap length (c.deref.ensures.value ∙ c.take_calls-calls.ensures), size, c.requires.valid.limit)

pub returns-then-is_empty-clause-run : goal.returns-then-is_empty-clause-run
returns-then-is_empty-clause-run g c =
    c.execute_calls.ensures.run c.args.log.value.log (sym (c.deref.ensures.value ∙ c.take_calls-calls.ensures))

pub returns-clause-run : goal.returns-clause-run
returns-clause-run g c =
    c.execute_calls-2.ensures.run c.args.log.value.log
    (ap (λ (s : SequencerOf). calls_of s.log) (sym c.deref-2.ensures) ∙ sym c.calls.ensures)

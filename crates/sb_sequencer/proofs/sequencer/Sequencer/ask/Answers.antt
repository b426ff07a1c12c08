use Rattle.std.proofs.Common.{ap, ◌∙◌}
use Rattle.sb_calls.specs.declared.ask.Key.{Key}
use Rattle.sb_calls.specs.declared.call.Call.{Call}
use Rattle.sb_sequencer.specs.Sequencer.{state_after_ask}
use Rattle.sb_sequencer.proofs.SequencerAfterAsk.{asked_rooms, asked_state}
use Rattle.sb_sequencer.proofs.sequencer.Sequencer.ask.Goals as goal

pub invariant_of-self : goal.invariant_of-self
invariant_of-self c =
    let s = c.self.inside in
    asked_rooms s.log c.ask_log.new.log s.recorded.items s.checkpoints.items s.answers.items
    c.ask_log.new.answers.items _ _ _ _ c.self.invariant c.ask_log.ensures.answer c.ask_log.ensures.log
    c.ask_log.ensures.unchanged c.ask_log.ensures.room

pub returns-clause-state : goal.returns-clause-state
returns-clause-state c =
    let ask : Key × Call = (record { client = c.args.client; request = c.args.request }, c.args.call.now) in
    let s = c.self.inside in
    asked_state s.log c.ask_log.new.log s.recorded.items s.checkpoints.items s.answers.items
    c.ask_log.new.answers.items ask c.ask_log.result c.self.invariant.answers c.ask_log.ensures.log c.ask_log.ensures.unchanged
    ∙ ap (λ s. state_after_ask s ask c.ask_log.result) c.self.view_is

use Rattle.std.proofs.Common.{subst}
use Rattle.sb_calls.specs.declared.ask.Key.{Key}
use Rattle.bank_server.specs.Asks.{asks_with_keys}
use Rattle.bank_server.specs.inner.AskSteps.{AddsAsk}
use Rattle.bank_server.proofs.lines.AnswerStandings.{asks_past_requests}
use Rattle.bank_server.proofs.input.asking.ask_line.Goals as goal

pub returns-in_ok-ask-in-Some-clause-asked : goal.returns-in_ok-ask-in-Some-clause-asked
returns-in_ok-ask-in-Some-clause-asked g c asks after =
    subst (λ (key : Key). AddsAsk (asks_with_keys asks) (key, c.args.asked.now.call) c.ask.new.self.log c.in_ok-ask-in-Some.field-0) c.in-Some.ensures
    (c.in_ok-ask-in-Some.ensures.asked (asks_with_keys asks) after.log_is)

pub returns-in-None-clause-asked : goal.returns-in-None-clause-asked
returns-in-None-clause-asked g c asks after =
    asks_past_requests asks c.args.running c.args.asked.now c.args.primary.now.log after c.in-None.ensures.0 c.in-None.ensures.1

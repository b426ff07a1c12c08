use Rattle.std.proofs.Common.{ap, ◌∙◌}
use Rattle.sb_calls.specs.Call.{call_of, call_of_words}
use Rattle.sb_calls.proofs.CallSpelling.{read_is_spelled, spelled_is_read}
use Rattle.sb_calls.proofs.text.reading.read_call.Goals as goal

pub returns-clause-exact : goal.returns-clause-exact
unfolding call_of
returns-clause-exact c = c.read_call_words.ensures ∙ ap call_of_words c.of.ensures

pub returns-clause-spelled : goal.returns-clause-spelled
returns-clause-spelled c = read_is_spelled c.args.line.now c.read_call_words.result (returns-clause-exact c)

pub returns-clause-complete : goal.returns-clause-complete
returns-clause-complete c call valid spelled = returns-clause-exact c ∙ ap call_of spelled ∙ spelled_is_read call valid

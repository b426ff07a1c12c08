use Rattle.std.proofs.Common.{rules, ap, ◌∙◌}
use Rattle.sb_calls.specs.Ask.{ask_line_of}
use Rattle.sb_calls.proofs.AskSpelling.{ask_is_spelled, spelled_ask_is_read}
use Rattle.sb_calls.proofs.text.asking.read_ask.Goals as goal

pub returns-in_err-key-clause-exact : goal.returns-in_err-key-clause-exact
unfolding ask_line_of
returns-in_err-key-clause-exact c = search rules

pub returns-in_err-key-clause-complete : goal.returns-in_err-key-clause-complete
returns-in_err-key-clause-complete c asked valid spelled =
    returns-in_err-key-clause-exact c ∙ ap ask_line_of spelled ∙ spelled_ask_is_read asked valid

pub returns-in_err-call-clause-exact : goal.returns-in_err-call-clause-exact
unfolding ask_line_of
returns-in_err-call-clause-exact c = search rules

pub returns-in_err-call-clause-complete : goal.returns-in_err-call-clause-complete
returns-in_err-call-clause-complete c asked valid spelled =
    returns-in_err-call-clause-exact c ∙ ap ask_line_of spelled ∙ spelled_ask_is_read asked valid

pub returns-clause-exact : goal.returns-clause-exact
unfolding ask_line_of
returns-clause-exact c = search rules

pub returns-clause-spelled : goal.returns-clause-spelled
returns-clause-spelled c = ask_is_spelled c.args.line.now _ (returns-clause-exact c)

pub returns-clause-complete : goal.returns-clause-complete
returns-clause-complete c asked valid spelled = returns-clause-exact c ∙ ap ask_line_of spelled ∙ spelled_ask_is_read asked valid

use Rattle.std.proofs.Common.{Result, Ok, Err, ap, ◌∙◌}
use Rattle.sb_sequencer.specs.declared.answer.AskFault.{AskFault}
use Rattle.sb_sequencer.specs.declared.answer.Numbered.{Numbered}
use Rattle.sb_ask_log.proofs.Numbers.{takes_no_mismatch, takes_no_repeat}
use Rattle.sb_ask_log.proofs.ask_replay.number.Goals as goal

pub returns-in-Ok-Repeat : goal.returns-in-Ok-Repeat
returns-in-Ok-Repeat c more is =
    takes_no_repeat c.args.log.now.log more (c.args.key, c.args.call.now) c.ask.result c.in-Ok-Repeat.field-0-0 c.ask.ensures.answer
    (c.in-Ok-Repeat.is ∙ ap {B = Result Numbered AskFault} Ok c.in-Ok-Repeat.field-0-is) is

pub returns-in-Err-Mismatch : goal.returns-in-Err-Mismatch
returns-in-Err-Mismatch c more is =
    takes_no_mismatch c.args.log.now.log more (c.args.key, c.args.call.now) c.ask.result c.in-Err-Mismatch.field-0-0 c.ask.ensures.answer
    (c.in-Err-Mismatch.is ∙ ap {B = Result Numbered AskFault} Err c.in-Err-Mismatch.field-0-is) is

use Rattle.std.specs.Int.{w32}
use Rattle.sb_calls.specs.Replies.{integer_field}
use Rattle.sb_frames.proofs.FieldSequences.{one_behind}
use Rattle.sb_frames.proofs.encoding.put_body.Goals as goal

pub returns-in-Ask-clause-spelled : goal.returns-in-Ask-clause-spelled
returns-in-Ask-clause-spelled c =
    rw c.in-Ask.is
    (one_behind c.args.bytes.now.items _ _ 1 (integer_field w32 c.in-Ask.client) (integer_field w32 c.in-Ask.request) _ c.put_tag_and_request.ensures
    c.put_call.ensures.spelled)

pub returns-in-Outcome-clause-spelled : goal.returns-in-Outcome-clause-spelled
returns-in-Outcome-clause-spelled c =
    rw c.in-Outcome.is
    (one_behind c.args.bytes.now.items _ _ 5 (integer_field w32 c.in-Outcome.client) (integer_field w32 c.in-Outcome.request) _
    c.put_tag_and_request-in-Outcome.ensures c.put_outcome.ensures.spelled)

use Rattle.std.proofs.Common.{◌++◌}
use Rattle.ask_client.proofs.Told.{tells_nothing}
use Rattle.ask_client.proofs.conversation.take_bytes.Goals as goal

pub returns-then-is_err : goal.returns-then-is_err
returns-then-is_err c =
    let bytes = c.args.frames.now.unread ++ c.args.bytes.now in
    (bytes, tells_nothing c.args.batch.now bytes c.args.lines.now.items, tt)

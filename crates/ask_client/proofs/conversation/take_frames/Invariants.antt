use Rattle.std.proofs.Common.{◌≡◌, ◌+◌, false, length}
use Rattle.ask_client.specs.Conversations.{TellsFirst}
use Rattle.ask_client.proofs.conversation.take_frames.Given as goal

-- each turn told one outcome
abbrev pub invariant-loop : goal.invariant-loop
invariant-loop l = record {
  tells : TellsFirst l.fn.batch l.fn.frames.unread l.frames.unread l.fn.lines.items l.lines.items l.batch;
  going : l.frames.failed ≡ false;
  count : l.counter + length l.batch.calls ≡ length l.fn.batch.calls;
}

use Rattle.std.proofs.Common.{◌≡◌, ℕ, false, List, []}
use Rattle.std.specs.Io.KnownBytes.{Consumes}
use Rattle.ask_client.specs.Conversations.{TellsFirst}
use Rattle.ask_client.proofs.conversation.hear.Given as goal

-- what came was told, but for less than a frame; and after the last outcome there is nothing
abbrev pub invariant-loop : goal.invariant-loop
invariant-loop g l = record {
  so_far : (bytes : List ℕ) × Consumes (g.R.Read.remaining l.fn.reader) (g.R.Read.remaining l.reader) bytes
      × TellsFirst l.fn.batch bytes l.frames.unread l.fn.lines.items l.lines.items l.batch;
  going : l.frames.failed ≡ false;
  done : l.batch.calls ≡ [] → l.frames.unread ≡ [];
}

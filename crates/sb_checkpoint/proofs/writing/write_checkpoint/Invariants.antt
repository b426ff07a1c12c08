use Rattle.std.proofs.Common.{◌≡◌, ◌+◌, ◌++◌, length, take}
use Rattle.std.specs.List.{flat_map}
use Rattle.sb_calls.specs.Replies.{reply_field}
use Rattle.sb_checkpoint.proofs.writing.write_checkpoint.Given as goal

-- the replies so far are there, and the others are missing
abbrev pub invariant-loop-reply : goal.invariant-loop-reply
invariant-loop-reply l = record {
  bytes : l.draft.bytes ≡ l.initial.draft.bytes ++ flat_map reply_field (take l.reply-index l.replies);
  missing : l.draft.missing + l.reply-index ≡ length l.replies;
}

use Rattle.std.proofs.Common.{◌≡◌, ◌+◌, ◌++◌, take}
use Rattle.std.specs.List.{All, flat_map}
use Rattle.sb_calls.specs.Replies.{IsReply, reply_field}
use Rattle.sb_replica.specs.Marking.{up_to_cut}
use Rattle.sb_replica.specs.Replica.{board_replies}
use Rattle.sb_replica.proofs.replica.Replica.checkpoint_bytes.Given as goal

-- the replies to the numbers so far are there, and the others are missing
abbrev pub invariant-loop-place : goal.invariant-loop-place
invariant-loop-place g l = record {
  bytes : l.draft.bytes ≡ l.initial.draft.bytes ++ flat_map reply_field (take l.place (board_replies (up_to_cut l.self.board)));
  missing : l.draft.missing + l.place ≡ l.length;
  valid : All IsReply (take l.place (board_replies (up_to_cut l.self.board)));
}

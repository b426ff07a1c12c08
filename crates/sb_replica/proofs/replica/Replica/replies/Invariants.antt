use Rattle.std.proofs.Common.{◌≡◌, ◌≤◌, take, vec_len, vec_capacity}
use Rattle.std.specs.List.{All}
use Rattle.sb_calls.specs.Replies.{IsReply}
use Rattle.sb_replica.specs.Replica.{board_replies}
use Rattle.sb_replica.proofs.replica.Replica.replies.Given as goal

-- the replies to the numbers so far, with room for the others
abbrev pub invariant-loop-place : goal.invariant-loop-place
invariant-loop-place g l = record {
  items : l.replies.items ≡ take l.place (board_replies l.self.board);
  valid : All IsReply l.replies.items;
  count : vec_len l.replies ≡ l.place;
  room : l.length ≤ vec_capacity l.replies;
}

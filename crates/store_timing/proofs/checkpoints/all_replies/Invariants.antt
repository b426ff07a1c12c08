-- As many replies as places, each of which has a spelling.
use Rattle.std.proofs.Common.{◌≡◌, length}
use Rattle.std.specs.List.{All}
use Rattle.sb_calls.specs.Replies.{IsReply}
use Rattle.store_timing.proofs.checkpoints.all_replies.Given as goal

abbrev pub invariant-loop-index : goal.invariant-loop-index
invariant-loop-index l = (length l.replies.items ≡ l.index) × All IsReply l.replies.items

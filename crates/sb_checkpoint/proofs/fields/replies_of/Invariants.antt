use Rattle.std.proofs.Common.{◌≡◌, ◌≤◌, Some, length, map, take, vec_len, vec_capacity}
use Rattle.sb_checkpoint.specs.Reading.{stated_reply}
use Rattle.sb_checkpoint.proofs.fields.replies_of.Given as goal

abbrev pub invariant-loop-cell : goal.invariant-loop-cell
invariant-loop-cell l = record {
  replies : map (λ r. Some r) l.replies.items ≡ map stated_reply (take l.cell-index l.cells);
  count : vec_len l.replies ≡ l.cell-index;
  room : length l.cells ≤ vec_capacity l.replies;
}

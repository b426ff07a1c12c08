use Rattle.std.proofs.Common.{◌≡◌, ◌≤◌, ◌<◌, ◌+◌, ℕ, List, false, length}
use Rattle.std.specs.Prelude.{◌↔◌, IsTrue}
use Rattle.bank_server.specs.Pending.{ArePendingWithin}
use Rattle.bank_server.specs.inner.ClientSteps.{HandlesClient, inbox_state}
use Rattle.bank_server.specs.Primary.{opening_rows_of}
use Rattle.bank_server.specs.inner.NumberedAsks.{NumbersAsks}
use Rattle.bank_server.proofs.session.inbox.take_frames.Given as goal

-- the frames so far led here
abbrev pub invariant-loop-frame : goal.invariant-loop-frame
invariant-loop-frame g l = record {
  handles : (outcomes : List ℕ) → HandlesClient (opening_rows_of l.fn.primary) (inbox_state l.fn.primary.log l.fn.inbox outcomes) l.fn.inbox.stream.unread
      (inbox_state l.primary.log l.inbox outcomes) l.inbox.stream.unread;
  within : ArePendingWithin (length l.primary.log) l.inbox.pending.items;
  due : l.inbox.due ≤ length l.inbox.pending.items;
  few : length l.inbox.pending.items ≤ l.inbox.due + l.fn.most;
  going : l.inbox.stream.failed ≡ false;
  whole : IsTrue l.has_frame ↔ (length l.inbox.stream.unread < length l.fn.inbox.stream.unread);
  fewer : length l.inbox.stream.unread ≤ length l.fn.inbox.stream.unread;
  numbered : NumbersAsks g.K.Keeper.model l.fn.primary l.primary;
}

abbrev pub decreases-loop-frame : goal.decreases-loop-frame
decreases-loop-frame g l = length l.inbox.stream.unread

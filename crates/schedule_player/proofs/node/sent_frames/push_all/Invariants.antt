use Rattle.std.proofs.Common.{◌≡◌, ◌≤◌, ◌+◌, ◌++◌, length, map, drop}
use Rattle.std.specs.Prelude.{vec_capacity}
use Rattle.schedule_player.specs.OneBased.{Every}
use Rattle.schedule_player.specs.inner.FrameBytes.{frame_in, IsFrameBytes}
use Rattle.schedule_player.proofs.node.sent_frames.push_all.Given as goal

-- what was appended and what is left to append are all, and there is room for the rest
abbrev pub invariant-loop-frame : goal.invariant-loop-frame
invariant-loop-frame l = record {
  spelled : Every (λ bytes. IsFrameBytes bytes.items) l.fn.sent.items → Every (λ bytes. IsFrameBytes bytes.items) l.sent.items;
  frames : map (λ bytes. frame_in bytes.items) l.sent.items ++ drop l.frame-index l.frames
      ≡ map (λ bytes. frame_in bytes.items) l.fn.sent.items ++ l.frames;
  room : length l.sent.items + length (drop l.frame-index l.frames) ≤ vec_capacity l.sent;
}

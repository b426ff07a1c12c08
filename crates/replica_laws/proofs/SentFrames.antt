-- A move leaves the frames that were sent to the replica.
use Rattle.std.proofs.Common.{◌≡◌, ℕ, suc, ◌+◌, Bool, true, false, Option, Some, None, refl}
use Rattle.std.specs.Prelude.{nat_le, nat_lt, ◌==◌, slice_get}
use Rattle.sb_frames.specs.declared.frame.Frame.{Frame}
use Rattle.sb_frames.specs.declared.frame.Frame.TheVariants as frame
use Rattle.schedule_player.specs.Bank.{BankOf}
use Rattle.schedule_player.specs.OneBased.{nth_item}
use Rattle.schedule_player.specs.Readiness.{runnable_entries}
use Rattle.schedule_player.specs.ReplicaMoves.{NodeOf, length_in, undone_in, frame_move, take_by_hand, take_entry, finish_by_hand, finish_by_stage, with_empty_hand}
use Rattle.schedule_player.specs.Stage.{Stage, IsOut}
use Rattle.schedule_player.proofs.events.MemoryRefusals.{entry_by, next_by}
use Rattle.replica_laws.specs.FollowerMoves.{FollowerMove, Hears, Takes, Finishes, follower_move}

next_keeps : (node : NodeOf) (n : ℕ) (full : Bool) → (next_by node n full).0.inbound ≡ node.inbound
next_keeps node n true = refl
next_keeps node n false = refl

entry_keeps : (node : NodeOf) (n : ℕ) (there past early full : Bool) → (entry_by node n there past early full).0.inbound ≡ node.inbound
entry_keeps node n true past early full = refl
entry_keeps node n false true early full = refl
entry_keeps node n false false true full = refl
entry_keeps node n false false false full = next_keeps node n full

frame_keeps : (node : NodeOf) (found : Option Frame) → (frame_move node found).0.inbound ≡ node.inbound
frame_keeps node (Some (frame.Entry n call)) =
    entry_keeps node n (nat_le n (length_in node)) (nat_lt (length_in node + 64) n) (nat_lt (suc (length_in node)) n) (undone_in node == 1024)
frame_keeps node other = refl

goes_keeping : (node : NodeOf) (worker : ℕ) (place : Option ℕ) → (take_entry node worker place).0.inbound ≡ node.inbound
goes_keeping node worker None = refl
goes_keeping node worker (Some place) = refl

take_keeps : (bank : BankOf) (node : NodeOf) (worker index : ℕ) (hand : Option (Option ℕ))
    → (take_by_hand bank node worker index hand).0.inbound ≡ node.inbound
take_keeps bank node worker index None = refl
take_keeps bank node worker index (Some (Some n)) = refl
take_keeps bank node worker index (Some None) = goes_keeping node worker (slice_get (runnable_entries bank node.stages) index)

stage_keeps : (bank : BankOf) (node : NodeOf) (n : ℕ) (stage : Option Stage) → (finish_by_stage bank node n stage).0.inbound ≡ node.inbound
stage_keeps bank node n (Some IsOut) = refl
stage_keeps bank node n other = refl

finish_keeps : (bank : BankOf) (node : NodeOf) (worker : ℕ) (hand : Option (Option ℕ)) → (finish_by_hand bank node worker hand).0.inbound ≡ node.inbound
finish_keeps bank node worker None = refl
finish_keeps bank node worker (Some None) = refl
finish_keeps bank node worker (Some (Some n)) = stage_keeps bank (with_empty_hand node worker) n (nth_item node.stages n)

pub move_keeps : (bank : BankOf) (node : NodeOf) (move : FollowerMove) → (follower_move bank node move).inbound ≡ node.inbound
move_keeps bank node (Hears one) = frame_keeps node (Some one)
move_keeps bank node (Takes index) = take_keeps bank node 1 index (nth_item node.hands 1)
move_keeps bank node Finishes = finish_keeps bank node 1 (nth_item node.hands 1)

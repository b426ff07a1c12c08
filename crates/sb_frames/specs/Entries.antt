-- The entry at the front of a stream, with its names looked up.
use Rattle.std.specs.Prelude.{◌≡◌, ℕ, Some, Ok, List}
use Rattle.sb_calls.specs.Op.{op_of}
use Rattle.sb_calls.specs.declared.call.Call.{Call}
use Rattle.sb_frames.specs.Streaming.{StreamState, HandsOutFrame, next_of}
use Rattle.sb_frames.specs.declared.entry_op.EntryOp.{EntryOp}
use Rattle.sb_frames.specs.declared.frame.Frame.TheVariants.{Entry}

-- the next frame of the stream is an entry
abbrev pub HasEntry : StreamState → Type 0
HasEntry state =
    (number : ℕ) × (call : Call) × (after : StreamState) × (next_of state ≡ (Ok (Some (Entry number call)), after))

-- the next frame of the stream is an entry with this number, and the op is that of its call in the
-- directory
pub record HasEntryOp (names : List (List ℕ)) (stream : StreamState) (entry : EntryOp) : Type 0 where
  pub call : Call
  pub after : StreamState
  pub next : next_of stream ≡ (Ok (Some (Entry entry.number call)), after)
  pub looked_up : entry.op ≡ op_of names call
  -- the bytes before the rest are the frame's spelling
  pub handed_out : HandsOutFrame stream (Entry entry.number call) after

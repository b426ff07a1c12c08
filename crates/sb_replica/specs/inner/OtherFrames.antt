-- What comes next in a stream that has no entry next.
use Rattle.std.specs.Prelude.{◌≡◌, true, Some, Result, Ok, Err}
use Rattle.sb_frames.specs.Streaming.{StreamState, HandsOutFrame, IsShort, FailsBy, next_of}
use Rattle.sb_replica.specs.Receiving.{IsEntry}
use Rattle.sb_replica.specs.declared.fault.ReceiveFault.{ReceiveFault}
use Rattle.sb_replica.specs.declared.fault.ReceiveFault.TheVariants as fault
use Rattle.sb_replica.specs.declared.received.Received.{Received}
use Rattle.sb_replica.specs.declared.received.Received.TheVariants.{Entry, Other, Short, Busy}

-- a frame that isn't an entry was handed out, less than a whole frame is unread, or the stream fails
abbrev pub HandsOutOther : StreamState → Result Received ReceiveFault → StreamState → Type 0
HandsOutOther old (Ok (Entry answer)) new = ⊥
HandsOutOther old (Ok (Other frame)) new =
    (¬ IsEntry frame) × (next_of old ≡ (Ok (Some frame), new)) × HandsOutFrame old frame new
HandsOutOther old (Ok Short) new = IsShort old × (new ≡ old)
HandsOutOther old (Ok Busy) new = ⊥
HandsOutOther old (Err (fault.Stream failed)) new = FailsBy old failed × (new ≡ record old { failed = true })
HandsOutOther old (Err fault.OutOfMemory) new = ⊥

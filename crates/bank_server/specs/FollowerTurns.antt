-- What a follower does with a message: by turns, it receives frames, and executes what is unfinished.
use Rattle.std.specs.Prelude.{◌≡◌, ℕ, Ok, List, [], ◌∷◌}
use Rattle.std.specs.List.{AllByRecursion}
use Rattle.cown_workers.specs.Draining.{CrewStep, IsDrained, KeepsNoJob}
use Rattle.sb_frames.specs.Streaming.{Feeds, IsShort, StreamState}
use Rattle.sb_replica.specs.Replica.{ReplicaOf, rest_of}
use Rattle.sb_replica.specs.Receiving.{Receives}
use Rattle.sb_replica.specs.declared.received.Received.{Received}

-- a follower's replica, and the stream of its messages' bytes
pub record FollowerOf (S : Type 0) : Type 0 where
  pub replica : ReplicaOf S
  pub stream : StreamState

-- everything that was unfinished was taken and finished in place, one behaviour after another; all
-- else stays
pub record RunsAll {S : Type 0} (old : ReplicaOf S) (new : ReplicaOf S) : Type 0 where
  pub steps : List CrewStep
  pub in_place : AllByRecursion KeepsNoJob steps
  pub drained : IsDrained old.board steps new.board
  pub rest : rest_of new ≡ rest_of old
  pub held : new.held ≡ old.held

-- a turn: what comes next in the stream is received, or everything unfinished is executed
pub data Turn : Type 0 where
  Takes : (received : Received) → Turn
  Runs : Turn

abbrev pub TakesTurn : {S : Type 0} → FollowerOf S → Turn → FollowerOf S → Type 0
TakesTurn old (Takes received) new = Receives old.replica old.stream (Ok received) new.replica new.stream
TakesTurn old Runs new = RunsAll old.replica new.replica × (new.stream ≡ old.stream)

-- these turns, one after another
abbrev pub TakesTurns : {S : Type 0} → FollowerOf S → List Turn → FollowerOf S → Type 0
TakesTurns old [] new = new ≡ old
TakesTurns {S} old (turn ∷ turns) new = (mid : FollowerOf S) × TakesTurn old turn mid × TakesTurns mid turns new

-- turns were taken, until the unread bytes were less than a whole frame
pub record HandlesRest {S : Type 0} (old new : FollowerOf S) : Type 0 where
  pub turns : List Turn
  pub taken : TakesTurns old turns new
  pub short : IsShort new.stream

-- a message's bytes were appended to the unread ones, and all whole frames were handled
pub record HandlesMessage {S : Type 0} (old : FollowerOf S) (bytes : List ℕ) (new : FollowerOf S) : Type 0 where
  pub fed : StreamState
  pub feeds : Feeds old.stream bytes (Ok tt) fed
  pub rest : HandlesRest (record old { stream = fed }) new

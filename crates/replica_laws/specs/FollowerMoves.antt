-- A follower as a replica of the reference machine: each of its turns is a list of that machine's moves.
use Rattle.std.specs.Prelude.{◌≡◌, ◌⊎◌, ℕ, ◌≤◌, Some, None, Ok, List, [], ◌∷◌, ◌++◌, length, map, is_some}
use Rattle.std.specs.List.{All, concat, flat_map}
use Rattle.sb_rows.specs.Rows.{SameCustomers}
use Rattle.sb_calls.specs.Cowns.{contents_of}
use Rattle.sb_calls.specs.declared.call.TheConstants.{LOG_CALLS}
use Rattle.sb_checkpoint.specs.MemoryStore.{MemoryStoreOf}
use Rattle.sb_frames.specs.Grammar.{IsFrame, spelling}
use Rattle.sb_frames.specs.Streaming.{AreBytes, IsShort, Next, StepsTo, StreamState}
use Rattle.sb_frames.specs.declared.frame.Frame.{Frame}
use Rattle.sb_frames.specs.declared.frame.Frame.TheVariants.{Flush}
use Rattle.sb_replica.specs.Replica.{ReplicaOf}
use Rattle.cown_board.specs.Board.{length_of}
use Rattle.cown_workers.specs.Draining.{HasNoneOut}
use Rattle.bank_server.specs.Followers.{IsAtOpening}
use Rattle.bank_server.specs.FollowerTurns.{FollowerOf, HandlesMessage, Turn, TakesTurns}
use Rattle.schedule_player.specs.Bank.{BankOf}
use Rattle.schedule_player.specs.FramesOfLog.{IsEntryOf}
use Rattle.schedule_player.specs.ReplicaMoves.{NodeOf, opened_node, frame_move, take_move, finish_move}
use Rattle.schedule_player.specs.MachineView.{stages_of, slot_length, ops_of}
use Rattle.schedule_player.specs.StoredOfLog.{IsStoredOfLog}
use Rattle.schedule_player.specs.ReplicaOfLog.{IsBoardOfLog, AreHeldOfLog}

-- ---- moves

-- a move of a replica that only hears the log, and has one worker: a frame comes, or that worker takes
-- or finishes
pub data FollowerMove : Type 0 where
  Hears : (frame : Frame) → FollowerMove
  Takes : (index : ℕ) → FollowerMove
  Finishes : FollowerMove

abbrev pub follower_move : BankOf → NodeOf → FollowerMove → NodeOf
follower_move bank node (Hears frame) = (frame_move node (Some frame)).0
follower_move bank node (Takes index) = (take_move bank node 1 index).0
follower_move bank node Finishes = (finish_move bank node 1).0

-- the node after these moves, one after another
abbrev pub node_after : BankOf → NodeOf → List FollowerMove → NodeOf
node_after bank node [] = node
node_after bank node (move ∷ moves) = node_after bank (follower_move bank node move) moves

-- the frames that these moves hear, in order
abbrev pub frames_heard : List FollowerMove → List Frame
frames_heard [] = []
frames_heard (Hears frame ∷ moves) = frame ∷ frames_heard moves
frames_heard (Takes index ∷ moves) = frames_heard moves
frames_heard (Finishes ∷ moves) = frames_heard moves

-- ---- a follower

-- a follower as the machine sees it, once these frames were sent to it: its thread is its one
-- worker, whose hand is empty between turns. It sends nothing, and is given no state
abbrev pub follower_node : List Frame → ReplicaOf MemoryStoreOf → NodeOf
follower_node inbound replica = record {
  stages = stages_of replica.board;
  hands = None ∷ [];
  stored = slot_length replica.store.slot;
  cut = replica.board.cut;
  held = map is_some replica.held;
  inbound = inbound;
  outbound = [];
  states = [];
}

-- the replica is one of the bank, and none of its entries is out
pub record IsFollowerOf (bank : BankOf) (replica : ReplicaOf MemoryStoreOf) : Type 0 where
  pub customers : SameCustomers bank.names bank.opening
  pub few : length bank.calls ≤ LOG_CALLS
  pub names : replica.names ≡ bank.names
  pub opening : replica.opening ≡ bank.opening
  pub board : IsBoardOfLog (contents_of bank.opening) (ops_of bank) replica.board
  pub held : AreHeldOfLog (ops_of bank) (length_of replica.board) replica.held
  pub stored : IsStoredOfLog bank replica.store.slot
  pub none_out : HasNoneOut replica.board

-- what a follower is sent: an entry of the log, or a Flush
abbrev pub IsSentToFollowers : BankOf → Frame → Type 0
IsSentToFollowers bank frame = IsEntryOf bank frame ⊎ (frame ≡ Flush)

-- a stream handed out these frames, one after another
abbrev pub HandsOutAll : StreamState → List Frame → StreamState → Type 0
HandsOutAll old frames new = StepsTo old (map (λ frame. Next (Ok (Some frame))) frames) new

-- the stream has bytes, and whatever it hands out is what a follower is sent
pub record HandsOutTheLog (bank : BankOf) (stream : StreamState) : Type 0 where
  pub bytes : AreBytes stream.unread
  pub frames : (frames : List Frame) (rest : StreamState) → HandsOutAll stream frames rest
      → All (IsSentToFollowers bank) frames

-- ---- the law of openings

-- a replica at the opening, which has stored nothing, is a follower of each bank with this opening.
-- It is the machine's replica at the opening, with one worker
abbrev pub FollowersOpen : Type 0
FollowersOpen = (bank : BankOf) (replica : ReplicaOf MemoryStoreOf) → SameCustomers bank.names bank.opening
    → length bank.calls ≤ LOG_CALLS → IsAtOpening bank.names bank.opening replica → replica.store.slot ≡ None
    → IsFollowerOf bank replica
    × ((inbound : List Frame) → follower_node inbound replica ≡ record (opened_node 1) { inbound = inbound })

-- ---- the law of turns

-- these moves lead the machine from the old replica to the new one, whatever was sent to it
abbrev pub MovesLead : BankOf → ReplicaOf MemoryStoreOf → List FollowerMove → ReplicaOf MemoryStoreOf → Type 0
MovesLead bank old moves new =
    (inbound : List Frame) → node_after bank (follower_node inbound old) moves ≡ follower_node inbound new

-- the follower is still one of the bank. It went from old to new by moves of the machine, which heard
-- exactly the frames that its stream handed out
pub record MovesAlong (bank : BankOf) (old new : FollowerOf MemoryStoreOf) : Type 0 where
  pub replica : IsFollowerOf bank new.replica
  pub stream : HandsOutTheLog bank new.stream
  pub moves : List FollowerMove
  pub heard : HandsOutAll old.stream (frames_heard moves) new.stream
  pub moved : MovesLead bank old.replica moves new.replica

-- the turns of a follower that is one of the bank, and is sent its log, are moves of the machine
abbrev pub FollowersMove : Type 0
FollowersMove = (bank : BankOf) (old new : FollowerOf MemoryStoreOf) (turns : List Turn)
    → IsFollowerOf bank old.replica → HandsOutTheLog bank old.stream → TakesTurns old turns new
    → MovesAlong bank old new

-- ---- the law of messages

-- messages were handled, one after another
abbrev pub HandlesMessages : {S : Type 0} → FollowerOf S → List (List ℕ) → FollowerOf S → Type 0
HandlesMessages old [] new = new ≡ old
HandlesMessages {S} old (bytes ∷ messages) new =
    (mid : FollowerOf S) × HandlesMessage old bytes mid × HandlesMessages mid messages new

-- the bytes spell these frames, each of them one that a follower is sent
pub record SpellTheLog (bank : BankOf) (bytes : List ℕ) (frames : List Frame) : Type 0 where
  pub are_bytes : AreBytes bytes
  pub spelled : bytes ≡ flat_map spelling frames
  pub valid : All IsFrame frames
  pub sent : All (IsSentToFollowers bank) frames

-- the follower is still one of the bank, and no byte is unread. It went from old to new by moves of
-- the machine, which heard exactly these frames
pub record HearsOut (bank : BankOf) (old new : FollowerOf MemoryStoreOf) (frames : List Frame) : Type 0 where
  pub replica : IsFollowerOf bank new.replica
  pub unread : new.stream.unread ≡ []
  pub moves : List FollowerMove
  pub heard : frames_heard moves ≡ frames
  pub moved : MovesLead bank old.replica moves new.replica

-- a follower of the bank handles messages. Their bytes, after those that it has yet to read, spell
-- frames of the log, however they are cut: then it moves as the machine that hears these frames
abbrev pub MessagesMove : Type 0
MessagesMove = (bank : BankOf) (old new : FollowerOf MemoryStoreOf) (messages : List (List ℕ)) (frames : List Frame)
    → IsFollowerOf bank old.replica → IsShort old.stream
    → SpellTheLog bank (old.stream.unread ++ concat messages) frames → HandlesMessages old messages new
    → HearsOut bank old new frames

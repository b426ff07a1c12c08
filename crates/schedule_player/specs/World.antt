-- The reference machine: a sequencer, its replicas, and the frames between them.
use Rattle.std.specs.Prelude.{◌≡◌, ℕ, ◌-◌, ◌<◌, nat_lt, pos, int_lt, ◌==◌, if◌then◌else◌, Bool, true, false, IsTrue, Option, Some, None, Ok, Err, List, length, map, count_by, replicate, slice_get, slice_set}
use Rattle.sb_rows.specs.Balances.{Balances}
use Rattle.sb_rows.specs.Listing.{rows_in_order, total_of}
use Rattle.sb_calls.specs.declared.ask.Key.{Key}
use Rattle.sb_calls.specs.declared.call.Call.{Call}
use Rattle.sb_calls.specs.declared.reply.Reply.{Reply}
use Rattle.sb_frames.specs.declared.frame.Frame.{Frame}
use Rattle.sb_frames.specs.declared.frame.Frame.TheVariants as frame
use Rattle.sb_sequencer.specs.Answer.{AnswersAsk}
use Rattle.sb_sequencer.specs.Donors.{IsDonor}
use Rattle.sb_sequencer.specs.Notes.{answer_slot}
use Rattle.sb_sequencer.specs.Sequencer.{SequencerOf}
use Rattle.sb_sequencer.specs.declared.answer.AskFault.TheVariants.{Mismatch, LogFull, OutOfMemory}
use Rattle.sb_sequencer.specs.declared.answer.Numbered.TheVariants.{New, Repeat}
use Rattle.schedule_sequencer.specs.DurableSequencer.{DurableSequencerOf, empty_durable, whole_log, after_append, after_sync, log_after_crash, after_crash}
use Rattle.schedule_player.specs.Bank.{BankOf, log_rows}
use Rattle.schedule_player.specs.OneBased.{nth_item}
use Rattle.schedule_player.specs.ReplicaMoves.{NodeOf, opened_node, length_in, undone_in, receive_move, node_move}
use Rattle.schedule_text.specs.ScheduleText.{ScheduleOf}
use Rattle.schedule_text.specs.declared.event.Event.{Event}
use Rattle.schedule_text.specs.declared.event.Event.TheVariants as event
use Rattle.schedule_text.specs.declared.event.NodeEvent.{NodeEvent}
use Rattle.schedule_text.specs.declared.event.NodeEvent.TheVariants as node_event
use Rattle.schedule_text.specs.declared.event.SystemEvent.TheVariants as system
use Rattle.schedule_text.specs.declared.note.AuditNote.{AuditNote}
use Rattle.schedule_text.specs.declared.note.AuditNote.TheVariants as audit
use Rattle.schedule_text.specs.declared.note.Note.{Note}
use Rattle.schedule_text.specs.declared.note.Note.TheVariants as note

-- the customers' names and their balances at the opening; the sequencer, with the part of its log
-- that is synced, and the asks that aren't; and the replicas
pub record WorldOf : Type 0 where
  pub names : List (List ℕ)
  pub opening : Balances
  pub sequencer : DurableSequencerOf
  pub nodes : List NodeOf

-- the sequencer's log: what is synced, and then what isn't
abbrev pub world_log : WorldOf → List (Key × Call)
world_log world = whole_log world.sequencer

-- the bank whose calls are this log's
abbrev pub bank_with : List (List ℕ) → Balances → List (Key × Call) → BankOf
bank_with names opening log = record { names = names; opening = opening; calls = map (λ entry. entry.1) log }

-- the bank whose calls are those that are synced
abbrev pub bank_of : WorldOf → BankOf
bank_of world = bank_with world.names world.opening world.sequencer.synced.log

-- the world of a schedule before its first event
abbrev pub opened_world : ScheduleOf → WorldOf
opened_world schedule = record {
  names = schedule.names;
  opening = schedule.balances;
  sequencer = empty_durable schedule.nodes;
  nodes = replicate schedule.nodes (opened_node schedule.workers);
}

-- ---- what an event does

-- an append, by the sequencer's answer to the ask
abbrev pub AppendsAsk : WorldOf → Key × Call → Note → WorldOf → Type 0
AppendsAsk old ask (note.New n) new =
    AnswersAsk (world_log old) ask (Ok (New n))
    × (new ≡ record old { sequencer = after_append old.sequencer ask (Ok (New n)) })
AppendsAsk old ask (note.Repeat n) new = AnswersAsk (world_log old) ask (Ok (Repeat n)) × (new ≡ old)
AppendsAsk old ask (note.Mismatch n) new = AnswersAsk (world_log old) ask (Err (Mismatch n)) × (new ≡ old)
AppendsAsk old ask note.LogFull new = AnswersAsk (world_log old) ask (Err LogFull) × (new ≡ old)
AppendsAsk old ask other new = ⊥

-- the whole log is synced
abbrev pub synced_world : WorldOf → WorldOf
synced_world world = record world { sequencer = after_sync world.sequencer }

-- an ask is an append and a sync
abbrev pub Asks : WorldOf → Key × Call → Note → WorldOf → Type 0
Asks old ask note new = (appended : WorldOf) × AppendsAsk old ask note appended × (new ≡ synced_world appended)

-- the sequencer starts again with what a crash left of its log
abbrev pub crashed_world : WorldOf → ℕ → WorldOf
crashed_world world kept = record world { sequencer = after_crash world.sequencer kept }

-- a replica moves; an event at one that doesn't exist does nothing
abbrev pub with_moved_node : WorldOf → ℕ → NodeOf × Note → WorldOf × Note
with_moved_node world r made = (record world { nodes = slice_set world.nodes r made.0 }, made.1)

abbrev pub move_if : WorldOf → ℕ → (NodeOf → NodeOf × Note) → Option NodeOf → WorldOf × Note
move_if world r move (Some node) = with_moved_node world r (move node)
move_if world r move None = (world, note.Nothing)

abbrev pub move_at : WorldOf → ℕ → (NodeOf → NodeOf × Note) → WorldOf × Note
move_at world r move = move_if world r move (slice_get world.nodes r)

-- the sequencer has these reports of its synced calls
abbrev pub with_reports : WorldOf → SequencerOf → WorldOf
with_reports world synced = record world { sequencer = record world.sequencer { synced = synced } }

-- a frame from a replica arrives at the sequencer: it records the length of a log or of a
-- checkpoint, and keeps the first answer to a number
abbrev pub reply_move : WorldOf → ℕ → Reply → Option (Option Reply) → WorldOf × Note
reply_move world number reply (Some None) = (
  with_reports world (record world.sequencer.synced {
    answers = slice_set world.sequencer.synced.answers (number - 1) (Some reply);
  }),
  note.Kept number,
)
reply_move world number reply (Some (Some first)) = (world, note.Repeat number)
reply_move world number reply None = (world, note.Nothing)

abbrev pub report_move : WorldOf → ℕ → Option Frame → WorldOf × Note
report_move world r (Some (frame.Ack replica size)) = (
  with_reports world
      (record world.sequencer.synced { recorded = slice_set world.sequencer.synced.recorded r size }),
  note.Recorded size,
)
report_move world r (Some (frame.Have replica size)) = (
  with_reports world
      (record world.sequencer.synced { checkpoints = slice_set world.sequencer.synced.checkpoints r size }),
  note.Has size,
)
report_move world r (Some (frame.Answer number reply)) =
    reply_move world number reply (answer_slot world.sequencer.synced number)
report_move world r other = (world, note.Nothing)

abbrev pub from_move : WorldOf → ℕ → ℕ → Option NodeOf → WorldOf × Note
from_move world r position (Some node) = report_move world r (nth_item node.outbound position)
from_move world r position None = (world, note.Nothing)

-- the bank's books after this many calls: its total, and the number of customers whose checking
-- balance is below 0
abbrev pub books_after : BankOf → ℕ → AuditNote
books_after bank size =
    let rows = rows_in_order bank.names (log_rows bank size) in
    audit.Same (total_of rows) (count_by (λ customer. int_lt customer.checking (pos 0)) rows)

-- two replicas are compared; the first case that holds decides
abbrev pub audit_result : BankOf → ℕ → ℕ → NodeOf → NodeOf → AuditNote
audit_result bank a b first second =
    if undone_in first == 0 then (
    if undone_in second == 0 then (
    if length_in first == length_in second then books_after bank (length_in first)
    else audit.Apart (length_in first) (length_in second)
    ) else audit.Busy b
    ) else audit.Busy a

abbrev pub audit_if : BankOf → ℕ → ℕ → Option NodeOf → Option NodeOf → Note
audit_if bank a b (Some first) (Some second) = note.Audit (audit_result bank a b first second)
audit_if bank a b first second = note.Nothing

-- the state that a replica keeps is sent to another, if it has at least one entry
abbrev pub give_at : WorldOf → ℕ → ℕ → WorldOf × Note
give_at world r size =
    if size == 0 then (world, note.Nothing) else move_at world r (λ node. receive_move node size)

abbrev pub give_move : WorldOf → ℕ → Option NodeOf → WorldOf × Note
give_move world r (Some donor) = give_at world r donor.stored
give_move world r None = (world, note.Nothing)

-- ---- all events but an ask, an append and a donor

-- an event at a replica moves that replica
abbrev pub replica_move : WorldOf → ℕ → NodeEvent → WorldOf × Note
replica_move world r happens =
    move_at world r (λ node. node_move (bank_of world) world.sequencer.synced r node happens)

abbrev pub world_move : WorldOf → Event → WorldOf × Note
world_move world (event.At r happens) = replica_move world r happens
world_move world (event.System (system.From r position)) = from_move world r position (slice_get world.nodes r)
world_move world (event.System (system.Give a r)) = give_move world r (slice_get world.nodes a)
world_move world (event.System (system.Audit a b)) =
    (world, audit_if (bank_of world) a b (slice_get world.nodes a) (slice_get world.nodes b))
world_move world (event.System system.Sync) = (synced_world world, note.Synced (length (world_log world)))
world_move world (event.System (system.Crash kept)) =
    (crashed_world world kept, note.Crashed (length (log_after_crash world.sequencer kept)))
world_move world other = (world, note.Nothing)

-- the donor of a replica's state, as the sequencer names it
abbrev pub IsDonorNote : SequencerOf → ℕ → Note → Type 0
IsDonorNote s r (note.Donor donor size) = IsDonor s r (Some (donor, size))
IsDonorNote s r note.Nothing = IsDonor s r None
IsDonorNote s r other = ⊥

-- the machine goes from the old world to the new one by this event, with this note
abbrev pub Moves : WorldOf → Event → Note → WorldOf → Type 0
Moves old (event.Ask client request call) note new =
    Asks old (record { client = client; request = request }, call) note new
Moves old (event.Append client request call) note new =
    AppendsAsk old (record { client = client; request = request }, call) note new
Moves old (event.System (system.Donor r)) note new = IsDonorNote old.sequencer.synced r note × (new ≡ old)
Moves old other note new = world_move old other ≡ (new, note)

-- ---- when memory may be refused

-- whether an audit adds up the books
abbrev pub adds_up : AuditNote → Bool
adds_up (audit.Same total overdrawn) = true
adds_up other = false

-- the notes on what may take memory: a log is read back, a frame sent, an entry accepted, a cut
-- made, a checkpoint put or gone back to, a state given or read, or the books are added up
abbrev pub may_take_memory : Note → Bool
may_take_memory (note.Crashed size) = true
may_take_memory (note.Sent position) = true
may_take_memory (note.Resent count) = nat_lt 0 count
may_take_memory (note.Accepted number) = true
may_take_memory (note.Cut size) = true
may_take_memory (note.Marked size) = true
may_take_memory note.StoreFault = true
may_take_memory (note.Restarted size) = true
may_take_memory (note.Gave position) = true
may_take_memory (note.Adopted size) = true
may_take_memory (note.Behind size) = true
may_take_memory (note.Audit found) = adds_up found
may_take_memory other = false

-- when memory may be refused: never to a take, a finish, a sync, or what the sequencer receives or
-- is asked of donors; to an ask or an append only if it gets a new number; to a give if both
-- replicas exist, since a checkpoint of no entry is read too; and to any other event only if the
-- machine's note on it is one of these
abbrev pub MayWantMemory : WorldOf → Event → Type 0
MayWantMemory world (event.Ask client request call) =
    AnswersAsk (world_log world) (record { client = client; request = request }, call) (Err OutOfMemory)
MayWantMemory world (event.Append client request call) =
    AnswersAsk (world_log world) (record { client = client; request = request }, call) (Err OutOfMemory)
MayWantMemory world (event.At r (node_event.Take worker index)) = ⊥
MayWantMemory world (event.At r (node_event.Finish worker)) = ⊥
MayWantMemory world (event.System (system.From r position)) = ⊥
MayWantMemory world (event.System (system.Donor r)) = ⊥
MayWantMemory world (event.System (system.Give a r)) = (a < length world.nodes) × (r < length world.nodes)
MayWantMemory world other = IsTrue (may_take_memory (world_move world other).1)

-- memory may be refused to the next event; after the last one there is none
abbrev pub NextMayWantMemory : WorldOf → Option Event → Type 0
NextMayWantMemory world (Some next) = MayWantMemory world next
NextMayWantMemory world None = ⊥

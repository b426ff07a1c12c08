-- The notes that may result from an event.
use Rattle.std.proofs.Common.{◌≡◌, Bool, true, false, ℕ, suc, ◌+◌, Option, Some, None, refl, sym, ap, ◌∙◌}
use Rattle.std.specs.Prelude.{slice_get, if◌then◌else◌, nat_le, nat_lt, ◌==◌}
use Rattle.sb_calls.specs.declared.ask.Key.{Key}
use Rattle.sb_calls.specs.declared.call.Call.{Call}
use Rattle.sb_calls.specs.declared.reply.Reply.{Reply}
use Rattle.sb_checkpoint.specs.declared.memory_store.How.{How}
use Rattle.sb_checkpoint.specs.declared.memory_store.How.TheVariants as how
use Rattle.sb_frames.specs.declared.frame.Frame.{Frame}
use Rattle.sb_frames.specs.declared.frame.Frame.TheVariants as frame
use Rattle.sb_sequencer.specs.Entries.{entry_of}
use Rattle.sb_sequencer.specs.Notes.{answer_slot}
use Rattle.sb_sequencer.specs.Sequencer.{SequencerOf}
use Rattle.schedule_player.specs.Bank.{BankOf}
use Rattle.schedule_player.specs.PossibleNotes.{may_occur, audit_may_occur}
use Rattle.schedule_player.specs.OneBased.{nth_item}
use Rattle.schedule_player.specs.ReplicaMoves.{NodeOf, length_in, undone_in, send_reply, reply_in_node, send_move, frame_move, held_move, cut_unless_pending, undone_up_to, mark_up_to, state_move, receive_move, node_move}
use Rattle.schedule_player.specs.World.{WorldOf, AppendsAsk, Moves, bank_of, world_move, move_if, move_at, reply_move, report_move, from_move, give_move, IsDonorNote, books_after, audit_if}
use Rattle.schedule_text.specs.declared.event.Event.{Event}
use Rattle.schedule_text.specs.declared.event.Event.TheVariants as event
use Rattle.schedule_text.specs.declared.event.NodeEvent.{NodeEvent}
use Rattle.schedule_text.specs.declared.event.NodeEvent.TheVariants as at
use Rattle.schedule_text.specs.declared.event.SystemEvent.TheVariants as system
use Rattle.schedule_text.specs.declared.note.AuditNote.TheVariants as audit
use Rattle.schedule_text.specs.declared.note.Note.{Note}
use Rattle.schedule_text.specs.declared.note.Note.TheVariants as note
use Rattle.schedule_player.proofs.events.MemoryRefusals.{next_by, entry_by, mark_by, state_by, give_by, takes_quietly, finishes_quietly}

comes_if : (world : WorldOf) (r : ℕ) (move : NodeOf → NodeOf × Note) → ((node : NodeOf) → may_occur (move node).1 ≡ true)
    → (found : Option NodeOf) → may_occur (move_if world r move found).1 ≡ true
comes_if world r move all (Some node) = all node
comes_if world r move all None = refl

comes_at : (world : WorldOf) (r : ℕ) (move : NodeOf → NodeOf × Note) → ((node : NodeOf) → may_occur (move node).1 ≡ true)
    → may_occur (move_at world r move).1 ≡ true
comes_at world r move all = comes_if world r move all (slice_get world.nodes r)

-- ---- at a replica

sends : (node : NodeOf) (entry : Option Frame) → may_occur (send_move node entry).1 ≡ true
sends node (Some entry) = refl
sends node None = refl

next_does : (node : NodeOf) (n : ℕ) (full : Bool) → may_occur (next_by node n full).1 ≡ true
next_does node n true = refl
next_does node n false = refl

entry_does : (node : NodeOf) (n : ℕ) (there past early full : Bool) → may_occur (entry_by node n there past early full).1 ≡ true
entry_does node n true past early full = refl
entry_does node n false true early full = refl
entry_does node n false false true full = refl
entry_does node n false false false full = next_does node n full

delivers : (node : NodeOf) (entry : Option Frame) → may_occur (frame_move node entry).1 ≡ true
delivers node (Some (frame.Entry n call)) =
    entry_does node n (nat_le n (length_in node)) (nat_lt (length_in node + 64) n) (nat_lt (suc (length_in node)) n) (undone_in node == 1024)
delivers node other = refl

replies : (node : NodeOf) (n : ℕ) (reply : Option Reply) → may_occur (send_reply node n reply).1 ≡ true
replies node n (Some reply) = refl
replies node n None = refl

puts : (node : NodeOf) (size : ℕ) (end : How) (idle : Bool) → may_occur (mark_by node size end idle).1 ≡ true
puts node size how.Ok true = refl
puts node size how.Old true = refl
puts node size how.New true = refl
puts node size end false = refl

marks : (node : NodeOf) (end : How) (cut : Option ℕ) → may_occur (mark_up_to node end cut).1 ≡ true
marks node end (Some size) = puts node size end (undone_up_to node size == 0)
marks node end None = puts node (length_in node) end (undone_in node == 0)

takes_next : (node : NodeOf) (held : Option Bool) → may_occur (held_move node held).1 ≡ true
takes_next node (Some true) = next_does node (suc (length_in node)) (undone_in node == 1024)
takes_next node (Some false) = refl
takes_next node None = refl

begins_so : (node : NodeOf) (size : ℕ) (behind : Bool) → may_occur (state_by node size behind).1 ≡ true
begins_so node size true = refl
begins_so node size false = refl

adopts : (node : NodeOf) (state : Option ℕ) → may_occur (state_move node state).1 ≡ true
adopts node (Some size) = begins_so node size (nat_le size (length_in node))
adopts node None = refl

cuts : (node : NodeOf) (cut : Option ℕ) → may_occur (cut_unless_pending node cut).1 ≡ true
cuts node (Some size) = refl
cuts node None = refl

-- ---- at the sequencer

kept_so : (world : WorldOf) (n : ℕ) (reply : Reply) (stored : Option (Option Reply)) → may_occur (reply_move world n reply stored).1 ≡ true
kept_so world n reply (Some None) = refl
kept_so world n reply (Some (Some first)) = refl
kept_so world n reply None = refl

told_so : (world : WorldOf) (r : ℕ) (entry : Option Frame) → may_occur (report_move world r entry).1 ≡ true
told_so world r (Some (frame.Ack replica size)) = refl
told_so world r (Some (frame.Have replica size)) = refl
told_so world r (Some (frame.Answer n reply)) = kept_so world n reply (answer_slot world.sequencer.synced n)
told_so world r other = refl

heard_so : (world : WorldOf) (r place : ℕ) (found : Option NodeOf) → may_occur (from_move world r place found).1 ≡ true
heard_so world r place (Some node) = told_so world r (nth_item node.outbound place)
heard_so world r place None = refl

donor_so : (s : SequencerOf) (r : ℕ) (n : Note) → IsDonorNote s r n → may_occur n ≡ true
donor_so s r (note.Donor donor size) is = refl
donor_so s r note.Nothing is = refl
donor_so s r other is = absurd is

-- ---- of two replicas

gives_by : (world : WorldOf) (r size : ℕ) (nothing : Bool) → may_occur (give_by world r size nothing).1 ≡ true
gives_by world r size true = refl
gives_by world r size false = comes_at world r (λ node. receive_move node size) (λ node. refl)

gives_so : (world : WorldOf) (r : ℕ) (found : Option NodeOf) → may_occur (give_move world r found).1 ≡ true
gives_so world r (Some donor) = gives_by world r donor.stored (donor.stored == 0)
gives_so world r None = refl

tests_so : (bank : BankOf) (a b : ℕ) (first second : NodeOf) (idle also same : Bool)
    → audit_may_occur (if idle then (if also then (if same then books_after bank (length_in first)
    else audit.Apart (length_in first) (length_in second)) else audit.Busy b) else audit.Busy a) ≡ true
tests_so bank a b first second true true true = refl
tests_so bank a b first second true true false = refl
tests_so bank a b first second true false same = refl
tests_so bank a b first second false also same = refl

audits_so : (bank : BankOf) (a b : ℕ) (first second : Option NodeOf) → may_occur (audit_if bank a b first second) ≡ true
audits_so bank a b (Some first) (Some second) =
    tests_so bank a b first second (undone_in first == 0) (undone_in second == 0) (length_in first == length_in second)
audits_so bank a b first second = refl

-- ---- whatever happens

-- an event without a line of its own has one note alone
node_so : (bank : BankOf) (s : SequencerOf) (r : ℕ) (node : NodeOf) (happens : NodeEvent) → may_occur (node_move bank s r node happens).1 ≡ true
node_so bank s r node (at.Send n) = sends node (entry_of s.log n)
node_so bank s r node (at.To place) = delivers node (nth_item node.inbound place)
node_so bank s r node (at.Answer n) = replies node n (reply_in_node bank node n)
node_so bank s r node (at.Take worker index) = (takes_quietly bank node worker index).0
node_so bank s r node (at.Finish worker) = (finishes_quietly bank node worker).0
node_so bank s r node (at.Mark end) = marks node end node.cut
node_so bank s r node at.Cut = cuts node node.cut
node_so bank s r node at.Next = takes_next node (slice_get node.held 0)
node_so bank s r node (at.Adopt place) = adopts node (nth_item node.states place)
node_so bank s r node other = refl

moved_so : (world : WorldOf) (happens : Event) → may_occur (world_move world happens).1 ≡ true
moved_so world (event.At r happens) =
    comes_at world r (λ node. node_move (bank_of world) world.sequencer.synced r node happens)
    (λ node. node_so (bank_of world) world.sequencer.synced r node happens)
moved_so world (event.System (system.From r place)) = heard_so world r place (slice_get world.nodes r)
moved_so world (event.System (system.Give a r)) = gives_so world r (slice_get world.nodes a)
moved_so world (event.System (system.Audit a b)) = audits_so (bank_of world) a b (slice_get world.nodes a) (slice_get world.nodes b)
moved_so world other = refl

appends_so : (old : WorldOf) (ask : Key × Call) (n : Note) (new : WorldOf) → AppendsAsk old ask n new → may_occur n ≡ true
appends_so old ask (note.New n) new appends = refl
appends_so old ask (note.Repeat n) new appends = refl
appends_so old ask (note.Mismatch n) new appends = refl
appends_so old ask note.LogFull new appends = refl
appends_so old ask other new appends = absurd appends

pub comes_of : (old : WorldOf) (happens : Event) (n : Note) (new : WorldOf) → Moves old happens n new → may_occur n ≡ true
comes_of old (event.Ask client request call) n new moves =
    appends_so old (record { client = client; request = request }, call) n moves.0 moves.1
comes_of old (event.Append client request call) n new moves = appends_so old (record { client = client; request = request }, call) n new moves
comes_of old (event.System (system.Donor r)) n new moves = donor_so old.sequencer.synced r n moves.0
comes_of old other n new moves = ap (λ m. may_occur m.1) (sym moves) ∙ moved_so old other

-- A recorded length was sent.
use Rattle.std.proofs.Common.{◌≡◌, inl, inr, Bool, true, false, ℕ, zero, suc, ◌+◌, ◌<◌, Option, Some, None, List, [], ◌∷◌, ◌++◌, length, replicate, refl, sym, ap, subst, ◌∙◌, append-nil}
use Rattle.std.specs.Prelude.{slice_get, slice_set, nat_le, nat_lt, ◌==◌}
use Rattle.std.proofs.lemmas.Bool.{cases_eq}
use Rattle.std.proofs.lemmas.List.{length-set}
use Rattle.std.proofs.lemmas.Option.{slice_get_within}
use Rattle.cown_board.proofs.PositionLaws.{slice_get-left}
use Rattle.cown_board.proofs.StateChanges.{slice_get-set_same, slice_get-set_other}
use Rattle.sb_calls.specs.declared.ask.Key.{Key}
use Rattle.sb_calls.specs.declared.call.Call.{Call}
use Rattle.sb_calls.specs.declared.reply.Reply.{Reply}
use Rattle.sb_checkpoint.specs.declared.memory_store.How.{How}
use Rattle.sb_checkpoint.specs.declared.memory_store.How.TheVariants as how
use Rattle.sb_frames.specs.declared.frame.Frame.{Frame}
use Rattle.sb_frames.specs.declared.frame.Frame.TheVariants as frame
use Rattle.sb_sequencer.specs.Entries.{entry_of}
use Rattle.sb_sequencer.specs.Notes.{answer_slot}
use Rattle.sb_sequencer.specs.Sequencer.{SequencerOf}
use Rattle.schedule_player.specs.Bank.{BankOf}
use Rattle.schedule_player.specs.OneBased.{nth_item}
use Rattle.schedule_player.specs.EventLists.{IsWorldAfter}
use Rattle.schedule_player.specs.Readiness.{runnable_entries}
use Rattle.schedule_player.specs.ReplicaMoves.{NodeOf, length_in, undone_in, send_reply, reply_in_node, send_move, frame_move, deliver_move, held_move, next_move, take_entry, take_by_hand, take_move, with_empty_hand, finish_by_stage, finish_by_hand, finish_move, cut_unless_pending, cut_move, undone_up_to, mark_up_to, mark_move, state_move, adopt_move, receive_move, node_move}
use Rattle.schedule_player.specs.Stage.{Stage, Waits, IsOut, IsDone}
use Rattle.schedule_player.specs.LogAgreement.{WasSent, WereSent, RecordsWereSent}
use Rattle.schedule_player.specs.World.{WorldOf, AppendsAsk, bank_of, crashed_world, move_if, move_at, replica_move, reply_move, report_move, from_move, give_move, opened_world}
use Rattle.schedule_text.specs.ScheduleText.{ScheduleOf}
use Rattle.schedule_text.specs.declared.event.NodeEvent.{NodeEvent}
use Rattle.schedule_text.specs.declared.event.NodeEvent.TheVariants as event
use Rattle.schedule_text.specs.declared.note.Note.{Note}
use Rattle.schedule_text.specs.declared.note.Note.TheVariants as note
use Rattle.schedule_player.proofs.events.EventInduction.{all_keep}
use Rattle.cown_board.proofs.LogLaws.{no_some as none_some}
use Rattle.cown_board.proofs.LogLaws.{injective as some_is}
use Rattle.schedule_player.proofs.events.MemoryRefusals.{next_by, entry_by, mark_by, state_by, give_by}

-- ---- a replica's frames only become more

abbrev Tells : NodeOf → NodeOf → Type 0
Tells old new = (more : List Frame) × (new.outbound ≡ old.outbound ++ more)

same : (old new : NodeOf) → new.outbound ≡ old.outbound → Tells old new
same old new e = ([], e ∙ sym (append-nil old.outbound))

sends : (node : NodeOf) (entry : Option Frame) → Tells node (send_move node entry).0
sends node (Some entry) = same node (send_move node (Some entry)).0 refl
sends node None = same node node refl

enters_next : (node : NodeOf) (n : ℕ) (full : Bool) → (next_by node n full).0.outbound ≡ node.outbound
enters_next node n true = refl
enters_next node n false = refl

enters : (node : NodeOf) (n : ℕ) (there past early full : Bool) → (entry_by node n there past early full).0.outbound ≡ node.outbound
enters node n true past early full = refl
enters node n false true early full = refl
enters node n false false true full = refl
enters node n false false false full = enters_next node n full

delivers : (node : NodeOf) (entry : Option Frame) → (frame_move node entry).0.outbound ≡ node.outbound
delivers node (Some (frame.Entry n call)) =
    enters node n (nat_le n (length_in node)) (nat_lt (length_in node + 64) n) (nat_lt (suc (length_in node)) n) (undone_in node == 1024)
delivers node other = refl

takes_next : (node : NodeOf) (held : Option Bool) → (held_move node held).0.outbound ≡ node.outbound
takes_next node (Some true) = enters_next node (suc (length_in node)) (undone_in node == 1024)
takes_next node (Some false) = refl
takes_next node None = refl

replies : (node : NodeOf) (n : ℕ) (reply : Option Reply) → Tells node (send_reply node n reply).0
replies node n (Some reply) = (frame.Answer n reply ∷ [], refl)
replies node n None = same node node refl

goes : (node : NodeOf) (worker : ℕ) (place : Option ℕ) → (take_entry node worker place).0.outbound ≡ node.outbound
goes node worker (Some place) = refl
goes node worker None = refl

reaches : (bank : BankOf) (node : NodeOf) (worker index : ℕ) (hand : Option (Option ℕ))
    → (take_by_hand bank node worker index hand).0.outbound ≡ node.outbound
reaches bank node worker index None = refl
reaches bank node worker index (Some (Some n)) = refl
reaches bank node worker index (Some None) = goes node worker (slice_get (runnable_entries bank node.stages) index)

comes : (bank : BankOf) (node : NodeOf) (n : ℕ) (stage : Option Stage) → (finish_by_stage bank node n stage).0.outbound ≡ node.outbound
comes bank node n (Some IsOut) = refl
comes bank node n (Some Waits) = refl
comes bank node n (Some IsDone) = refl
comes bank node n None = refl

gives : (bank : BankOf) (node : NodeOf) (worker : ℕ) (hand : Option (Option ℕ)) → (finish_by_hand bank node worker hand).0.outbound ≡ node.outbound
gives bank node worker None = refl
gives bank node worker (Some None) = refl
gives bank node worker (Some (Some n)) = comes bank (with_empty_hand node worker) n (nth_item node.stages n)

puts : (node : NodeOf) (size : ℕ) (end : How) (idle : Bool) → (mark_by node size end idle).0.outbound ≡ node.outbound
puts node size how.Ok true = refl
puts node size how.Old true = refl
puts node size how.New true = refl
puts node size end false = refl

marks : (node : NodeOf) (end : How) (cut : Option ℕ) → (mark_up_to node end cut).0.outbound ≡ node.outbound
marks node end (Some size) = puts node size end (undone_up_to node size == 0)
marks node end None = puts node (length_in node) end (undone_in node == 0)

cuts : (node : NodeOf) (cut : Option ℕ) → (cut_unless_pending node cut).0.outbound ≡ node.outbound
cuts node (Some size) = refl
cuts node None = refl

adopts_by : (node : NodeOf) (size : ℕ) (behind : Bool) → (state_by node size behind).0.outbound ≡ node.outbound
adopts_by node size true = refl
adopts_by node size false = refl

adopts : (node : NodeOf) (state : Option ℕ) → (state_move node state).0.outbound ≡ node.outbound
adopts node (Some size) = adopts_by node size (nat_le size (length_in node))
adopts node None = refl

-- ---- what is recorded

told_longer : (kind : ℕ → ℕ → Frame) (old new : NodeOf) (size : ℕ) → Tells old new → WasSent kind old size → WasSent kind new size
told_longer kind old new size more is = (
  is.0,
  is.1,
  ap (λ frames. slice_get frames is.0) more.1
      ∙ slice_get-left old.outbound more.0 is.0 (slice_get_within old.outbound is.0 (kind is.1 size) is.2)
      ∙ is.2,
)

-- a replica sent more
were_longer : (kind : ℕ → ℕ → Frame) (nodes : List NodeOf) (sizes : List ℕ) (r : ℕ) (node new : NodeOf) → Tells node new → WereSent kind nodes sizes
    → slice_get nodes r ≡ Some node → WereSent kind (slice_set nodes r new) sizes
were_longer kind nodes sizes r node new more were here = λ q now size there recorded. elim (cases_eq r q) [
  | inl same ↦
      let within = slice_get_within nodes r node here in
      let is : new ≡ now =
      some_is (sym (slice_get-set_same nodes r new within) ∙ ap (slice_get (slice_set nodes r new)) same ∙ there) in
      elim (were q node size (ap (slice_get nodes) (sym same) ∙ here) recorded) [
        | inl none ↦ inl none
        | inr listed ↦ inr (subst (λ n. WasSent kind n size) is (told_longer kind node new size more listed))
      ]
  | inr differs ↦
      were q now size (sym (slice_get-set_other nodes r q new (λ e. differs (sym e))) ∙ there) recorded
]

records_if : (world : WorldOf) (r : ℕ) (move : NodeOf → NodeOf × Note) → ((node : NodeOf) → Tells node (move node).0) → RecordsWereSent world
    → (found : Option NodeOf) → slice_get world.nodes r ≡ found → RecordsWereSent (move_if world r move found).0
records_if world r move more were None here = were
records_if world r move more were (Some node) here = (
  were_longer frame.Ack world.nodes world.sequencer.synced.recorded r node (move node).0 (more node) were.0 here,
  were_longer frame.Have world.nodes world.sequencer.synced.checkpoints r node (move node).0 (more node) were.1 here,
)

records_at : (world : WorldOf) (r : ℕ) (move : NodeOf → NodeOf × Note) → ((node : NodeOf) → Tells node (move node).0) → RecordsWereSent world
    → RecordsWereSent (move_at world r move).0
records_at world r move more were = records_if world r move more were (slice_get world.nodes r) refl

-- a length that is heard is in the list
were_set : (kind : ℕ → ℕ → Frame) (nodes : List NodeOf) (sizes : List ℕ) (r place : ℕ) (node : NodeOf) (replica size : ℕ) → WereSent kind nodes sizes
    → slice_get nodes r ≡ Some node → nth_item node.outbound place ≡ Some (kind replica size)
    → WereSent kind nodes (slice_set sizes r size)
were_set kind nodes sizes r zero node replica size were here listed = absurd (none_some listed)
were_set kind nodes sizes r (suc place) node replica size were here listed = λ q now length_of there recorded. elim (cases_eq r q) [
  | inl same ↦
      let within : r < length sizes =
      subst (λ n. r < n) (length-set sizes r size)
      (subst (λ p. p < length (slice_set sizes r size)) (sym same) (slice_get_within (slice_set sizes r size) q length_of recorded)) in
      let is : size ≡ length_of =
      some_is (sym (slice_get-set_same sizes r size within) ∙ ap (slice_get (slice_set sizes r size)) same ∙ recorded) in
      let node_is : node ≡ now = some_is (sym here ∙ ap (slice_get nodes) same ∙ there) in
      inr (subst (λ n. WasSent kind n length_of) node_is (place, replica, listed ∙ ap (λ s. Some (kind replica s)) is))
  | inr differs ↦
      were q now length_of there (sym (slice_get-set_other sizes r q size (λ e. differs (sym e))) ∙ recorded)
]

records_kept : (world : WorldOf) (n : ℕ) (reply : Reply) (stored : Option (Option Reply)) → RecordsWereSent world
    → RecordsWereSent (reply_move world n reply stored).0
records_kept world n reply (Some None) were = were
records_kept world n reply (Some (Some first)) were = were
records_kept world n reply None were = were

records_told : (world : WorldOf) (r place : ℕ) (node : NodeOf) (heard : Option Frame) → RecordsWereSent world → slice_get world.nodes r ≡ Some node
    → nth_item node.outbound place ≡ heard → RecordsWereSent (report_move world r heard).0
records_told world r place node (Some (frame.Ack replica size)) were here is =
    (were_set frame.Ack world.nodes world.sequencer.synced.recorded r place node replica size were.0 here is, were.1)
records_told world r place node (Some (frame.Have replica size)) were here is =
    (were.0, were_set frame.Have world.nodes world.sequencer.synced.checkpoints r place node replica size were.1 here is)
records_told world r place node (Some (frame.Answer n reply)) were here is = records_kept world n reply (answer_slot world.sequencer.synced n) were
records_told world r place node other were here is = were

records_heard : (world : WorldOf) (r place : ℕ) (found : Option NodeOf) → RecordsWereSent world → slice_get world.nodes r ≡ found
    → RecordsWereSent (from_move world r place found).0
records_heard world r place (Some node) were here = records_told world r place node (nth_item node.outbound place) were here refl
records_heard world r place None were here = were

tells_node : (bank : BankOf) (s : SequencerOf) (r : ℕ) (node : NodeOf) (happens : NodeEvent) → Tells node (node_move bank s r node happens).0
tells_node bank s r node (event.Send n) = sends node (entry_of s.log n)
tells_node bank s r node (event.To place) = same node (deliver_move node place).0 (delivers node (nth_item node.inbound place))
tells_node bank s r node event.Ack = (frame.Ack r (length_in node) ∷ [], refl)
tells_node bank s r node (event.Answer n) = replies node n (reply_in_node bank node n)
tells_node bank s r node (event.Take worker index) =
    same node (take_move bank node worker index).0 (reaches bank node worker index (nth_item node.hands worker))
tells_node bank s r node (event.Finish worker) = same node (finish_move bank node worker).0 (gives bank node worker (nth_item node.hands worker))
tells_node bank s r node (event.Mark end) = same node (mark_move node end).0 (marks node end node.cut)
tells_node bank s r node event.Cut = same node (cut_move node).0 (cuts node node.cut)
tells_node bank s r node event.Next = same node (next_move node).0 (takes_next node (slice_get node.held 0))
tells_node bank s r node event.Have = (frame.Have r node.stored ∷ [], refl)
tells_node bank s r node (event.Adopt place) = same node (adopt_move node place).0 (adopts node (nth_item node.states place))
tells_node bank s r node other = same node (node_move bank s r node other).0 refl

records_node : (world : WorldOf) (r : ℕ) (happens : NodeEvent) → RecordsWereSent world → RecordsWereSent (replica_move world r happens).0
records_node world r happens were =
    records_at world r (λ node. node_move (bank_of world) world.sequencer.synced r node happens)
    (λ node. tells_node (bank_of world) world.sequencer.synced r node happens) were

records_from : (world : WorldOf) (r place : ℕ) → RecordsWereSent world → RecordsWereSent (from_move world r place (slice_get world.nodes r)).0
records_from world r place were = records_heard world r place (slice_get world.nodes r) were refl

records_given_by : (world : WorldOf) (r size : ℕ) (nothing : Bool) → RecordsWereSent world → RecordsWereSent (give_by world r size nothing).0
records_given_by world r size true were = were
records_given_by world r size false were = records_at world r (λ node. receive_move node size) (λ node. same node (receive_move node size).0 refl) were

records_given : (world : WorldOf) (a r : ℕ) → RecordsWereSent world → RecordsWereSent (give_move world r (slice_get world.nodes a)).0
records_given world a r were = by (slice_get world.nodes a)
  where
    by : (found : Option NodeOf) → RecordsWereSent (give_move world r found).0
    by None = were
    by (Some donor) = records_given_by world r donor.stored (donor.stored == 0) were

-- an append and a sync record nothing, and after a crash nothing is recorded
records_appended : (old : WorldOf) (ask : Key × Call) (n : Note) (new : WorldOf) → AppendsAsk old ask n new → RecordsWereSent old → RecordsWereSent new
records_appended old ask (note.New n) new appends were = subst RecordsWereSent (sym appends.1) were
records_appended old ask (note.Repeat n) new appends were = subst RecordsWereSent (sym appends.1) were
records_appended old ask (note.Mismatch n) new appends were = subst RecordsWereSent (sym appends.1) were
records_appended old ask note.LogFull new appends were = subst RecordsWereSent (sym appends.1) were
records_appended old ask other new appends were = absurd appends

zero_at : (n k size : ℕ) → slice_get (replicate n 0) k ≡ Some size → size ≡ 0
zero_at zero k size here = absurd (none_some here)
zero_at (suc n) zero size here = sym (some_is here)
zero_at (suc n) (suc k) size here = zero_at n k size here

records_crashed : (world : WorldOf) (kept : ℕ) → RecordsWereSent world → RecordsWereSent (crashed_world world kept)
records_crashed world kept were = (
  (λ r node size there recorded. inl (zero_at (length world.sequencer.synced.recorded) r size recorded)),
  (λ r node size there recorded. inl (zero_at (length world.sequencer.synced.recorded) r size recorded)),
)

pub records_played : (schedule : ScheduleOf) (world : WorldOf) → IsWorldAfter schedule world → RecordsWereSent world
records_played schedule world played =
    all_keep RecordsWereSent records_node records_from records_given records_appended (λ world were. were) records_crashed
    (opened_world schedule) schedule.events played.notes world played.plays (
      (λ r node size there recorded. inl (zero_at schedule.nodes r size recorded)),
      (λ r node size there recorded. inl (zero_at schedule.nodes r size recorded)),
    )

-- When memory may be refused, and moves by their tests.
use Rattle.std.proofs.Common.{◌≡◌, ◌≢◌, Bool, true, false, ℕ, Option, Some, None, refl, sym, ap, ◌∙◌}
use Rattle.std.specs.Prelude.{slice_get, nat_le, if◌then◌else◌}
use Rattle.std.proofs.lemmas.Bool.{true≢false}
use Rattle.sb_calls.specs.declared.reply.Reply.{Reply}
use Rattle.sb_checkpoint.specs.declared.memory_store.How.{How}
use Rattle.sb_checkpoint.specs.declared.memory_store.How.TheVariants as how
use Rattle.schedule_player.specs.Bank.{BankOf, log_reply}
use Rattle.schedule_player.specs.PossibleNotes.{may_occur}
use Rattle.schedule_player.specs.OneBased.{nth_item}
use Rattle.schedule_player.specs.Readiness.{runnable_entries}
use Rattle.schedule_player.specs.ReplicaMoves.{NodeOf, length_in, send_reply, answer_move, reply_in_node, with_held, with_accepted, cut_unless_pending, cut_move, put_move, restart_at, state_move, receive_move, take_entry, take_by_hand, take_move, with_empty_hand, note_of_reply, finish_by_stage, finish_by_hand, finish_move, node_move}
use Rattle.schedule_player.specs.Stage.{Stage, IsOut}
use Rattle.schedule_player.specs.World.{WorldOf, MayWantMemory, bank_of, may_take_memory, move_if, move_at}
use Rattle.schedule_text.specs.declared.event.Event.TheVariants.{At}
use Rattle.schedule_text.specs.declared.event.NodeEvent.{NodeEvent}
use Rattle.schedule_text.specs.declared.event.NodeEvent.TheVariants as event
use Rattle.schedule_text.specs.declared.note.Note.{Note}
use Rattle.schedule_text.specs.declared.note.Note.TheVariants as note

-- ---- what each event does at a replica

-- what the next entry does, and any entry, by these tests
abbrev pub next_by : NodeOf → ℕ → Bool → NodeOf × Note
next_by node n full = if full then (node, note.Busy (length_in node)) else (with_accepted node, note.Accepted n)

abbrev pub entry_by : NodeOf → ℕ → Bool → Bool → Bool → Bool → NodeOf × Note
entry_by node n there past early full =
    if there then (node, note.Repeat n) else if past then (node, note.Gap (length_in node))
    else if early then (with_held node n, note.Held n) else next_by node n full

replies : (node : NodeOf) (n : ℕ) (reply : Option Reply) → reply ≢ None → may_take_memory (send_reply node n reply).1 ≡ true
replies node n (Some reply) there = refl
replies node n None there = absurd (there refl)

pub answers_so : (bank : BankOf) (node : NodeOf) (n : ℕ) → reply_in_node bank node n ≢ None → may_take_memory (answer_move bank node n).1 ≡ true
answers_so bank node n there = replies node n (reply_in_node bank node n) there

-- what a mark of this many entries does
abbrev pub mark_by : NodeOf → ℕ → How → Bool → NodeOf × Note
mark_by node size end idle = if idle then put_move node size end else (node, note.Unfinished)

pub puts : (node : NodeOf) (size : ℕ) (end : How) → may_take_memory (put_move node size end).1 ≡ true
puts node size how.Ok = refl
puts node size how.Old = refl
puts node size how.New = refl

-- a cut is made if there is none
pub cuts : (node : NodeOf) → node.cut ≡ None → may_take_memory (cut_move node).1 ≡ true
cuts node none = ap (λ cut. may_take_memory (cut_unless_pending node cut).1) none

-- what a state of this many entries does, and one that is given, by these tests
abbrev pub state_by : NodeOf → ℕ → Bool → NodeOf × Note
state_by node size behind = if behind then (node, note.Behind (length_in node)) else (restart_at node size, note.Adopted size)

abbrev pub give_by : WorldOf → ℕ → ℕ → Bool → WorldOf × Note
give_by world r size nothing = if nothing then (world, note.Nothing) else move_at world r (λ node. receive_move node size)

state_wants : (node : NodeOf) (size : ℕ) (behind : Bool) → may_take_memory (state_by node size behind).1 ≡ true
state_wants node size true = refl
state_wants node size false = refl

-- memory may be refused for a state that exists
pub adopts_so : (node : NodeOf) (size : ℕ) → may_take_memory (state_move node (Some size)).1 ≡ true
adopts_so node size = state_wants node size (nat_le size (length_in node))

-- ---- a worker's part never takes memory

-- a note that may result, and takes no memory
abbrev pub IsQuiet : Note → Type 0
IsQuiet n = (may_occur n ≡ true) × (may_take_memory n ≡ false)

goes : (node : NodeOf) (worker : ℕ) (place : Option ℕ) → IsQuiet (take_entry node worker place).1
goes node worker (Some place) = (refl, refl)
goes node worker None = (refl, refl)

reaches : (bank : BankOf) (node : NodeOf) (worker index : ℕ) (hand : Option (Option ℕ)) → IsQuiet (take_by_hand bank node worker index hand).1
reaches bank node worker index None = (refl, refl)
reaches bank node worker index (Some (Some n)) = (refl, refl)
reaches bank node worker index (Some None) = goes node worker (slice_get (runnable_entries bank node.stages) index)

pub takes_quietly : (bank : BankOf) (node : NodeOf) (worker index : ℕ) → IsQuiet (take_move bank node worker index).1
takes_quietly bank node worker index = reaches bank node worker index (nth_item node.hands worker)

noted : (n : ℕ) (reply : Option Reply) → IsQuiet (note_of_reply n reply)
noted n (Some reply) = (refl, refl)
noted n None = (refl, refl)

comes : (bank : BankOf) (node : NodeOf) (n : ℕ) (stage : Option Stage) → IsQuiet (finish_by_stage bank node n stage).1
comes bank node n (Some IsOut) = noted n (log_reply bank n)
comes bank node n other = (refl, refl)

gives : (bank : BankOf) (node : NodeOf) (worker : ℕ) (hand : Option (Option ℕ)) → IsQuiet (finish_by_hand bank node worker hand).1
gives bank node worker None = (refl, refl)
gives bank node worker (Some None) = (refl, refl)
gives bank node worker (Some (Some n)) = comes bank (with_empty_hand node worker) n (nth_item node.stages n)

pub finishes_quietly : (bank : BankOf) (node : NodeOf) (worker : ℕ) → IsQuiet (finish_move bank node worker).1
finishes_quietly bank node worker = gives bank node worker (nth_item node.hands worker)

-- ---- in a world

-- an event at a replica that may take memory
pub wants : (world : WorldOf) (r : ℕ) (happens : NodeEvent) (node : NodeOf) → slice_get world.nodes r ≡ Some node
    → may_take_memory (node_move (bank_of world) world.sequencer.synced r node happens).1 ≡ true → MayWantMemory world (At r happens)
wants world r (event.Take worker index) node here is =
    absurd (true≢false (sym is ∙ (takes_quietly (bank_of world) node worker index).1))
wants world r (event.Finish worker) node here is =
    absurd (true≢false (sym is ∙ (finishes_quietly (bank_of world) node worker).1))
wants world r other node here is =
    ap (λ found. may_take_memory (move_if world r (λ n. node_move (bank_of world) world.sequencer.synced r n other) found).1) here ∙ is

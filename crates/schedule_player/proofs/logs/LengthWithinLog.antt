-- No replica of the machine is ahead of the log.
use Rattle.std.proofs.Common.{◌≡◌, inl, inr, Bool, true, false, ℕ, zero, suc, ◌+◌, ◌-◌, ◌<◌, ◌≤◌, Option, Some, None, List, [], ◌∷◌, ◌++◌, length, drop, take, max, replicate, refl, sym, subst, ◌∙◌, arith}
use Rattle.std.specs.Prelude.{slice_get, slice_set, nat_le, nat_lt, ◌==◌}
use Rattle.std.proofs.lemmas.Bool.{true≢false, cases_eq, leb-false, ltb-true}
use Rattle.std.proofs.lemmas.List.{length-append, length-replicate, length-set}
use Rattle.cown_board.proofs.StateChanges.{slice_get-set_other}
use Rattle.sb_calls.specs.declared.ask.Key.{Key}
use Rattle.sb_calls.specs.declared.call.Call.{Call}
use Rattle.sb_calls.specs.declared.reply.Reply.{Reply}
use Rattle.sb_checkpoint.specs.declared.memory_store.How.{How}
use Rattle.sb_checkpoint.specs.declared.memory_store.How.TheVariants as how
use Rattle.sb_frames.specs.declared.frame.Frame.{Frame}
use Rattle.sb_frames.specs.declared.frame.Frame.TheVariants as frame
use Rattle.sb_sequencer.specs.Entries.{entry_of, entries_to_resend}
use Rattle.sb_sequencer.specs.Notes.{answer_slot}
use Rattle.schedule_player.specs.Bank.{BankOf}
use Rattle.schedule_player.specs.FramesOfLog.{IsEntryOf}
use Rattle.schedule_player.specs.OneBased.{nth_item, with_nth, Every}
use Rattle.schedule_player.specs.EventLists.{IsWorldAfter}
use Rattle.schedule_player.specs.Readiness.{runnable_entries}
use Rattle.schedule_player.specs.ReplicaMoves.{NodeOf, opened_node, length_in, undone_in, send_reply, reply_in_node, send_move, with_held, with_accepted, frame_move, deliver_move, held_move, take_entry, take_by_hand, with_empty_hand, finish_by_stage, finish_by_hand, cut_unless_pending, undone_up_to, mark_up_to, restart_at, state_move, receive_move, node_move}
use Rattle.schedule_player.specs.Stage.{Stage, Waits, IsOut, IsDone}
use Rattle.schedule_player.specs.World.{WorldOf, AppendsAsk, bank_of, synced_world, crashed_world, move_if, move_at, replica_move, reply_move, report_move, from_move, give_move, opened_world}
use Rattle.schedule_text.specs.ScheduleText.{ScheduleOf}
use Rattle.schedule_text.specs.declared.event.NodeEvent.{NodeEvent}
use Rattle.schedule_text.specs.declared.event.NodeEvent.TheVariants as event
use Rattle.schedule_text.specs.declared.note.Note.{Note}
use Rattle.schedule_text.specs.declared.note.Note.TheVariants as note
use Rattle.schedule_player.proofs.entries.HeldEntries.{after_first}
use Rattle.schedule_player.proofs.events.EventInduction.{all_keep}
use Rattle.schedule_player.proofs.Lists.{every_nil, every_append, every_replicate, every_numbered, every_push, every_set, pushed_cases}
use Rattle.cown_board.proofs.LogLaws.{no_some as none_some}
use Rattle.cown_board.proofs.LogLaws.{injective as some_is}
use Rattle.schedule_player.proofs.entries.SentEntries.{entry_is, resent_are}
use Rattle.schedule_player.proofs.boards.Stages.{length-map}
use Rattle.schedule_player.proofs.entries.FrameSteps.{number_within}
use Rattle.schedule_player.proofs.logs.WorldLogs.{left_over}
use Rattle.schedule_player.proofs.events.MemoryRefusals.{next_by, entry_by, mark_by, state_by, give_by}

-- an entry's number is at most this
abbrev Fits : ℕ → Frame → Type 0
Fits size (frame.Entry n call) = n ≤ size
Fits size other = Unit {0}

-- a replica with this many entries, and with this kept, cut, held and sent to it, has nothing
-- beyond this many
record Within (size count stored : ℕ) (cut : Option ℕ) (held : List Bool) (inbound : List Frame) (states : List ℕ) : Type 0 where
  count_in : count ≤ size
  kept_in : stored ≤ size
  cut_in : (n : ℕ) → cut ≡ Some n → n ≤ size
  held_in : (k : ℕ) → slice_get held k ≡ Some true → count + k < size
  inbound_in : Every (Fits size) inbound
  states_in : Every (λ n. n ≤ size) states

abbrev IsWithin : ℕ → NodeOf → Type 0
IsWithin size node = Within size (length node.stages) node.stored node.cut node.held node.inbound node.states

wider : (size more : ℕ) (node : NodeOf) → size ≤ more → IsWithin size node → IsWithin more node
wider size more node le is = record {
  count_in = let c = is.count_in in omega (arith, c, le);
  kept_in = let k = is.kept_in in omega (arith, k, le);
  cut_in = λ n here. let c = is.cut_in n here in omega (arith, c, le);
  held_in = λ k here. let h = is.held_in k here in omega (arith, h, le);
  inbound_in = λ k one here. fits_wider one (is.inbound_in k one here);
  states_in = λ k n here. let s = is.states_in k n here in omega (arith, s, le);
}
  where
    fits_wider : (one : Frame) → Fits size one → Fits more one
    fits_wider (frame.Entry n call) fits = omega (arith, fits, le)
    fits_wider other fits = tt

module _ (size : ℕ) where
  -- as many entries as before
  restaged : (node : NodeOf) (stages : List Stage) → length stages ≡ length node.stages → IsWithin size node
      → Within size (length stages) node.stored node.cut node.held node.inbound node.states
  restaged node stages same is = subst (λ count. Within size count node.stored node.cut node.held node.inbound node.states) (sym same) is

  -- ---- a frame comes

  accepts_one : (node : NodeOf) → length_in node < size → IsWithin size node → IsWithin size (with_accepted node)
  accepts_one node lt is =
      let more = length-append node.stages (Waits ∷ []) in
      record {
        count_in = omega (arith, more, lt);
        kept_in = is.kept_in;
        cut_in = is.cut_in;
        held_in = λ k here. elim (pushed_cases (drop 1 node.held) false k true here) [
          | inl there ↦ let at = is.held_in (suc k) (sym (after_first node.held k) ∙ there) in omega (arith, more, at)
          | inr last ↦ absurd (true≢false (sym last.1))
        ];
        inbound_in = is.inbound_in;
        states_in = is.states_in;
      }

  holds_one : (node : NodeOf) (n : ℕ) → n ≤ size → suc (length_in node) < n → IsWithin size node → IsWithin size (with_held node n)
  holds_one node n fits early is = record {
    count_in = is.count_in;
    kept_in = is.kept_in;
    cut_in = is.cut_in;
    held_in = λ k here. elim (cases_eq (n - length_in node - 1) k) [
      | inl same ↦ omega (arith, same, fits, early)
      | inr differs ↦ is.held_in k (sym (slice_get-set_other node.held (n - length_in node - 1) k true (λ e. differs (sym e))) ∙ here)
    ];
    inbound_in = is.inbound_in;
    states_in = is.states_in;
  }

  next_comes : (node : NodeOf) (n : ℕ) (full : Bool) → length_in node < size → IsWithin size node → IsWithin size (next_by node n full).0
  next_comes node n true lt is = is
  next_comes node n false lt is = accepts_one node lt is

  enters : (node : NodeOf) (n : ℕ) (there past early full : Bool) → n ≤ size → (there ≡ false → length_in node < n)
      → (early ≡ true → suc (length_in node) < n) → IsWithin size node → IsWithin size (entry_by node n there past early full).0
  enters node n true past early full fits behind ahead is = is
  enters node n false true early full fits behind ahead is = is
  enters node n false false true full fits behind ahead is = holds_one node n fits (ahead refl) is
  enters node n false false false full fits behind ahead is =
      next_comes node n full (let lt = behind refl in omega (arith, lt, fits)) is

  comes : (node : NodeOf) (found : Option Frame) → ((one : Frame) → found ≡ Some one → Fits size one) → IsWithin size node
      → IsWithin size (frame_move node found).0
  comes node (Some (frame.Entry n call)) fits is =
      enters node n (nat_le n (length_in node)) (nat_lt (length_in node + 64) n) (nat_lt (suc (length_in node)) n) (undone_in node == 1024)
      (fits (frame.Entry n call) refl) (leb-false n (length_in node)) (ltb-true (suc (length_in node)) n) is
  comes node other fits is = is

  delivers : (node : NodeOf) (place : ℕ) → IsWithin size node → IsWithin size (deliver_move node place).0
  delivers node place is =
      comes node (nth_item node.inbound place) (λ one here. every_numbered (Fits size) node.inbound place one is.inbound_in here) is

  advances : (node : NodeOf) (held : Option Bool) → slice_get node.held 0 ≡ held → IsWithin size node → IsWithin size (held_move node held).0
  advances node (Some true) here is =
      next_comes node (suc (length_in node)) (undone_in node == 1024) (let lt = is.held_in 0 here in omega (arith, lt)) is
  advances node (Some false) here is = is
  advances node None here is = is

  -- ---- workers

  goes : (node : NodeOf) (worker : ℕ) (place : Option ℕ) → IsWithin size node → IsWithin size (take_entry node worker place).0
  goes node worker (Some place) is = restaged node (slice_set node.stages place IsOut) (length-set node.stages place IsOut) is
  goes node worker None is = is

  reaches : (bank : BankOf) (node : NodeOf) (worker index : ℕ) (hand : Option (Option ℕ)) → IsWithin size node
      → IsWithin size (take_by_hand bank node worker index hand).0
  reaches bank node worker index None is = is
  reaches bank node worker index (Some (Some n)) is = is
  reaches bank node worker index (Some None) is = goes node worker (slice_get (runnable_entries bank node.stages) index) is

  length-numbered : {A : Type 0} (items : List A) (n : ℕ) (item : A) → length (with_nth items n item) ≡ length items
  length-numbered items zero item = refl
  length-numbered items (suc k) item = length-set items k item

  comes_again : (bank : BankOf) (node : NodeOf) (n : ℕ) (stage : Option Stage) → IsWithin size node
      → IsWithin size (finish_by_stage bank node n stage).0
  comes_again bank node n (Some IsOut) is = restaged node (with_nth node.stages n IsDone) (length-numbered node.stages n IsDone) is
  comes_again bank node n (Some Waits) is = is
  comes_again bank node n (Some IsDone) is = is
  comes_again bank node n None is = is

  gives : (bank : BankOf) (node : NodeOf) (worker : ℕ) (hand : Option (Option ℕ)) → IsWithin size node
      → IsWithin size (finish_by_hand bank node worker hand).0
  gives bank node worker None is = is
  gives bank node worker (Some None) is = is
  gives bank node worker (Some (Some n)) is = comes_again bank (with_empty_hand node worker) n (nth_item node.stages n) is

  -- ---- cuts and checkpoints

  cuts : (node : NodeOf) (cut : Option ℕ) → IsWithin size node → IsWithin size (cut_unless_pending node cut).0
  cuts node (Some n) is = is
  cuts node None is = record {
    count_in = is.count_in;
    kept_in = is.kept_in;
    cut_in = λ n here. subst (λ m. m ≤ size) (some_is here) is.count_in;
    held_in = is.held_in;
    inbound_in = is.inbound_in;
    states_in = is.states_in;
  }

  -- this many are kept
  keeping : (node : NodeOf) (n : ℕ) → n ≤ size → IsWithin size node → IsWithin size (record node { stored = n })
  keeping node n le is = record {
    count_in = is.count_in;
    kept_in = le;
    cut_in = is.cut_in;
    held_in = is.held_in;
    inbound_in = is.inbound_in;
    states_in = is.states_in;
  }

  puts : (node : NodeOf) (n : ℕ) (end : How) (idle : Bool) → n ≤ size → IsWithin size node → IsWithin size (mark_by node n end idle).0
  puts node n how.Ok true le is = record {
    count_in = is.count_in;
    kept_in = le;
    cut_in = λ k here. absurd (none_some here);
    held_in = is.held_in;
    inbound_in = is.inbound_in;
    states_in = is.states_in;
  }
  puts node n how.Old true le is = is
  puts node n how.New true le is = keeping node n le is
  puts node n end false le is = is

  marks : (node : NodeOf) (end : How) (cut : Option ℕ) → node.cut ≡ cut → IsWithin size node → IsWithin size (mark_up_to node end cut).0
  marks node end (Some n) here is = puts node n end (undone_up_to node n == 0) (is.cut_in n here) is
  marks node end None here is = puts node (length_in node) end (undone_in node == 0) is.count_in is

  none_of : (n k : ℕ) → slice_get (replicate n false) k ≡ Some true → ⊥
  none_of zero k here = none_some here
  none_of (suc n) zero here = true≢false (sym (some_is here))
  none_of (suc n) (suc k) here = none_of n k here

  -- it begins at a length within the log
  begins : (node : NodeOf) (n : ℕ) → n ≤ size → IsWithin size node → IsWithin size (restart_at node n)
  begins node n le is = record {
    count_in = let same = length-replicate n IsDone in omega (arith, same, le);
    kept_in = is.kept_in;
    cut_in = λ n here. absurd (none_some here);
    held_in = λ k here. absurd (none_of 64 k here);
    inbound_in = is.inbound_in;
    states_in = is.states_in;
  }

  -- a state arrives
  adopts_by : (node : NodeOf) (n : ℕ) (behind : Bool) → n ≤ size → IsWithin size node → IsWithin size (state_by node n behind).0
  adopts_by node n true le is = is
  adopts_by node n false le is = begins node n le is

  adopts : (node : NodeOf) (state : Option ℕ) → ((n : ℕ) → state ≡ Some n → n ≤ size) → IsWithin size node → IsWithin size (state_move node state).0
  adopts node (Some n) fits is = adopts_by node n (nat_le n (length_in node)) (fits n refl) is
  adopts node None fits is = is

  opens : (workers : ℕ) → IsWithin size (opened_node workers)
  opens workers = record {
    count_in = omega arith;
    kept_in = omega arith;
    cut_in = λ n here. absurd (none_some here);
    held_in = λ k here. absurd (none_of 64 k here);
    inbound_in = every_nil (Fits size);
    states_in = every_nil (λ n. n ≤ size);
  }

  -- ---- frames and states are sent

  receives : (node : NodeOf) (entries : List Frame) → Every (Fits size) entries → IsWithin size node
      → IsWithin size (record node { inbound = node.inbound ++ entries })
  receives node entries fits is = record {
    count_in = is.count_in;
    kept_in = is.kept_in;
    cut_in = is.cut_in;
    held_in = is.held_in;
    inbound_in = every_append (Fits size) node.inbound entries is.inbound_in fits;
    states_in = is.states_in;
  }

  takes_state : (node : NodeOf) (n : ℕ) → n ≤ size → IsWithin size node → IsWithin size (receive_move node n).0
  takes_state node n le is = record {
    count_in = is.count_in;
    kept_in = is.kept_in;
    cut_in = is.cut_in;
    held_in = is.held_in;
    inbound_in = is.inbound_in;
    states_in = every_push (λ m. m ≤ size) node.states n is.states_in le;
  }

  sends : (node : NodeOf) (entry : Option Frame) → ((one : Frame) → entry ≡ Some one → Fits size one) → IsWithin size node
      → IsWithin size (send_move node entry).0
  sends node (Some one) fits is = receives node (one ∷ []) (every_push (Fits size) [] one (every_nil (Fits size)) (fits one refl)) is
  sends node None fits is = is

  replies : (node : NodeOf) (n : ℕ) (reply : Option Reply) → IsWithin size node → IsWithin size (send_reply node n reply).0
  replies node n (Some reply) is = is
  replies node n None is = is

-- ---- a world

abbrev AllWithin : WorldOf → Type 0
AllWithin world = Every (IsWithin (length world.sequencer.synced.log)) world.nodes

within_if : (world : WorldOf) (r : ℕ) (move : NodeOf → NodeOf × Note)
    → ((node : NodeOf) → IsWithin (length world.sequencer.synced.log) node → IsWithin (length world.sequencer.synced.log) (move node).0) → AllWithin world
    → (found : Option NodeOf) → slice_get world.nodes r ≡ found → AllWithin (move_if world r move found).0
within_if world r move goes all None here = all
within_if world r move goes all (Some node) here =
    every_set (IsWithin (length world.sequencer.synced.log)) world.nodes r (move node).0 all (goes node (all r node here))

within_at : (world : WorldOf) (r : ℕ) (move : NodeOf → NodeOf × Note)
    → ((node : NodeOf) → IsWithin (length world.sequencer.synced.log) node → IsWithin (length world.sequencer.synced.log) (move node).0) → AllWithin world
    → AllWithin (move_at world r move).0
within_at world r move goes all = within_if world r move goes all (slice_get world.nodes r) refl

entry_fits : (world : WorldOf) (entry : Frame) → IsEntryOf (bank_of world) entry → Fits (length world.sequencer.synced.log) entry
entry_fits world entry is =
    let calls = length-map (λ ask. ask.1) world.sequencer.synced.log in
    let within = number_within (bank_of world).calls is.number is.call is.in_log in
    subst (Fits (length world.sequencer.synced.log)) (sym is.frame_is) (omega (arith, calls, within))

within_kept : (world : WorldOf) (n : ℕ) (reply : Reply) (stored : Option (Option Reply)) → AllWithin world → AllWithin (reply_move world n reply stored).0
within_kept world n reply (Some None) all = all
within_kept world n reply (Some (Some first)) all = all
within_kept world n reply None all = all

within_told : (world : WorldOf) (r : ℕ) (heard : Option Frame) → AllWithin world → AllWithin (report_move world r heard).0
within_told world r (Some (frame.Ack replica size)) all = all
within_told world r (Some (frame.Have replica size)) all = all
within_told world r (Some (frame.Answer n reply)) all = within_kept world n reply (answer_slot world.sequencer.synced n) all
within_told world r other all = all

within_heard : (world : WorldOf) (r place : ℕ) (found : Option NodeOf) → AllWithin world → AllWithin (from_move world r place found).0
within_heard world r place (Some node) all = within_told world r (nth_item node.outbound place) all
within_heard world r place None all = all

within_node : (world : WorldOf) (r : ℕ) (happens : NodeEvent) (node : NodeOf) → IsWithin (length world.sequencer.synced.log) node
    → IsWithin (length world.sequencer.synced.log) (node_move (bank_of world) world.sequencer.synced r node happens).0
within_node world r (event.Send n) node is =
    sends (length world.sequencer.synced.log) node (entry_of world.sequencer.synced.log n)
    (λ entry here. entry_fits world entry (entry_is world.names world.opening world.sequencer.synced.log n entry here)) is
within_node world r event.Resend node is =
    receives (length world.sequencer.synced.log) node (entries_to_resend world.sequencer.synced r)
    (λ k entry here. entry_fits world entry (resent_are world.names world.opening world.sequencer.synced r k entry here)) is
within_node world r (event.To place) node is = delivers (length world.sequencer.synced.log) node place is
within_node world r (event.Answer n) node is = replies (length world.sequencer.synced.log) node n (reply_in_node (bank_of world) node n) is
within_node world r (event.Take worker index) node is =
    reaches (length world.sequencer.synced.log) (bank_of world) node worker index (nth_item node.hands worker) is
within_node world r (event.Finish worker) node is = gives (length world.sequencer.synced.log) (bank_of world) node worker (nth_item node.hands worker) is
within_node world r (event.Mark end) node is = marks (length world.sequencer.synced.log) node end node.cut refl is
within_node world r event.Restart node is = begins (length world.sequencer.synced.log) node node.stored is.kept_in is
within_node world r event.Cut node is = cuts (length world.sequencer.synced.log) node node.cut is
within_node world r event.Next node is = advances (length world.sequencer.synced.log) node (slice_get node.held 0) refl is
within_node world r (event.Adopt place) node is =
    adopts (length world.sequencer.synced.log) node (nth_item node.states place)
    (λ n here. every_numbered (λ m. m ≤ length world.sequencer.synced.log) node.states place n is.states_in here) is
within_node world r other node is = is

within_replica : (world : WorldOf) (r : ℕ) (happens : NodeEvent) → AllWithin world → AllWithin (replica_move world r happens).0
within_replica world r happens all =
    within_at world r (λ node. node_move (bank_of world) world.sequencer.synced r node happens) (within_node world r happens) all

within_from : (world : WorldOf) (r place : ℕ) → AllWithin world → AllWithin (from_move world r place (slice_get world.nodes r)).0
within_from world r place all = within_heard world r place (slice_get world.nodes r) all

-- a state that is given is one that is kept
within_given_by : (world : WorldOf) (r size : ℕ) (nothing : Bool) → size ≤ length world.sequencer.synced.log → AllWithin world
    → AllWithin (give_by world r size nothing).0
within_given_by world r size true le all = all
within_given_by world r size false le all =
    within_at world r (λ node. receive_move node size) (λ node is. takes_state (length world.sequencer.synced.log) node size le is) all

within_given : (world : WorldOf) (a r : ℕ) → AllWithin world → AllWithin (give_move world r (slice_get world.nodes a)).0
within_given world a r all = by (slice_get world.nodes a) refl
  where
    by : (found : Option NodeOf) → slice_get world.nodes a ≡ found → AllWithin (give_move world r found).0
    by None here = all
    by (Some donor) here = within_given_by world r donor.stored (donor.stored == 0) (all a donor here).kept_in all

-- an append leaves what is synced
within_appended : (old : WorldOf) (ask : Key × Call) (n : Note) (new : WorldOf) → AppendsAsk old ask n new → AllWithin old → AllWithin new
within_appended old ask (note.New n) new appends all = subst AllWithin (sym appends.1) all
within_appended old ask (note.Repeat n) new appends all = subst AllWithin (sym appends.1) all
within_appended old ask (note.Mismatch n) new appends all = subst AllWithin (sym appends.1) all
within_appended old ask note.LogFull new appends all = subst AllWithin (sym appends.1) all
within_appended old ask other new appends all = absurd appends

-- as much or more is synced after a sync, and after a crash
within_more : (log more : List (Key × Call)) (nodes : List NodeOf) → Every (IsWithin (length log)) nodes → Every (IsWithin (length (log ++ more))) nodes
within_more log more nodes all k node here =
    let longer = length-append log more in
    wider (length log) (length (log ++ more)) node (omega (arith, longer)) (all k node here)

within_synced : (world : WorldOf) → AllWithin world → AllWithin (synced_world world)
within_synced world all = within_more world.sequencer.synced.log world.sequencer.unsynced world.nodes all

within_crashed : (world : WorldOf) (kept : ℕ) → AllWithin world → AllWithin (crashed_world world kept)
within_crashed world kept all =
    let s = world.sequencer in
    subst (λ log. Every (IsWithin (length log)) world.nodes) (sym (left_over s kept))
    (within_more s.synced.log (take (max (length s.synced.log) kept - length s.synced.log) s.unsynced) world.nodes all)

-- whatever happened since an opening
pub played_within : (schedule : ScheduleOf) (world : WorldOf) → IsWorldAfter schedule world → (r : ℕ) (node : NodeOf) → slice_get world.nodes r ≡ Some node
    → length_in node ≤ length world.sequencer.synced.log
played_within schedule world played r node here =
    let all = all_keep AllWithin within_replica within_from within_given within_appended within_synced within_crashed
    (opened_world schedule) schedule.events played.notes world played.plays
    (every_replicate (IsWithin 0) schedule.nodes (opened_node schedule.workers) (opens 0 schedule.workers)) in
    (all r node here).count_in

-- What is out stays in a hand.
use Rattle.std.proofs.Common.{◌≡◌, ◌≢◌, ◌≤◌, ◌+◌, inl, inr, Bool, true, false, ℕ, zero, suc, Option, Some, None, List, [], ◌∷◌, ◌++◌, length, replicate, refl, sym, ap, ◌∙◌, arith}
use Rattle.std.specs.Prelude.{slice_get, nat_le, nat_lt, ◌==◌}
use Rattle.std.proofs.lemmas.Bool.{cases_eq}
use Rattle.std.proofs.lemmas.List.{length-replicate, length-set}
use Rattle.std.proofs.lemmas.Option.{slice_get_within}
use Rattle.cown_board.proofs.StateChanges.{slice_get-set_same, slice_get-set_other}
use Rattle.sb_calls.specs.declared.reply.Reply.{Reply}
use Rattle.sb_checkpoint.specs.declared.memory_store.How.{How}
use Rattle.sb_checkpoint.specs.declared.memory_store.How.TheVariants as how
use Rattle.sb_frames.specs.declared.frame.Frame.{Frame}
use Rattle.sb_frames.specs.declared.frame.Frame.TheVariants as frame
use Rattle.sb_sequencer.specs.Entries.{entry_of}
use Rattle.sb_sequencer.specs.Sequencer.{SequencerOf}
use Rattle.schedule_player.specs.Bank.{BankOf}
use Rattle.schedule_player.specs.OneBased.{nth_item, with_nth}
use Rattle.schedule_player.specs.Readiness.{runnable_entries}
use Rattle.schedule_player.specs.ReplicaMoves.{NodeOf, opened_node, length_in, undone_in, send_reply, reply_in_node, send_move, with_accepted, frame_move, held_move, take_entry, take_by_hand, with_empty_hand, finish_by_stage, finish_by_hand, cut_unless_pending, undone_up_to, mark_up_to, restart_at, state_move, node_move}
use Rattle.schedule_player.specs.inner.OutInHands.{AreInHands, OutIsInHands}
use Rattle.schedule_player.specs.Stage.{Stage, Waits, IsOut, IsDone}
use Rattle.schedule_text.specs.declared.event.NodeEvent.{NodeEvent}
use Rattle.schedule_text.specs.declared.event.NodeEvent.TheVariants as event
use Rattle.schedule_player.proofs.Lists.{every_replicate, pushed_cases}
use Rattle.cown_board.proofs.LogLaws.{no_some as none_some}
use Rattle.cown_board.proofs.LogLaws.{injective as some_is}
use Rattle.schedule_player.proofs.events.MemoryRefusals.{next_by, entry_by, mark_by, state_by}

-- ---- items that are counted from 1

numbered-same : {A : Type 0} (items : List A) (n : ℕ) (old new : A) → nth_item items n ≡ Some old → nth_item (with_nth items n new) n ≡ Some new
numbered-same items zero old new here = absurd (none_some here)
numbered-same items (suc k) old new here = slice_get-set_same items k new (slice_get_within items k old here)

numbered-other : {A : Type 0} (items : List A) (n m : ℕ) (new : A) → m ≢ n → nth_item (with_nth items n new) m ≡ nth_item items m
numbered-other items zero m new differs = refl
numbered-other items (suc k) zero new differs = refl
numbered-other items (suc k) (suc j) new differs = slice_get-set_other items k j new (λ e. differs (ap suc e))

pub length-with : {A : Type 0} (items : List A) (n : ℕ) (new : A) → length (with_nth items n new) ≡ length items
length-with items zero new = refl
length-with items (suc k) new = length-set items k new

waits_or_out : Waits ≡ IsOut → ⊥
waits_or_out h = cc

done_or_out : IsDone ≡ IsOut → ⊥
done_or_out h = cc

-- ---- an entry comes

accepts_one : (node : NodeOf) → OutIsInHands node → OutIsInHands (with_accepted node)
accepts_one node is = record { some = is.some; few = is.few; out = found }
  where
    found : (n : ℕ) → nth_item (node.stages ++ Waits ∷ []) n ≡ Some IsOut → (worker : ℕ) × (nth_item node.hands worker ≡ Some (Some n))
    found zero here = absurd (none_some here)
    found (suc k) here = elim (pushed_cases node.stages Waits k IsOut here) [
      | inl there ↦ is.out (suc k) there
      | inr last ↦ absurd (waits_or_out last.1)
    ]

next_comes : (node : NodeOf) (n : ℕ) (full : Bool) → OutIsInHands node → OutIsInHands (next_by node n full).0
next_comes node n true is = is
next_comes node n false is = accepts_one node is

enters : (node : NodeOf) (n : ℕ) (there past early full : Bool) → OutIsInHands node → OutIsInHands (entry_by node n there past early full).0
enters node n true past early full is = is
enters node n false true early full is = is
enters node n false false true full is = is
enters node n false false false full is = next_comes node n full is

comes : (node : NodeOf) (found : Option Frame) → OutIsInHands node → OutIsInHands (frame_move node found).0
comes node (Some (frame.Entry n call)) is =
    enters node n (nat_le n (length_in node)) (nat_lt (length_in node + 64) n) (nat_lt (suc (length_in node)) n) (undone_in node == 1024) is
comes node other is = is

advances : (node : NodeOf) (held : Option Bool) → OutIsInHands node → OutIsInHands (held_move node held).0
advances node (Some true) is = next_comes node (suc (length_in node)) (undone_in node == 1024) is
advances node (Some false) is = is
advances node None is = is

-- ---- a worker takes

goes : (node : NodeOf) (worker : ℕ) (place : Option ℕ) → nth_item node.hands worker ≡ Some None → OutIsInHands node
    → OutIsInHands (take_entry node worker place).0
goes node worker None empty is = is
goes node worker (Some place) empty is = record {
  some = let l = length-with node.hands worker (Some (suc place)) in let s = is.some in omega (arith, l, s);
  few = let l = length-with node.hands worker (Some (suc place)) in let f = is.few in omega (arith, l, f);
  out = λ n here. elim (cases_eq n (suc place)) [
    | inl same ↦ (
      worker,
      numbered-same node.hands worker None (Some (suc place)) empty ∙ ap (λ m. Some (Some m)) (sym same),
    )
    | inr differs ↦
        let found = is.out n (sym (numbered-other node.stages (suc place) n IsOut differs) ∙ here) in (
          found.0,
          numbered-other node.hands worker found.0 (Some (suc place))
              (λ e. none_some (some_is (sym empty ∙ ap (nth_item node.hands) (sym e) ∙ found.1)))
              ∙ found.1,
        )
  ];
}

reaches : (bank : BankOf) (node : NodeOf) (worker index : ℕ) (hand : Option (Option ℕ)) → nth_item node.hands worker ≡ hand → OutIsInHands node
    → OutIsInHands (take_by_hand bank node worker index hand).0
reaches bank node worker index None here is = is
reaches bank node worker index (Some (Some n)) here is = is
reaches bank node worker index (Some None) here is = goes node worker (slice_get (runnable_entries bank node.stages) index) here is

-- ---- a worker finishes

-- a hand is emptied, and what it had isn't out
empties : (node : NodeOf) (stages : List Stage) (worker n : ℕ) → nth_item node.hands worker ≡ Some (Some n)
    → (nth_item stages n ≡ Some IsOut → ⊥) → ((m : ℕ) → m ≢ n → nth_item stages m ≡ nth_item node.stages m) → OutIsInHands node
    → AreInHands stages (with_nth node.hands worker None)
empties node stages worker n hand not_out others is = record {
  some = let l = length-with node.hands worker None in let s = is.some in omega (arith, l, s);
  few = let l = length-with node.hands worker None in let f = is.few in omega (arith, l, f);
  out = λ m here. elim (cases_eq m n) [
    | inl same ↦ absurd (not_out (ap (nth_item stages) (sym same) ∙ here))
    | inr differs ↦
        let found = is.out m (sym (others m differs) ∙ here) in (
          found.0,
          numbered-other node.hands worker found.0 None
              (λ e. differs (some_is (some_is (sym found.1 ∙ ap (nth_item node.hands) e ∙ hand))))
              ∙ found.1,
        )
  ];
}

comes_again : (bank : BankOf) (node : NodeOf) (worker n : ℕ) (stage : Option Stage) → nth_item node.hands worker ≡ Some (Some n)
    → nth_item node.stages n ≡ stage → OutIsInHands node → OutIsInHands (finish_by_stage bank (with_empty_hand node worker) n stage).0
comes_again bank node worker n (Some IsOut) hand here is =
    empties node (with_nth node.stages n IsDone) worker n hand
    (λ e. done_or_out (some_is (sym (numbered-same node.stages n IsOut IsDone here) ∙ e)))
    (λ m differs. numbered-other node.stages n m IsDone differs) is
comes_again bank node worker n (Some Waits) hand here is =
    empties node node.stages worker n hand (λ e. waits_or_out (some_is (sym here ∙ e))) (λ m differs. refl) is
comes_again bank node worker n (Some IsDone) hand here is =
    empties node node.stages worker n hand (λ e. done_or_out (some_is (sym here ∙ e))) (λ m differs. refl) is
comes_again bank node worker n None hand here is =
    empties node node.stages worker n hand (λ e. none_some (sym here ∙ e)) (λ m differs. refl) is

gives : (bank : BankOf) (node : NodeOf) (worker : ℕ) (hand : Option (Option ℕ)) → nth_item node.hands worker ≡ hand → OutIsInHands node
    → OutIsInHands (finish_by_hand bank node worker hand).0
gives bank node worker None here is = is
gives bank node worker (Some None) here is = is
gives bank node worker (Some (Some n)) here is = comes_again bank node worker n (nth_item node.stages n) here refl is

-- ---- cuts, checkpoints and frames

cuts : (node : NodeOf) (cut : Option ℕ) → OutIsInHands node → OutIsInHands (cut_unless_pending node cut).0
cuts node (Some n) is = is
cuts node None is = is

puts : (node : NodeOf) (n : ℕ) (end : How) (idle : Bool) → OutIsInHands node → OutIsInHands (mark_by node n end idle).0
puts node n how.Ok true is = is
puts node n how.Old true is = is
puts node n how.New true is = is
puts node n end false is = is

marks : (node : NodeOf) (end : How) (cut : Option ℕ) → OutIsInHands node → OutIsInHands (mark_up_to node end cut).0
marks node end (Some n) is = puts node n end (undone_up_to node n == 0) is
marks node end None is = puts node (length_in node) end (undone_in node == 0) is

-- every entry that it begins with is done
begins : (node : NodeOf) (size : ℕ) → OutIsInHands node → OutIsInHands (restart_at node size)
begins node size is = record { some = is.some; few = is.few; out = found }
  where
    found : (n : ℕ) → nth_item (replicate size IsDone) n ≡ Some IsOut → (worker : ℕ) × (nth_item node.hands worker ≡ Some (Some n))
    found zero here = absurd (none_some here)
    found (suc k) here = absurd (every_replicate (λ stage. stage ≡ IsOut → ⊥) size IsDone done_or_out k IsOut here refl)

adopts_by : (node : NodeOf) (size : ℕ) (behind : Bool) → OutIsInHands node → OutIsInHands (state_by node size behind).0
adopts_by node size true is = is
adopts_by node size false is = begins node size is

adopts : (node : NodeOf) (state : Option ℕ) → OutIsInHands node → OutIsInHands (state_move node state).0
adopts node (Some size) is = adopts_by node size (nat_le size (length_in node)) is
adopts node None is = is

sends : (node : NodeOf) (entry : Option Frame) → OutIsInHands node → OutIsInHands (send_move node entry).0
sends node (Some entry) is = is
sends node None is = is

replies : (node : NodeOf) (n : ℕ) (reply : Option Reply) → OutIsInHands node → OutIsInHands (send_reply node n reply).0
replies node n (Some reply) is = is
replies node n None is = is

-- ---- all of them

pub stays_staffed : (bank : BankOf) (s : SequencerOf) (r : ℕ) (node : NodeOf) (happens : NodeEvent) → OutIsInHands node
    → OutIsInHands (node_move bank s r node happens).0
stays_staffed bank s r node (event.Send n) is = sends node (entry_of s.log n) is
stays_staffed bank s r node (event.To place) is = comes node (nth_item node.inbound place) is
stays_staffed bank s r node (event.Answer n) is = replies node n (reply_in_node bank node n) is
stays_staffed bank s r node (event.Take worker index) is = reaches bank node worker index (nth_item node.hands worker) refl is
stays_staffed bank s r node (event.Finish worker) is = gives bank node worker (nth_item node.hands worker) refl is
stays_staffed bank s r node (event.Mark end) is = marks node end node.cut is
stays_staffed bank s r node event.Restart is = begins node node.stored is
stays_staffed bank s r node event.Cut is = cuts node node.cut is
stays_staffed bank s r node event.Next is = advances node (slice_get node.held 0) is
stays_staffed bank s r node (event.Adopt place) is = adopts node (nth_item node.states place) is
stays_staffed bank s r node other is = is

-- at the opening nothing is out
pub opens_staffed : (workers : ℕ) → 1 ≤ workers → workers ≤ 16 → OutIsInHands (opened_node workers)
opens_staffed workers some few = record {
  some = let l = length-replicate {A = Option ℕ} workers None in omega (arith, l, some);
  few = let l = length-replicate {A = Option ℕ} workers None in omega (arith, l, few);
  out = nothing;
}
  where
    nothing : (n : ℕ) → nth_item [] n ≡ Some IsOut → (worker : ℕ) × (nth_item (replicate workers None) worker ≡ Some (Some n))
    nothing zero here = absurd (none_some here)
    nothing (suc k) here = absurd (none_some here)

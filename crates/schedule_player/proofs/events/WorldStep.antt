-- One replica of a world moves.
use Rattle.std.proofs.Common.{◌≡◌, inl, inr, ℕ, ◌<◌, Some, Result, Ok, Err, List, length, map, sym, ap, subst, ◌∙◌, arith}
use Rattle.std.specs.Prelude.{slice_get, slice_set, option_map, IfOk, OnErr}
use Rattle.std.proofs.lemmas.Bool.{cases_eq}
use Rattle.std.proofs.lemmas.List.{length-set}
use Rattle.std.proofs.lemmas.Option.{slice_get-map, slice_get_within}
use Rattle.cown_board.proofs.StateChanges.{slice_get-set_same, slice_get-set_other}
use Rattle.sb_rows.specs.Balances.{Balances}
use Rattle.schedule_sequencer.specs.DurableSequencer.{DurableSequencerOf}
use Rattle.schedule_player.specs.inner.NodeInvariant.{machine_node, IsNodeAt, MovesTo, Steps}
use Rattle.schedule_player.specs.ReplicaMoves.{NodeOf, node_move}
use Rattle.schedule_player.specs.inner.OutInHands.{OutIsInHands}
use Rattle.schedule_player.specs.World.{WorldOf, MayWantMemory, bank_with, move_if, move_at}
use Rattle.schedule_player.specs.inner.WorldInvariant.{IsWorld}
use Rattle.schedule_player.specs.declared.fault.StepFault.{StepFault}
use Rattle.schedule_player.specs.declared.node.Node.{Node}
use Rattle.schedule_text.specs.declared.event.Event.TheVariants.{At}
use Rattle.schedule_text.specs.declared.event.NodeEvent.{NodeEvent}
use Rattle.schedule_text.specs.declared.note.Note.{Note}
use Rattle.schedule_player.proofs.Lists.{set_here}
use Rattle.cown_board.proofs.LogLaws.{injective as some_is}
use Rattle.schedule_player.proofs.boards.Stages.{set-map}
use Rattle.schedule_player.proofs.events.MemoryRefusals.{wants}

abbrev pub world_of : List (List ℕ) → Balances → DurableSequencerOf → List Node → WorldOf
world_of names opening s nodes = record { names = names; opening = opening; sequencer = s; nodes = map machine_node nodes }

module _ (names : List (List ℕ)) (opening : Balances) (s : DurableSequencerOf) (nodes : List Node) where
  -- it is where it was put
  new_one : (r : ℕ) (new : Node) (q : ℕ) (node : Node) → r ≡ q → slice_get (slice_set nodes r new) q ≡ Some node → new ≡ node
  new_one r new q node same here =
      let within : r < length nodes =
      subst (λ n. r < n) (length-set nodes r new)
      (subst (λ p. p < length (slice_set nodes r new)) (sym same) (slice_get_within (slice_set nodes r new) q node here)) in
      some_is (sym (slice_get-set_same nodes r new within) ∙ ap (slice_get (slice_set nodes r new)) same ∙ here)

  -- every other replica is as before
  pub world_with : (r : ℕ) (new : Node) → IsWorld names opening s.synced nodes → IsNodeAt (bank_with names opening s.synced.log) r new
      → OutIsInHands (machine_node new) → IsWorld names opening s.synced (slice_set nodes r new)
  world_with r new is consistent out_in_hands = record {
    customers = is.customers;
    valid = is.valid;
    known = is.known ∙ sym (length-set nodes r new);
    few = let l = length-set nodes r new in let f = is.few in omega (arith, l, f);
    each = λ q node here. elim (cases_eq r q) [
      | inl same ↦
          subst (λ p. IsNodeAt (bank_with names opening s.synced.log) p node) same
          (subst (IsNodeAt (bank_with names opening s.synced.log) r) (new_one r new q node same here) consistent)
      | inr differs ↦ is.each q node (sym (slice_get-set_other nodes r q new (λ e. differs (sym e))) ∙ here)
    ];
    out_in_hands = λ q node here. elim (cases_eq r q) [
      | inl same ↦ subst (λ n. OutIsInHands (machine_node n)) (new_one r new q node same here) out_in_hands
      | inr differs ↦ is.out_in_hands q node (sym (slice_get-set_other nodes r q new (λ e. differs (sym e))) ∙ here)
    ];
    answers = is.answers;
  }

  pub moves_node : (r : ℕ) (old new : Node) (n : Note) (move : NodeOf → NodeOf × Note) → slice_get nodes r ≡ Some old
      → MovesTo (bank_with names opening s.synced.log) r new n (move (machine_node old))
      → move_at (world_of names opening s nodes) r move ≡ (world_of names opening s (slice_set nodes r new), n)
  moves_node r old new n move here arrives =
      ap (move_if (world_of names opening s nodes) r move) (slice_get-map machine_node nodes r ∙ ap (option_map machine_node) here)
      ∙ ap (λ m. (record (world_of names opening s nodes) { nodes = slice_set (map machine_node nodes) r m.0 }, m.1)) arrives.move_is
      ∙ ap (λ ns. (record (world_of names opening s nodes) { nodes = ns }, n)) (sym (set-map machine_node nodes r new))

  -- the replica that is there, as the machine sees it
  pub node_seen : (r : ℕ) (old : Node) → slice_get nodes r ≡ Some old → slice_get (map machine_node nodes) r ≡ Some (machine_node old)
  node_seen r old here = slice_get-map machine_node nodes r ∙ ap (option_map machine_node) here

  -- ---- an event for which memory may be refused

  -- it moves the world as the machine moves, or nothing changes
  pub record Stepped (r : ℕ) (new : Node) (move : NodeOf → NodeOf × Note) (result : Result Note StepFault) : Type 0 where
    pub is : IsWorld names opening s.synced (slice_set nodes r new)
    pub moves : IfOk result (λ n. move_at (world_of names opening s nodes) r move ≡ (world_of names opening s (slice_set nodes r new), n))
    pub err : OnErr result (world_of names opening s (slice_set nodes r new) ≡ world_of names opening s nodes)

  pub steps : (r : ℕ) (old new : Node) (move : NodeOf → NodeOf × Note) (result : Result Note StepFault) → IsWorld names opening s.synced nodes
      → slice_get nodes r ≡ Some old → (OutIsInHands (machine_node old) → OutIsInHands (move (machine_node old)).0)
      → Steps (bank_with names opening s.synced.log) r old new result (move (machine_node old))
      → Stepped r new move result
  steps r old new move (Ok n) is here keeps arrives = record {
    is = world_with r new is arrives.consistent (subst (λ m. OutIsInHands m.0) arrives.move_is (keeps (is.out_in_hands r old here)));
    moves = moves_node r old new n move here arrives;
    err = tt;
  }
  steps r old new move (Err fault) is here keeps failed = record {
    is = world_with r new is failed.0.consistent (subst OutIsInHands (sym failed.0.seen) (is.out_in_hands r old here));
    moves = tt;
    err =
        ap (λ ns. record (world_of names opening s nodes) { nodes = ns })
        (set-map machine_node nodes r new ∙ ap (slice_set (map machine_node nodes) r) failed.0.seen
        ∙ set_here (map machine_node nodes) r (machine_node old) (node_seen r old here));
  }

  -- it fails only if its note may take memory
  pub steps_wanted : (r : ℕ) (old new : Node) (happens : NodeEvent) (result : Result Note StepFault) → slice_get nodes r ≡ Some old
      → Steps (bank_with names opening s.synced.log) r old new result
      (node_move (bank_with names opening s.synced.log) s.synced r (machine_node old) happens)
      → OnErr result (MayWantMemory (world_of names opening s nodes) (At r happens))
  steps_wanted r old new happens (Ok n) here arrives = tt
  steps_wanted r old new happens (Err fault) here failed =
      wants (world_of names opening s nodes) r happens (machine_node old) (node_seen r old here) failed.1

-- what holds of the old world holds after a failure
pub on_err : {A P : Type 0} (result : Result A StepFault) → P → OnErr result P
on_err (Ok x) p = tt
on_err (Err fault) p = p

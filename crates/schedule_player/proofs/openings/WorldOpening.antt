-- A world at its opening.
use Rattle.std.proofs.Common.{◌≡◌, ◌≤◌, ℕ, Option, Some, None, List, [], length, map, replicate, refl, sym, ap, subst, ◌∙◌, arith}
use Rattle.std.specs.Prelude.{slice_get, option_map}
use Rattle.std.specs.List.{All}
use Rattle.std.proofs.lemmas.List.{length-replicate}
use Rattle.std.proofs.lemmas.Option.{slice_get-map}
use Rattle.std.proofs.lemmas.List.Elements.{All-replicate}
use Rattle.sb_calls.specs.Cowns.{contents_of}
use Rattle.sb_calls.specs.Op.{op_of}
use Rattle.sb_calls.specs.declared.call.TheConstants.{LOG_CALLS}
use Rattle.sb_rows.specs.Balances.{Balances}
use Rattle.sb_rows.specs.Rows.{SameCustomers}
use Rattle.schedule_sequencer.specs.DurableSequencer.{DurableSequencerOf, empty_durable}
use Rattle.sb_calls.specs.declared.nodes.TheConstants.{REPLICAS}
use Rattle.schedule_player.specs.Bank.{BankOf}
use Rattle.schedule_player.specs.FramesOfLog.{IsEntryOf, IsSentBy}
use Rattle.schedule_player.specs.inner.NodeInvariant.{IsNodeAt, machine_node}
use Rattle.schedule_player.specs.OneBased.{Every}
use Rattle.schedule_player.specs.ReplicaMoves.{NodeOf, length_in, opened_node}
use Rattle.schedule_player.specs.MachineView.{ops_of}
use Rattle.schedule_player.specs.inner.OutInHands.{OutIsInHands}
use Rattle.schedule_player.specs.LogAgreement.{WorldAgreesWithLog}
use Rattle.schedule_player.specs.World.{bank_with}
use Rattle.schedule_player.specs.inner.WorldInvariant.{IsWorld}
use Rattle.schedule_player.specs.declared.node.Node.{Node}
use Rattle.schedule_player.proofs.Lists.{every_replicate}
use Rattle.cown_board.proofs.LogLaws.{no_some as none_some}
use Rattle.cown_board.proofs.LogLaws.{injective as some_is}
use Rattle.schedule_player.proofs.events.WorldStep.{world_of}
use Rattle.schedule_player.proofs.boards.BoardReplies.{within_log}
use Rattle.schedule_player.proofs.hands.OutInHands.{opens_staffed}
use Rattle.schedule_player.proofs.boards.Stages.{length-map, length_stages}
use Rattle.schedule_player.proofs.checkpoints.StatesOfLog.{states_within}

all_zeros : (n most : ℕ) → All (λ size. size ≤ most) (replicate n 0)
all_zeros n most = All-replicate (λ size. size ≤ most) n 0 (omega arith)

pub opened_so : (names : List (List ℕ)) (opening : Balances) (nodes workers : ℕ) (all : List Node) (s : DurableSequencerOf) → SameCustomers names opening
    → nodes ≤ REPLICAS → 1 ≤ workers → workers ≤ 16 → s ≡ empty_durable nodes → map machine_node all ≡ replicate nodes (opened_node workers)
    → ((bank : BankOf) → bank.names ≡ names → bank.opening ≡ opening → SameCustomers bank.names bank.opening → length bank.calls ≤ LOG_CALLS
    → (r : ℕ) (node : Node) → slice_get all r ≡ Some node → IsNodeAt bank r node)
    → IsWorld names opening s.synced all
opened_so names opening nodes workers all s same few has_worker worker_limit is seen consistent =
    let size : length all ≡ nodes = sym (length-map machine_node all) ∙ ap length seen ∙ length-replicate nodes (opened_node workers) in
    let zeros : length (replicate {A = ℕ} nodes 0) ≡ nodes = length-replicate {A = ℕ} nodes 0 in
    subst (λ x. IsWorld names opening x.synced all) (sym is)
    (record {
      customers = same;
      valid = record {
        log = record { limit = omega arith; different = λ i j d before below. absurd (omega (arith, below)) };
        answers = refl;
        recorded = all_zeros nodes 0;
        same_length = refl;
        checkpoints = all_zeros nodes 0;
      };
      known = zeros ∙ sym size;
      few = omega (arith, few, size);
      each = λ r node here. consistent (bank_with names opening []) refl refl same (omega arith) r node here;
      out_in_hands = λ r node here.
          every_replicate OutIsInHands nodes (opened_node workers) (opens_staffed workers has_worker worker_limit) r (machine_node node)
          (ap (λ ns. slice_get ns r) (sym seen) ∙ slice_get-map machine_node all r ∙ ap (option_map machine_node) here);
      answers = λ k reply here. absurd (none_some here);
    })

-- ---- what holds of it

-- a replica that the machine sees is one of the code
pub seen_is : (bank : BankOf) (nodes : List Node) (r : ℕ) (one : NodeOf)
    → ((q : ℕ) (node : Node) → slice_get nodes q ≡ Some node → IsNodeAt bank q node) → slice_get (map machine_node nodes) r ≡ Some one
    → (node : Node) × IsNodeAt bank r node × (machine_node node ≡ one)
seen_is bank nodes r one each here = by (slice_get nodes r) refl
  where
    by : (found : Option Node) → slice_get nodes r ≡ found → (node : Node) × IsNodeAt bank r node × (machine_node node ≡ one)
    by None none = absurd (none_some (sym (slice_get-map machine_node nodes r ∙ ap (option_map machine_node) none) ∙ here))
    by (Some node) there = (
      node,
      each r node there,
      some_is (sym (slice_get-map machine_node nodes r ∙ ap (option_map machine_node) there) ∙ here),
    )

pub true_to_log : (names : List (List ℕ)) (opening : Balances) (s : DurableSequencerOf) (nodes : List Node) → IsWorld names opening s.synced nodes
    → WorldAgreesWithLog (world_of names opening s nodes)
true_to_log names opening s nodes is =
    let bank = bank_with names opening s.synced.log in
    record {
      within = λ r one here.
          let found = seen_is bank nodes r one is.each here in
          let board = found.0.replica.board in
          let size = length_stages board found.1.board.states in
          let fits = within_log (contents_of opening) (ops_of bank) board found.1.board in
          let ops = length-map (op_of names) bank.calls in
          let calls = length-map (λ entry. entry.1) s.synced.log in
          subst (λ n. length_in n ≤ length s.synced.log) found.2 (omega (arith, size, fits, ops, calls));
      inbound = λ r one here.
          let found = seen_is bank nodes r one is.each here in
          subst (λ n. Every (IsEntryOf bank) n.inbound) found.2 found.1.inbound;
      outbound = λ r one here.
          let found = seen_is bank nodes r one is.each here in
          subst (λ n. Every (IsSentBy bank r) n.outbound) found.2 found.1.outbound;
      states = λ r one here.
          let found = seen_is bank nodes r one is.each here in
          let calls = length-map (λ entry. entry.1) s.synced.log in
          subst (λ n. Every (λ size. size ≤ length s.synced.log) n.states) found.2
          (subst (λ most. Every (λ size. size ≤ most) (machine_node found.0).states) calls
          (states_within bank found.0.states found.1.states));
      stored = is.answers;
    }

-- Two replicas are compared.
use Rattle.std.proofs.Common.{◌≡◌, ◌≢◌, ◌<◌, true, ℕ, Bool, Some, List, length, refl, sym, ap, subst, ◌∙◌, arith}
use Rattle.std.specs.Prelude.{slice_get, ◌==◌, if◌then◌else◌}
use Rattle.std.specs.List.{slice_index_or}
use Rattle.std.proofs.lemmas.Bool.{eq-eqb, ne_eqb}
use Rattle.cown_board.specs.Board.{length_of, unfinished_of}
use Rattle.schedule_player.specs.Bank.{BankOf}
use Rattle.schedule_player.specs.inner.NodeInvariant.{machine_node, IsNodeAt}
use Rattle.schedule_player.specs.ReplicaMoves.{NodeOf, length_in, undone_in}
use Rattle.schedule_player.specs.World.{WorldOf, adds_up, audit_if, bank_of, books_after, audit_result, may_take_memory}
use Rattle.schedule_player.specs.inner.WorldInvariant.{IsWorld}
use Rattle.schedule_player.specs.declared.node.Node.{Node}
use Rattle.schedule_text.specs.declared.note.AuditNote.{AuditNote}
use Rattle.schedule_text.specs.declared.note.AuditNote.TheVariants as audit
use Rattle.schedule_player.proofs.Lists.{get_here}
use Rattle.cown_board.proofs.LogLaws.{injective as some_is}
use Rattle.schedule_player.proofs.events.WorldStep.{world_of, node_seen}
use Rattle.schedule_player.proofs.boards.Stages.{length-map, undone_in_stages, length_stages}
use Rattle.sb_rows.specs.Balances.{Balances}
use Rattle.schedule_sequencer.specs.DurableSequencer.{DurableSequencerOf}

-- a replica that was looked up, as the machine has it
pub record LookedUp (now : WorldOf) (r : ℕ) (node : Node) : Type 0 where
  pub consistent : IsNodeAt (bank_of now) r node
  pub seen : slice_get now.nodes r ≡ Some (machine_node node)

pub looked_up : (names : List (List ℕ)) (opening : Balances) (s : DurableSequencerOf) (nodes : List Node) (now : WorldOf) (r : ℕ) (node : Node)
    → world_of names opening s nodes ≡ now → IsWorld names opening s.synced nodes → r < length now.nodes → node ≡ slice_index_or nodes r node
    → LookedUp now r node
looked_up names opening s nodes now r node view is within at =
    let size = ap (λ w. length w.nodes) view in
    let many = length-map machine_node nodes in
    let lt : r < length nodes = omega (arith, size, many, within) in
    let here = get_here nodes r node lt at in
    subst (λ w. LookedUp w r node) view (record { consistent = is.each r node here; seen = node_seen names opening s nodes r node here })

-- what the machine sees of it
pub seen_as : (now : WorldOf) (r : ℕ) (node : Node) (one : NodeOf) → LookedUp now r node → slice_get now.nodes r ≡ Some one → machine_node node ≡ one
seen_as now r node one looked here = some_is (sym looked.seen ∙ here)

module _ (bank : BankOf) (a b : ℕ) (first second : Node) (is_a : IsNodeAt bank a first) (is_b : IsNodeAt bank b second) where
  abbrev one : NodeOf
  one = machine_node first

  abbrev other : NodeOf
  other = machine_node second

  -- what it sees by these tests
  abbrev with_tests : Bool → Bool → Bool → AuditNote
  with_tests idle also same =
      if idle then (if also then (if same then books_after bank (length_in one) else audit.Apart (length_in one) (length_in other))
      else audit.Busy b) else audit.Busy a

  undone_one : undone_in one ≡ unfinished_of first.replica.board
  undone_one = undone_in_stages first.replica.board

  undone_other : undone_in other ≡ unfinished_of second.replica.board
  undone_other = undone_in_stages second.replica.board

  pub busy_first : unfinished_of first.replica.board ≢ 0 → audit.Busy a ≡ audit_result bank a b one other
  busy_first undone =
      ap (λ t. with_tests t (undone_in other == 0) (length_in one == length_in other))
      (sym (ne_eqb (undone_in one) 0 (λ e. undone (sym undone_one ∙ e))))

  pub busy_second : unfinished_of first.replica.board ≡ 0 → unfinished_of second.replica.board ≢ 0 → audit.Busy b ≡ audit_result bank a b one other
  busy_second idle undone =
      ap (λ t. with_tests true t (length_in one == length_in other)) (sym (ne_eqb (undone_in other) 0 (λ e. undone (sym undone_other ∙ e))))
      ∙ ap (λ t. with_tests t (undone_in other == 0) (length_in one == length_in other)) (sym (eq-eqb (undone_in one) 0 (undone_one ∙ idle)))

  pub apart : (m n : ℕ) → unfinished_of first.replica.board ≡ 0 → unfinished_of second.replica.board ≡ 0 → m ≡ length_of first.replica.board
      → n ≡ length_of second.replica.board → m ≢ n → audit.Apart m n ≡ audit_result bank a b one other
  apart m n idle also is is_other differ =
      let size : m ≡ length_in one = is ∙ sym (length_stages first.replica.board is_a.board.states) in
      let size_other : n ≡ length_in other = is_other ∙ sym (length_stages second.replica.board is_b.board.states) in
      (λ j. audit.Apart (size j) (size_other j))
      ∙ ap (λ t. with_tests true true t) (sym (ne_eqb (length_in one) (length_in other) (λ e. differ (size ∙ e ∙ sym size_other))))
      ∙ ap (λ t. with_tests true t (length_in one == length_in other)) (sym (eq-eqb (undone_in other) 0 (undone_other ∙ also)))
      ∙ ap (λ t. with_tests t (undone_in other == 0) (length_in one == length_in other)) (sym (eq-eqb (undone_in one) 0 (undone_one ∙ idle)))

  pub same_length : (size : ℕ) → unfinished_of first.replica.board ≡ 0 → unfinished_of second.replica.board ≡ 0 → size ≡ length_of first.replica.board
      → length_of first.replica.board ≡ length_of second.replica.board → books_after bank size ≡ audit_result bank a b one other
  same_length size idle also is alike =
      let size_is : size ≡ length_in one = is ∙ sym (length_stages first.replica.board is_a.board.states) in
      let same : length_in one ≡ length_in other =
      length_stages first.replica.board is_a.board.states ∙ alike ∙ sym (length_stages second.replica.board is_b.board.states) in
      ap (books_after bank) size_is
      ∙ ap (λ t. with_tests true true t) (sym (eq-eqb (length_in one) (length_in other) same))
      ∙ ap (λ t. with_tests true t (length_in one == length_in other)) (sym (eq-eqb (undone_in other) 0 (undone_other ∙ also)))
      ∙ ap (λ t. with_tests t (undone_in other == 0) (length_in one == length_in other)) (sym (eq-eqb (undone_in one) 0 (undone_one ∙ idle)))

-- two idle replicas of one length are compared with the books
pub adds_books : (now : WorldOf) (a b : ℕ) (first second : Node) → LookedUp now a first → LookedUp now b second → unfinished_of first.replica.board ≡ 0
    → unfinished_of second.replica.board ≡ 0 → length_of first.replica.board ≡ length_of second.replica.board
    → may_take_memory (audit_if (bank_of now) a b (slice_get now.nodes a) (slice_get now.nodes b)) ≡ true
adds_books now a b first second look_a look_b idle also alike =
    (λ j. may_take_memory (audit_if (bank_of now) a b (look_a.seen j) (look_b.seen j)))
    ∙ ap adds_up (sym (same_length (bank_of now) a b first second look_a.consistent look_b.consistent (length_of first.replica.board) idle also refl alike))

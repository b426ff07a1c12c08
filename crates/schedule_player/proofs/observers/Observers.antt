-- What is seen of a world, compared with its log.
use Rattle.std.proofs.Common.{◌≡◌, ◌≢◌, ◌≤◌, true, false, ℕ, Option, Some, None, length, refl, sym, ap, subst, ◌∙◌, arith}
use Rattle.std.specs.Prelude.{slice_get, option_and_then, option_map, ◌==◌, IfSome, MatchOption}
use Rattle.std.proofs.lemmas.Bool.{eq-eqb, ne_eqb, eqb-true}
use Rattle.cown_board.specs.Board.{length_of, unfinished_of, reply_in, IsAfterAll}
use Rattle.sb_calls.specs.Behaviour.{declared_cowns, effect_of}
use Rattle.sb_calls.specs.Cowns.{contents_of}
use Rattle.sb_calls.specs.Op.{op_of}
use Rattle.sb_calls.specs.declared.reply.Reply.{Reply}
use Rattle.sb_rows.specs.Balances.{Balances, IsBalances}
use Rattle.schedule_player.specs.Bank.{BankOf, log_reply}
use Rattle.schedule_player.specs.Books.{IsRowsAt}
use Rattle.schedule_player.specs.MachineView.{ops_of}
use Rattle.schedule_player.specs.inner.NodeInvariant.{machine_node}
use Rattle.schedule_player.specs.OneBased.{nth_item}
use Rattle.schedule_player.specs.Observers.{length_at, idle_if, idle_at, reply_at_replica}
use Rattle.schedule_player.specs.ReplicaMoves.{NodeOf, length_in, reply_in_node, undone_in}
use Rattle.schedule_player.specs.World.{WorldOf, bank_of}
use Rattle.schedule_player.specs.declared.node.Node.{Node}
use Rattle.schedule_player.proofs.observers.Books.{idle_rows}
use Rattle.schedule_player.proofs.observers.AuditResults.{LookedUp}
use Rattle.cown_board.proofs.LogLaws.{no_some as none_some}
use Rattle.cown_board.proofs.LogLaws.{injective as some_is}
use Rattle.schedule_player.proofs.boards.Stages.{length-map, undone_in_stages, length_stages}
use Rattle.schedule_player.proofs.boards.BoardReplies.{within_log}
use Rattle.schedule_player.proofs.logs.LongerLogs.{IsBeginningOf, reply_begun, rows_begun}
use Rattle.schedule_player.proofs.entries.FrameSteps.{reply_seen, held_by_log}

-- a reply that is held is the log's
pub held_is_logged : (world : WorldOf) (r n : ℕ) (reply : Reply) → reply_at_replica world r n ≡ Some reply → log_reply (bank_of world) n ≡ Some reply
held_is_logged world r n reply held = by (slice_get world.nodes r) held
  where
    by : (found : Option NodeOf) → option_and_then (λ node. reply_in_node (bank_of world) node n) found ≡ Some reply → log_reply (bank_of world) n ≡ Some reply
    by None none = absurd (none_some none)
    by (Some node) some = held_by_log (bank_of world) n (nth_item node.stages n) reply some

pub observed_reply : (world : WorldOf) (r n : ℕ) (answer : Option Reply) (bank : BankOf) → answer ≡ reply_at_replica world r n
    → IsBeginningOf (bank_of world) bank
    → IfSome answer (λ reply. log_reply bank n ≡ Some reply)
observed_reply world r n None bank is same = tt
observed_reply world r n (Some reply) bank is begins =
    reply_begun (bank_of world) bank n reply begins (held_is_logged world r n reply (sym is))

module _ (world : WorldOf) (r : ℕ) (node : Node) (found : LookedUp world r node) where
  pub reply_here : (n : ℕ) (answer : Option Reply) → answer ≡ reply_in node.replica.board n → answer ≡ reply_at_replica world r n
  reply_here n answer is =
      is ∙ reply_seen (bank_of world) r node n found.consistent
      ∙ sym (ap (option_and_then (λ seen. reply_in_node (bank_of world) seen n)) found.seen)

  pub length_here : (size : ℕ) → size ≡ length_of node.replica.board → length_at world r ≡ Some size
  length_here size is =
      ap (option_map length_in) found.seen
      ∙ ap (λ n. Some n) (length_stages node.replica.board found.consistent.board.states ∙ sym is)

  length_fits : length_of node.replica.board ≤ length (bank_of world).calls
  length_fits =
      let fits = within_log (contents_of world.opening) (ops_of (bank_of world)) node.replica.board found.consistent.board in
      let ops = length-map (op_of world.names) (bank_of world).calls in
      omega (arith, fits, ops)

  undone : undone_in (machine_node node) ≡ unfinished_of node.replica.board
  undone = undone_in_stages node.replica.board

  idle_is : idle_at world r ≡ (undone_in (machine_node node) == 0)
  idle_is = ap idle_if found.seen

  pub is_idle : unfinished_of node.replica.board ≡ 0 → idle_at world r ≡ true
  is_idle idle = idle_is ∙ eq-eqb (undone_in (machine_node node)) 0 (undone ∙ idle)

  pub is_busy : unfinished_of node.replica.board ≢ 0 → idle_at world r ≡ false
  is_busy busy = idle_is ∙ ne_eqb (undone_in (machine_node node)) 0 (λ e. busy (sym undone ∙ e))

  pub was_idle : idle_at world r ≡ true → unfinished_of node.replica.board ≡ 0
  was_idle idle = sym undone ∙ eqb-true (undone_in (machine_node node)) 0 (sym idle_is ∙ idle)

  -- columns that are borrowed
  pub lent_idle : {A : Type 0} (P : A → Type 0) (answer : Option A)
      → MatchOption answer (unfinished_of node.replica.board ≢ 0) (λ x. (unfinished_of node.replica.board ≡ 0) × P x)
      → MatchOption answer (idle_at world r ≡ false) (λ x. idle_at world r ≡ true)
  lent_idle P None busy = is_busy busy
  lent_idle P (Some x) idle = is_idle idle.0

  pub lent_rows : {A : Type 0} (columns : A → Balances) (answer : Option A) (bank : BankOf)
      → MatchOption answer (unfinished_of node.replica.board ≢ 0)
      (λ x. (unfinished_of node.replica.board ≡ 0) × IsAfterAll declared_cowns effect_of node.replica.board (columns x))
      → IfSome answer (λ x. IsBalances (columns x)) → IsBeginningOf (bank_of world) bank
      → IfSome answer (λ x. (size : ℕ) → length_at world r ≡ Some size → IsRowsAt bank size (columns x))
  lent_rows columns None bank after valid same = tt
  lent_rows columns (Some x) bank after valid begins = λ size is.
      let here : length_of node.replica.board ≡ size = some_is (sym (length_here (length_of node.replica.board) refl) ∙ is) in
      rows_begun (bank_of world) bank size (columns x) begins (subst (λ n. n ≤ length (bank_of world).calls) here length_fits)
      (subst (λ n. IsRowsAt (bank_of world) n (columns x)) here (idle_rows (bank_of world) r node (columns x) found.consistent valid after.1))

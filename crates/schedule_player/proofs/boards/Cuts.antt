-- A board with a cut, and what a mark of it covers.
use Rattle.std.proofs.Common.{◌≡◌, ℕ, ◌+◌, ◌-◌, ◌≤◌, ℤ, Option, Some, None, List, ◌++◌, length, map, take, drop, replicate, refl, sym, ap, ◌∙◌, arith}
use Rattle.std.specs.Prelude.{slice_get, count_by, if◌then◌else◌, ◌==◌}
use Rattle.std.proofs.Math.Seq.{take-append-add}
use Rattle.std.proofs.lemmas.List.{length-replicate, length-take-le, take-append-drop, take-map}
use Rattle.std.proofs.lemmas.Option.{slice_get_within}
use Rattle.cown_board.proofs.CutInvariant.{slice_get-take}
use Rattle.cown_board.specs.Board.{BoardOf, length_of, unfinished_of}
use Rattle.cown_board.specs.declared.state.State.TheVariants.{Finished}
use Rattle.sb_calls.specs.declared.op.Op.{Op}
use Rattle.sb_checkpoint.specs.declared.memory_store.How.{How}
use Rattle.sb_replica.proofs.MarkedReplies.{length_up_to}
use Rattle.sb_replica.specs.Marking.{up_to, up_to_cut}
use Rattle.schedule_player.specs.ReplicaOfLog.{IsBoardOfLog}
use Rattle.schedule_player.specs.Bank.{BankOf}
use Rattle.schedule_player.specs.inner.NodeInvariant.{machine_node, IsNodeAt}
use Rattle.schedule_player.specs.ReplicaMoves.{NodeOf, put_move, mark_up_to, mark_move}
use Rattle.schedule_player.specs.MachineView.{stage_of, stages_of}
use Rattle.schedule_player.specs.Stage.{IsDone, is_undone}
use Rattle.schedule_player.specs.declared.node.Node.{Node}
use Rattle.schedule_text.specs.declared.note.Note.{Note}
use Rattle.schedule_text.specs.declared.note.Note.TheVariants as note
use Rattle.schedule_player.proofs.boards.BoardOfLog.{append_assoc}
use Rattle.cown_board.proofs.LogLaws.{no_some as none_some}
use Rattle.cown_board.proofs.LogLaws.{injective as some_is}
use Rattle.schedule_player.proofs.boards.Stages.{length_stages, undone_in_stages}

-- an item in the first part of a list is at the same place in the list
in_beginning : {A : Type 0} (xs : List A) (n k : ℕ) (x : A) → n ≤ length xs → slice_get (take n xs) k ≡ Some x → slice_get xs k ≡ Some x
in_beginning xs n k x le here =
    let size = length-take-le n xs le in
    let within = slice_get_within (take n xs) k x here in
    sym (slice_get-take xs n k (omega (arith, size, within))) ∙ here

module _ (opening : List ℤ) (log : List Op) where
  -- a cut is made at the length, or removed
  pub along_cut : (board : BoardOf Op) → IsBoardOfLog opening log board
      → IsBoardOfLog opening log (record board { cut = Some (length_of board) })
  along_cut board consistent = record {
    before = consistent.before;
    later = consistent.later;
    log_is = consistent.log_is;
    base = consistent.base;
    opening_is = consistent.opening_is;
    base_replies = consistent.base_replies;
    states = consistent.states;
    finished = consistent.finished;
    cut = λ number is. let same : length_of board ≡ number = some_is is in (omega (arith, same), omega (arith, same));
  }

  pub along_uncut : (board : BoardOf Op) → IsBoardOfLog opening log board → IsBoardOfLog opening log (record board { cut = None })
  along_uncut board consistent = record {
    before = consistent.before;
    later = consistent.later;
    log_is = consistent.log_is;
    base = consistent.base;
    opening_is = consistent.opening_is;
    base_replies = consistent.base_replies;
    states = consistent.states;
    finished = consistent.finished;
    cut = λ number is. absurd (none_some is);
  }

  -- the board up to its cut
  up_to_along : (board : BoardOf Op) (number : ℕ) → IsBoardOfLog opening log board → board.cut ≡ Some number
      → IsBoardOfLog opening log (up_to board (Some number))
  up_to_along board number consistent here =
      let places = number - length board.base_replies in
      let within = consistent.cut number here in
      let low = within.0 in
      let high = within.1 in
      let beside = consistent.states in
      let log_size = length-take-le places board.log (omega (arith, low, high)) in
      let fits : places ≤ length board.states = omega (arith, low, high, beside) in
      let states_size = length-take-le places board.states fits in
      record {
        before = consistent.before;
        later = drop places board.log ++ consistent.later;
        log_is =
            consistent.log_is
            ∙ ap (λ ops. consistent.before ++ (ops ++ consistent.later)) (sym (take-append-drop places board.log))
            ∙ ap (λ ops. consistent.before ++ ops) (sym (append_assoc (take places board.log) (drop places board.log) consistent.later));
        base = consistent.base;
        opening_is = consistent.opening_is;
        base_replies = consistent.base_replies;
        states = log_size ∙ sym states_size;
        finished = λ k reply at. consistent.finished k reply (in_beginning board.states places k (Finished reply) fits at);
        cut = λ other is.
            let same : number ≡ other = some_is (sym here ∙ is) in
            (omega (arith, low, same), omega (arith, low, high, log_size, same));
      }

  to_along : (board : BoardOf Op) (cut : Option ℕ) → board.cut ≡ cut → IsBoardOfLog opening log board → IsBoardOfLog opening log (up_to board cut)
  to_along board None here consistent = consistent
  to_along board (Some number) here consistent = up_to_along board number consistent here

  -- what a mark covers
  pub marked_along : (board : BoardOf Op) → IsBoardOfLog opening log board → IsBoardOfLog opening log (up_to_cut board)
  marked_along board consistent = to_along board board.cut refl consistent

-- ---- as the machine sees it

-- the first stages are those of the board up to there
stages_up_to : (board : BoardOf Op) (number : ℕ) → length board.base_replies ≤ number
    → take number (stages_of board) ≡ stages_of (up_to board (Some number))
stages_up_to board number low =
    let places = number - length board.base_replies in
    let done = replicate (length board.base_replies) IsDone in
    let size = length-replicate (length board.base_replies) IsDone in
    let split : number ≡ length done + places = omega (arith, low, size) in
    ap (λ n. take n (stages_of board)) split
    ∙ take-append-add done (map stage_of board.states) places
    ∙ ap (λ stages. done ++ stages) (take-map stage_of places board.states)

-- a mark of what is on a board
abbrev pub mark_of : NodeOf → BoardOf Op → How → NodeOf × Note
mark_of node board end = if unfinished_of board == 0 then put_move node (length_of board) end else (node, note.Unfinished)

marks_to : (bank : BankOf) (r : ℕ) (node : Node) (end : How) (cut : Option ℕ) → node.replica.board.cut ≡ cut → IsNodeAt bank r node
    → mark_up_to (machine_node node) end cut ≡ mark_of (machine_node node) (up_to node.replica.board cut) end
marks_to bank r node end None here is =
    let board = node.replica.board in
    let seen = machine_node node in
    ap (λ undone. if undone == 0 then put_move seen (length (stages_of board)) end else (seen, note.Unfinished)) (undone_in_stages board)
    ∙ ap (λ size. if unfinished_of board == 0 then put_move seen size end else (seen, note.Unfinished)) (length_stages board is.board.states)
marks_to bank r node end (Some number) here is =
    let board = node.replica.board in
    let seen = machine_node node in
    let within = is.board.cut number here in
    ap (λ stages. if count_by is_undone stages == 0 then put_move seen number end else (seen, note.Unfinished)) (stages_up_to board number within.0)
    ∙ ap (λ undone. if undone == 0 then put_move seen number end else (seen, note.Unfinished)) (undone_in_stages (up_to board (Some number)))
    ∙ ap (λ size. if unfinished_of (up_to board (Some number)) == 0 then put_move seen size end else (seen, note.Unfinished))
    (sym (length_up_to board number within.0 within.1))

-- the machine's mark is the replica's
pub marks_as : (bank : BankOf) (r : ℕ) (node : Node) (end : How) → IsNodeAt bank r node
    → mark_move (machine_node node) end ≡ mark_of (machine_node node) (up_to_cut node.replica.board) end
marks_as bank r node end is = marks_to bank r node end node.replica.board.cut refl is

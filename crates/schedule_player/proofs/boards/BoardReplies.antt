-- The replies of a board that is consistent with the log, and the checkpoint of an idle one.
use Rattle.std.proofs.Common.{◌≡◌, ◌⊎◌, inl, inr, ℕ, zero, suc, ◌+◌, ◌-◌, ◌<◌, ◌≤◌, ℤ, false, Option, Some, None, List, ◌++◌, length, get_or, refl, sym, ap, ◌∙◌, arith}
use Rattle.std.specs.Prelude.{slice_get, option_map, option_and_then, if◌then◌else◌, nat_le, ◌==◌}
use Rattle.std.proofs.lemmas.Bool.{cases_lt, lt-leb, le-leb, ne_eqb}
use Rattle.std.proofs.lemmas.List.{length-append}
use Rattle.std.proofs.lemmas.Option.{slice_get_cases}
use Rattle.std.proofs.Math.Seq.{take-length}
use Rattle.cown_board.specs.Board.{BoardOf, length_of, unfinished_of, reply_in, IsAfterAll}
use Rattle.cown_board.specs.State.{finished_reply}
use Rattle.cown_board.specs.declared.state.State.{State}
use Rattle.cown_board.specs.declared.state.State.TheVariants.{Waiting, Out, Finished}
use Rattle.sb_rows.specs.Balances.{Balances}
use Rattle.sb_calls.specs.Behaviour.{declared_cowns, effect_of}
use Rattle.sb_calls.specs.Cowns.{contents_of}
use Rattle.sb_calls.specs.SerialRun.{contents_after, contents_after_first, reply_by_log}
use Rattle.sb_calls.specs.declared.op.Op.{Op}
use Rattle.sb_calls.specs.declared.reply.Reply.{Reply}
use Rattle.sb_replica.proofs.IdleReplies.{reply_at, length_held}
use Rattle.sb_replica.specs.Replica.{board_replies}
use Rattle.schedule_player.specs.ReplicaOfLog.{AreReplies, IsBoardOfLog, IsCheckpointOfLog}
use Rattle.schedule_player.specs.OneBased.{nth_item}
use Rattle.schedule_player.specs.MachineView.{stage_of, stages_of}
use Rattle.schedule_player.specs.Stage.{Stage, Waits, IsOut, IsDone}
use Rattle.schedule_player.proofs.boards.BoardOfLog.{held_alike}
use Rattle.cown_board.proofs.LogLaws.{no_some as none_some}
use Rattle.schedule_player.proofs.boards.Stages.{stage_before, stage_at}

-- the reply if the entry is done
abbrev pub reply_if_done : Option Reply → Option Stage → Option Reply
reply_if_done reply (Some IsDone) = reply
reply_if_done reply (Some IsOut) = None
reply_if_done reply (Some Waits) = None
reply_if_done reply None = None

module _ (opening : List ℤ) (log : List Op) where
  -- the reply that the log gives a number that is done
  abbrev seen_reply : BoardOf Op → ℕ → Option Reply
  seen_reply board number =
      reply_if_done (reply_by_log declared_cowns effect_of opening log number) (nth_item (stages_of board) number)

  in_place : (board : BoardOf Op) (k : ℕ) → length board.base_replies ≤ k → (state : Option State)
      → slice_get board.states (k - length board.base_replies) ≡ state
      → ((reply : Reply) → state ≡ Some (Finished reply) → reply_by_log declared_cowns effect_of opening log (suc k) ≡ Some reply)
      → option_and_then finished_reply state
      ≡ reply_if_done (reply_by_log declared_cowns effect_of opening log (suc k)) (option_map stage_of state)
  in_place board k le None is by_log = refl
  in_place board k le (Some Waiting) is by_log = refl
  in_place board k le (Some Out) is by_log = refl
  in_place board k le (Some (Finished reply)) is by_log = sym (by_log reply refl)

  earlier_reply : (board : BoardOf Op) (k : ℕ) → k < length board.base_replies → AreReplies opening log board.base_replies
      → slice_get board.base_replies k ≡ reply_by_log declared_cowns effect_of opening log (suc k)
  earlier_reply board k lt are = by (slice_get_cases board.base_replies k).1
    where
      by : (((x : Reply) × (k < length board.base_replies) × (slice_get board.base_replies k ≡ Some x) × (get_or board.base_replies k x ≡ x))
          ⊎ ((length board.base_replies ≤ k) × (slice_get board.base_replies k ≡ None)))
          → slice_get board.base_replies k ≡ reply_by_log declared_cowns effect_of opening log (suc k)
      by (inl found) = found.2 ∙ sym (are k found.0 found.2)
      by (inr past) = absurd (omega (arith, lt, past.0))

  pub reply_as_seen : (board : BoardOf Op) (number : ℕ) → IsBoardOfLog opening log board → reply_in board number ≡ seen_reply board number
  unfolding reply_in
  reply_as_seen board zero consistent = refl
  reply_as_seen board (suc k) consistent =
      let base_replies = board.base_replies in
      let pred : suc k - 1 ≡ k = omega arith in
      let differs : (suc k == 0) ≡ false = ne_eqb (suc k) 0 (λ same. omega (arith, same)) in
      ap (λ b. if b then None else (if nat_le (suc k) (length base_replies) then slice_get base_replies (suc k - 1)
      else option_and_then finished_reply (slice_get board.states (suc k - 1 - length base_replies)))) differs
      ∙ elim (cases_lt k (length base_replies)) [
        | inl lt ↦
            ap (λ b. if b then slice_get base_replies (suc k - 1)
            else option_and_then finished_reply (slice_get board.states (suc k - 1 - length base_replies)))
            (le-leb (suc k) (length base_replies) (omega (arith, lt)))
            ∙ ap (slice_get base_replies) pred ∙ earlier_reply board k lt consistent.base_replies
            ∙ ap (reply_if_done (reply_by_log declared_cowns effect_of opening log (suc k))) (sym (stage_before board k lt))
        | inr past ↦
            let place : suc k - 1 - length base_replies ≡ k - length base_replies = omega (arith, pred) in
            let back : length base_replies + (k - length base_replies) ≡ k = omega (arith, past) in
            let base = consistent.base in
            let here : length consistent.before + (k - length base_replies) ≡ k = omega (arith, past, base) in
            ap (λ b. if b then slice_get base_replies (suc k - 1)
            else option_and_then finished_reply (slice_get board.states (suc k - 1 - length base_replies)))
            (lt-leb (suc k) (length base_replies) (omega (arith, past)))
            ∙ ap (λ p. option_and_then finished_reply (slice_get board.states p)) place
            ∙ in_place board k (omega (arith, past)) (slice_get board.states (k - length base_replies)) refl
            (λ reply is. ap (λ n. reply_by_log declared_cowns effect_of opening log (suc n)) (sym here)
            ∙ consistent.finished (k - length base_replies) reply is)
            ∙ ap (reply_if_done (reply_by_log declared_cowns effect_of opening log (suc k)))
            (sym (stage_at board (k - length base_replies)) ∙ ap (slice_get (stages_of board)) back)
      ]

  done_reply : (reply : Option Reply) (stage : Option Stage) (x : Reply) → reply_if_done reply stage ≡ Some x → reply ≡ Some x
  done_reply reply (Some IsDone) x e = e
  done_reply reply (Some IsOut) x e = absurd (none_some e)
  done_reply reply (Some Waits) x e = absurd (none_some e)
  done_reply reply None x e = absurd (none_some e)

  -- what is replied is the log's reply
  pub replied_by_log : (board : BoardOf Op) (number : ℕ) (reply : Reply) → IsBoardOfLog opening log board
      → reply_in board number ≡ Some reply → reply_by_log declared_cowns effect_of opening log number ≡ Some reply
  replied_by_log board number reply consistent e =
      done_reply (reply_by_log declared_cowns effect_of opening log number) (nth_item (stages_of board) number) reply
      (sym (reply_as_seen board number consistent) ∙ e)

  pub within_log : (board : BoardOf Op) → IsBoardOfLog opening log board → length_of board ≤ length log
  within_log board consistent =
      let one = ap length consistent.log_is ∙ length-append consistent.before (board.log ++ consistent.later) in
      let other = length-append board.log consistent.later in
      let base = consistent.base in
      omega (arith, one, other, base)

  -- the columns of an idle board are what the log up to its length leaves
  pub columns_along : (board : BoardOf Op) (columns : Balances) → IsBoardOfLog opening log board
      → IsAfterAll declared_cowns effect_of board columns
      → contents_of columns ≡ contents_after_first declared_cowns effect_of opening log (length_of board)
  columns_along board columns consistent after =
      after
      ∙ ap (contents_after declared_cowns effect_of (contents_of board.opening)) (sym (take-length board.log))
      ∙ held_alike opening log board consistent (length board.log) (omega arith)
      ∙ ap (λ n. contents_after_first declared_cowns effect_of opening log (n + length board.log)) consistent.base

  -- with all replies, they are a checkpoint along the log
  pub checkpoint_along : (board : BoardOf Op) (columns : Balances) → IsBoardOfLog opening log board → unfinished_of board ≡ 0
      → IsAfterAll declared_cowns effect_of board columns
      → IsCheckpointOfLog opening log (record { columns = columns; replies = board_replies board })
  checkpoint_along board columns consistent idle after =
      let size = length_held board idle consistent.states in
      let within = within_log board consistent in
      record {
        within = omega (arith, size, within);
        columns = columns_along board columns consistent after ∙ ap (contents_after_first declared_cowns effect_of opening log) (sym size);
        replies = λ k reply here.
            let next : k + 1 ≡ suc k = omega arith in
            replied_by_log board (suc k) reply consistent (ap (reply_in board) (sym next) ∙ reply_at board k idle ∙ here);
      }

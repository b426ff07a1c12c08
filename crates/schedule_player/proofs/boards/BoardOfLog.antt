-- What keeps a board consistent with the log.
use Rattle.std.proofs.Common.{◌≡◌, inl, inr, ℕ, zero, suc, ◌+◌, ◌<◌, ◌≤◌, ℤ, Some, List, [], ◌∷◌, ◌++◌, length, take, drop, refl, sym, ap, subst, ◌∙◌, arith}
use Rattle.std.specs.Prelude.{slice_get, slice_set}
use Rattle.std.proofs.lemmas.Bool.{cases_eq}
use Rattle.std.proofs.lemmas.List.{take-append-drop, length-append, length-set, length-take-le}
use Rattle.std.proofs.lemmas.Option.{slice_get_within}
use Rattle.cown_board.proofs.PositionLaws.{slice_get-left, slice_get-right}
use Rattle.cown_board.proofs.StateChanges.{slice_get-set_same, slice_get-set_other}
use Rattle.cown_board.specs.Board.{BoardOf, length_of, behaviour_number, IsOutAt, Takes, Finishes}
use Rattle.cown_board.specs.Job.{JobOf, DoneOf}
use Rattle.cown_board.specs.BoardCalls.{board_at_opening}
use Rattle.cown_board.specs.declared.state.State.{State}
use Rattle.cown_board.specs.declared.state.State.TheVariants.{Waiting, Out, Finished}
use Rattle.sb_rows.specs.Balances.{Balances}
use Rattle.sb_calls.specs.Behaviour.{declared_cowns, effect_of}
use Rattle.sb_calls.specs.Cowns.{contents_of}
use Rattle.sb_calls.specs.SerialRun.{inputs_of, contents_after_first, reply_by_log}
use Rattle.sb_calls.specs.declared.op.Op.{Op}
use Rattle.sb_calls.specs.declared.reply.Reply.{Reply}
use Rattle.sb_checkpoint.specs.Checkpoint.{CheckpointOf}
use Rattle.sb_replica.specs.Offers.{board_with_entry}
use Rattle.schedule_player.specs.ReplicaOfLog.{AreReplies, IsBoardOfLog, IsCheckpointOfLog}
use Rattle.schedule_player.specs.inner.JobOfLog.{IsJobOfLog}
use Rattle.cown_board.proofs.LogLaws.{no_some as none_some}
use Rattle.cown_board.proofs.LogLaws.{injective as some_is}
use Rattle.schedule_player.proofs.boards.LogParts.{held_in_part, reply_in_part, at_in_part, held_longer, reply_longer}

waiting_finished : {reply : Reply} → ◌≡◌ {A = State} Waiting (Finished reply) → ⊥
waiting_finished h = cc

out_finished : {reply : Reply} → ◌≡◌ {A = State} Out (Finished reply) → ⊥
out_finished h = cc

finished_is : {one other : Reply} → ◌≡◌ {A = State} (Finished one) (Finished other) → one ≡ other
finished_is h = cc

-- a list with something in front of it
split_first : {A : Type 0} (xs : List A) (x : A) → slice_get xs 0 ≡ Some x → xs ≡ x ∷ drop 1 xs
split_first [] x here = absurd (none_some here)
split_first (y ∷ xs) x here = ap (λ z. z ∷ xs) (some_is here)

pub append_assoc : {A : Type 0} (xs ys zs : List A) → xs ++ (ys ++ zs) ≡ (xs ++ ys) ++ zs
append_assoc [] ys zs = refl
append_assoc (x ∷ xs) ys zs = ap (λ t. x ∷ t) (append_assoc xs ys zs)

module _ (opening : List ℤ) (log : List Op) where
  -- a board that is opened on a checkpoint
  pub along_opened : (checkpoint : CheckpointOf) → IsCheckpointOfLog opening log checkpoint
      → IsBoardOfLog opening log (board_at_opening checkpoint.columns checkpoint.replies)
  along_opened checkpoint consistent =
      let n = length checkpoint.replies in
      record {
        before = take n log;
        later = drop n log;
        log_is = sym (take-append-drop n log);
        base = length-take-le n log consistent.within;
        opening_is = consistent.columns;
        base_replies = consistent.replies;
        states = refl;
        finished = λ k reply here. absurd (none_some here);
        cut = λ number is. absurd (none_some is);
      }

  -- the next entry is accepted
  pub along_accepted : (board : BoardOf Op) (op : Op) → IsBoardOfLog opening log board
      → slice_get log (length_of board) ≡ Some op → IsBoardOfLog opening log (board_with_entry board op)
  along_accepted board op consistent next =
      let at_base : slice_get (board.log ++ consistent.later) (length board.log) ≡ Some op =
      sym (slice_get-right consistent.before (board.log ++ consistent.later) (length_of board) (length board.log)
      (ap (λ n. n + length board.log) (sym consistent.base)))
      ∙ ap (λ ops. slice_get ops (length_of board)) (sym consistent.log_is) ∙ next in
      let first : slice_get consistent.later 0 ≡ Some op =
      sym (slice_get-right board.log consistent.later (length board.log) 0 (omega arith)) ∙ at_base in
      let split : board.log ++ consistent.later ≡ (board.log ++ op ∷ []) ++ drop 1 consistent.later =
      ap (λ ops. board.log ++ ops) (split_first consistent.later op first) ∙ append_assoc board.log (op ∷ []) (drop 1 consistent.later) in
      record {
        before = consistent.before;
        later = drop 1 consistent.later;
        log_is = consistent.log_is ∙ ap (λ ops. consistent.before ++ ops) split;
        base = consistent.base;
        opening_is = consistent.opening_is;
        base_replies = consistent.base_replies;
        states = length-append board.log (op ∷ []) ∙ ap (λ n. n + 1) consistent.states ∙ sym (length-append board.states (Waiting ∷ []));
        finished = λ k reply here. consistent.finished k reply (pushed board.states k reply here);
        cut = λ number is.
            let within = consistent.cut number is in
            let low = within.0 in
            let high = within.1 in
            let longer = length-append board.log (op ∷ []) in
            (low, omega (arith, high, longer));
      }
    where
      pushed : (states : List State) (k : ℕ) (reply : Reply) → slice_get (states ++ Waiting ∷ []) k ≡ Some (Finished reply)
          → slice_get states k ≡ Some (Finished reply)
      pushed [] zero reply here = absurd (waiting_finished (some_is here))
      pushed [] (suc k) reply here = absurd (none_some here)
      pushed (s ∷ states) zero reply here = here
      pushed (s ∷ states) (suc k) reply here = pushed states k reply here

  -- one entry is at another stage; if it is finished, its reply is the log's
  pub along_set : (board : BoardOf Op) (consistent : IsBoardOfLog opening log board) (place : ℕ) (state : State)
      → ((reply : Reply) → state ≡ Finished reply
      → reply_by_log declared_cowns effect_of opening log (suc (length consistent.before + place)) ≡ Some reply)
      → IsBoardOfLog opening log (record board { states = slice_set board.states place state })
  along_set board consistent place state by_log = record {
    before = consistent.before;
    later = consistent.later;
    log_is = consistent.log_is;
    base = consistent.base;
    opening_is = consistent.opening_is;
    base_replies = consistent.base_replies;
    states = consistent.states ∙ sym (length-set board.states place state);
    finished = λ k reply here. set_at board.states place k reply consistent.finished by_log here;
    cut = consistent.cut;
  }
    where
      set_at : (states : List State) (p k : ℕ) (reply : Reply)
          → ((k : ℕ) (reply : Reply) → slice_get states k ≡ Some (Finished reply)
          → reply_by_log declared_cowns effect_of opening log (suc (length consistent.before + k)) ≡ Some reply)
          → ((reply : Reply) → state ≡ Finished reply
          → reply_by_log declared_cowns effect_of opening log (suc (length consistent.before + p)) ≡ Some reply)
          → slice_get (slice_set states p state) k ≡ Some (Finished reply)
          → reply_by_log declared_cowns effect_of opening log (suc (length consistent.before + k)) ≡ Some reply
      set_at states p k reply finished new here = elim (cases_eq p k) [
        | inl same ↦
            let within : p < length states =
            subst (λ n. n < length states) (sym same)
            (subst (λ n. k < n) (length-set states p state) (slice_get_within (slice_set states p state) k (Finished reply) here)) in
            subst (λ q. reply_by_log declared_cowns effect_of opening log (suc (length consistent.before + q)) ≡ Some reply) same
            (new reply (some_is (sym (slice_get-set_same states p state within) ∙ ap (slice_get (slice_set states p state)) same ∙ here)))
        | inr differs ↦ finished k reply (sym (slice_get-set_other states p k state (λ e. differs (sym e))) ∙ here)
      ]

  -- ---- what a board's own log leaves and replies is the whole log's

  pub held_alike : (board : BoardOf Op) (consistent : IsBoardOfLog opening log board) (k : ℕ) → k ≤ length board.log
      → contents_after_first declared_cowns effect_of (contents_of board.opening) board.log k
      ≡ contents_after_first declared_cowns effect_of opening log (length consistent.before + k)
  held_alike board consistent k within =
      ap (λ held. contents_after_first declared_cowns effect_of held board.log k) consistent.opening_is
      ∙ sym (held_in_part declared_cowns effect_of opening consistent.before board.log consistent.later k within)
      ∙ ap (λ ops. contents_after_first declared_cowns effect_of opening ops (length consistent.before + k)) (sym consistent.log_is)

  pub op_alike : (board : BoardOf Op) (consistent : IsBoardOfLog opening log board) (k : ℕ) → k < length board.log
      → slice_get log (length consistent.before + k) ≡ slice_get board.log k
  op_alike board consistent k within =
      ap (λ ops. slice_get ops (length consistent.before + k)) consistent.log_is
      ∙ at_in_part declared_cowns effect_of consistent.before board.log consistent.later k within

  -- ---- a worker takes and finishes

  pub job_along : (board : BoardOf Op) (index : ℕ) (job : JobOf Op) (new : BoardOf Op) → IsBoardOfLog opening log board
      → Takes declared_cowns effect_of board index job new → IsJobOfLog opening log job
  job_along board index job new consistent takes =
      let within : takes.position < length board.log = slice_get_within board.log takes.position job.behaviour takes.behaviour in
      record {
        place = length consistent.before + takes.position;
        number = takes.number ∙ ap (λ n. suc (n + takes.position)) (sym consistent.base);
        behaviour = op_alike board consistent takes.position within ∙ takes.behaviour;
        inputs =
            takes.inputs
            ∙ ap (λ held. inputs_of declared_cowns effect_of held job.behaviour)
            (held_alike board consistent takes.position (omega (arith, within)));
      }

  pub along_taken : (board : BoardOf Op) (index : ℕ) (job : JobOf Op) (new : BoardOf Op) → IsBoardOfLog opening log board
      → Takes declared_cowns effect_of board index job new → IsBoardOfLog opening log new
  along_taken board index job new consistent takes =
      subst (IsBoardOfLog opening log) (sym takes.out) (along_set board consistent takes.position Out (λ reply e. absurd (out_finished e)))

  pub reply_along : (board : BoardOf Op) (done : DoneOf Op) (reply : Reply) (new : BoardOf Op) → IsBoardOfLog opening log board
      → Finishes declared_cowns effect_of board done reply new
      → reply_by_log declared_cowns effect_of opening log done.number ≡ Some reply
  reply_along board done reply new consistent finishes =
      let within : finishes.position < length board.log = slice_get_within board.log finishes.position done.behaviour finishes.here.behaviour in
      ap (reply_by_log declared_cowns effect_of opening log) (finishes.here.number ∙ ap (λ n. suc (n + finishes.position)) (sym consistent.base))
      ∙ ap (λ ops. reply_by_log declared_cowns effect_of opening ops (suc (length consistent.before + finishes.position))) consistent.log_is
      ∙ reply_in_part declared_cowns effect_of opening consistent.before board.log consistent.later finishes.position within
      ∙ ap (λ held. reply_by_log declared_cowns effect_of held board.log (suc finishes.position)) (sym consistent.opening_is)
      ∙ finishes.by_log

  pub along_finished : (board : BoardOf Op) (done : DoneOf Op) (reply : Reply) (new : BoardOf Op) → IsBoardOfLog opening log board
      → Finishes declared_cowns effect_of board done reply new → IsBoardOfLog opening log new
  along_finished board done reply new consistent finishes =
      let number : done.number ≡ suc (length consistent.before + finishes.position) =
      finishes.here.number ∙ ap (λ n. suc (n + finishes.position)) (sym consistent.base) in
      subst (IsBoardOfLog opening log) (sym finishes.finished)
      (along_set board consistent finishes.position (Finished reply) (λ other e.
      ap (reply_by_log declared_cowns effect_of opening log) (sym number)
      ∙ reply_along board done reply new consistent finishes
      ∙ ap (λ r. Some r) (finished_is e)))

  -- a job of any life, whose number is out on a board along the log, is the job that is out there
  pub out_here : (board : BoardOf Op) (job : JobOf Op) (done : DoneOf Op) (k : ℕ) → IsBoardOfLog opening log board
      → IsJobOfLog opening log job → done.number ≡ job.number → done.behaviour ≡ job.behaviour → done.inputs ≡ job.inputs
      → job.number ≡ behaviour_number board k → slice_get board.states k ≡ Some Out → IsOutAt declared_cowns effect_of board done k
  out_here board job done k consistent is number behaviour inputs here out =
      let within : k < length board.log = subst (λ n. k < n) (sym consistent.states) (slice_get_within board.states k Out out) in
      let place : is.place ≡ length consistent.before + k =
      let a = is.number in let b = here in let c = consistent.base in omega (arith, a, b, c) in
      record {
        number = number ∙ here;
        out = out;
        behaviour =
            sym (op_alike board consistent k within)
            ∙ ap (slice_get log) (sym place) ∙ is.behaviour ∙ ap (λ b. Some b) (sym behaviour);
        inputs =
            inputs ∙ is.inputs
            ∙ ap (λ p. inputs_of declared_cowns effect_of (contents_after_first declared_cowns effect_of opening log p) job.behaviour) place
            ∙ ap (λ held. inputs_of declared_cowns effect_of held job.behaviour) (sym (held_alike board consistent k (omega (arith, within))))
            ∙ ap (inputs_of declared_cowns effect_of (contents_after_first declared_cowns effect_of (contents_of board.opening) board.log k)) (sym behaviour);
      }

  -- ---- the log goes on

  pub replies_longer : (more : List Op) (replies : List Reply) → AreReplies opening log replies → AreReplies opening (log ++ more) replies
  replies_longer more replies are k reply here = reply_longer declared_cowns effect_of opening log more k reply (are k reply here)

  pub board_longer : (more : List Op) (board : BoardOf Op) → IsBoardOfLog opening log board → IsBoardOfLog opening (log ++ more) board
  board_longer more board consistent = record {
    before = consistent.before;
    later = consistent.later ++ more;
    log_is =
        ap (λ ops. ops ++ more) consistent.log_is
        ∙ sym (append_assoc consistent.before (board.log ++ consistent.later) more)
        ∙ ap (λ ops. consistent.before ++ ops) (sym (append_assoc board.log consistent.later more));
    base = consistent.base;
    opening_is = consistent.opening_is;
    base_replies = replies_longer more board.base_replies consistent.base_replies;
    states = consistent.states;
    finished = λ k reply here.
        reply_longer declared_cowns effect_of opening log more (length consistent.before + k) reply (consistent.finished k reply here);
    cut = consistent.cut;
  }

  pub job_longer : (more : List Op) (job : JobOf Op) → IsJobOfLog opening log job → IsJobOfLog opening (log ++ more) job
  job_longer more job consistent =
      let within : consistent.place < length log = slice_get_within log consistent.place job.behaviour consistent.behaviour in
      record {
        place = consistent.place;
        number = consistent.number;
        behaviour = slice_get-left log more consistent.place within ∙ consistent.behaviour;
        inputs =
            consistent.inputs
            ∙ ap (λ held. inputs_of declared_cowns effect_of held job.behaviour)
            (sym (held_longer declared_cowns effect_of opening log more consistent.place (omega (arith, within))));
      }

  pub checkpoint_longer : (more : List Op) (checkpoint : CheckpointOf) → IsCheckpointOfLog opening log checkpoint
      → IsCheckpointOfLog opening (log ++ more) checkpoint
  checkpoint_longer more checkpoint consistent =
      let within = consistent.within in
      let longer = length-append log more in
      record {
        within = omega (arith, within, longer);
        columns = consistent.columns ∙ sym (held_longer declared_cowns effect_of opening log more (length checkpoint.replies) consistent.within);
        replies = replies_longer more checkpoint.replies consistent.replies;
      }

  -- ---- nothing is kept

  pub opening_along : (columns : Balances) → contents_of columns ≡ opening
      → IsCheckpointOfLog opening log (record { columns = columns; replies = [] })
  opening_along columns is =
      record { within = omega arith; columns = is; replies = λ k reply here. absurd (none_some here) }

-- The ops of a log while a node executes them.
use Rattle.std.proofs.Common.{◌≡◌, ℕ, zero, suc, Bool, false, Option, Some, None, Result, Ok, Err, List, [], ◌∷◌, ◌++◌, length, map, sym, ap, subst, ◌∙◌, append_assoc}
use Rattle.std.specs.Prelude.{IfErr, slice_get}
use Rattle.std.proofs.lemmas.List.{length-map, map-append}
use Rattle.sb_calls.specs.declared.ask.Key.{Key}
use Rattle.sb_calls.specs.declared.call.Call.{Call}
use Rattle.sb_calls.specs.Op.{op_of}
use Rattle.sb_calls.specs.declared.op.Op.{Op}
use Rattle.cown_board.specs.Board.{BoardOf}
use Rattle.cown_workers.specs.Draining.{HasNoneOut, PreservesLog}
use Rattle.cown_workers.specs.declared.crew_fault.CrewFault.{CrewFault}
use Rattle.cown_workers.specs.declared.crew_fault.CrewFault.TheVariants as crew
use Rattle.sb_replica.specs.Replica.{ReplicaOf, RestOf, rest_of}
use Rattle.sb_rows.specs.Balances.{Balances}
use Rattle.sb_rows.specs.Rows.{SameCustomers}
use Rattle.sb_sequencer.specs.Numbering.{IsLog, call_of_number, calls_of}
use Rattle.sb_ask_log.specs.Keeping.{KeeperModel}
use Rattle.bank_server.specs.Faults.{IsExecutionFault}
use Rattle.bank_server.specs.Primary.{HasPrefixOf, log_ops}
use Rattle.bank_server.specs.inner.Appends.{AppendsOps}
use Rattle.bank_server.specs.inner.KeptPrimary.{IsKeptPrimary}
use Rattle.bank_server.specs.SessionFaults.{LosesCrew, LosesLog, as_session, session_of_crew_fault}
use Rattle.bank_server.specs.declared.node0.ask_counts.AskCounts.{AskCounts}

some_is : {A : Type 0} {x y : A} → ◌≡◌ {A = Option A} (Some x) (Some y) → x ≡ y
some_is h = cc

none_is_some : {A : Type 0} {x : A} → ◌≡◌ {A = Option A} None (Some x) → ⊥
none_is_some h = cc

-- a fault after steps that ended well is a fault of all of them
pub fault_behind : (keeps : Bool) (old mid : BoardOf Op) (fault : CrewFault) → (keeps ≡ false → HasNoneOut old → HasNoneOut mid)
    → IsExecutionFault keeps mid fault → IsExecutionFault keeps old fault
fault_behind keeps old mid crew.CrewGone none is = λ e out. is e (none e out)
fault_behind keeps old mid crew.OutOfMemory none is = tt

-- and so it ends a session
pub loses_crew : (keeps : Bool) (board : BoardOf Op) (fault : CrewFault) → IsExecutionFault keeps board fault
    → LosesCrew keeps board (session_of_crew_fault fault)
loses_crew keeps board crew.CrewGone is = is
loses_crew keeps board crew.OutOfMemory is = tt

pub loses_no_log : (fails failed : Bool) (fault : CrewFault) → LosesLog fails failed (session_of_crew_fault fault)
loses_no_log fails failed crew.CrewGone = tt
loses_no_log fails failed crew.OutOfMemory = tt

-- the same of a result
pub result_loses_crew : {T : Type 0} (keeps : Bool) (board : BoardOf Op) (result : Result T CrewFault) → IfErr result (IsExecutionFault keeps board)
    → IfErr (as_session session_of_crew_fault result) (LosesCrew keeps board)
result_loses_crew keeps board (Ok value) is = tt
result_loses_crew keeps board (Err fault) is = loses_crew keeps board fault is

pub result_loses_no_log : {T : Type 0} (fails failed : Bool) (result : Result T CrewFault)
    → IfErr (as_session session_of_crew_fault result) (LosesLog fails failed)
result_loses_no_log fails failed (Ok value) = tt
result_loses_no_log fails failed (Err fault) = loses_no_log fails failed fault

-- ---- the next op

pub op_here : (f : Call → Op) (log : List (Key × Call)) (k : ℕ) (call : Call) → call_of_number log (suc k) ≡ Some call
    → slice_get (map f (calls_of log)) k ≡ Some (f call)
op_here f [] k call h = absurd (none_is_some h)
op_here f (entry ∷ log) zero call h = ap (λ c. Some (f c)) (some_is h)
op_here f (entry ∷ log) (suc k) call h = op_here f log k call h

next_is : {A : Type 0} (xs rest : List A) (x : A) → slice_get (xs ++ rest) (length xs) ≡ Some x → (behind : List A) × (rest ≡ x ∷ behind)
next_is [] [] x h = absurd (none_is_some h)
next_is [] (y ∷ rest) x h = (rest, ap (λ z. z ∷ rest) (some_is h))
next_is (y ∷ xs) rest x h = next_is xs rest x h

-- a beginning with the next op is a beginning too
pub one_more_op : (ops log rest : List Op) (op : Op) → ops ≡ log ++ rest → slice_get ops (length log) ≡ Some op
    → (behind : List Op) × (ops ≡ (log ++ op ∷ []) ++ behind)
one_more_op ops log rest op is at =
    let next = next_is log rest op (ap (λ l. slice_get l (length log)) (sym is) ∙ at) in
    (next.0, is ∙ ap (λ l. log ++ l) next.1 ∙ sym (append_assoc log (op ∷ []) next.0))

-- as many ops as calls
pub length-ops : (f : Call → Op) (log : List (Key × Call)) → length (map f (calls_of log)) ≡ length log
length-ops f log = length-map (calls_of log) f ∙ length-map log (λ entry. entry.1)

-- the ops of a longer log
pub ops_of_longer : (names : List (List ℕ)) (old new more : List (Key × Call)) → new ≡ old ++ more
    → log_ops names new ≡ log_ops names old ++ log_ops names more
ops_of_longer names old new more longer =
    ap (log_ops names) longer ∙ ap (map (op_of names)) (map-append (λ (entry : Key × Call). entry.1) old more)
    ∙ map-append (op_of names) (calls_of old) (calls_of more)

-- ---- node 0, while its log grows

-- it has a beginning of a longer log too
pub kept_by_more : {S K : Type 0} (model : KeeperModel K) (old new more : List (Key × Call)) (counts now : AskCounts) (keeper : K)
    (node : ReplicaOf S)
    → IsKeptPrimary model (record { log = old; counts = counts; node = node; keeper = keeper }) → IsLog new → new ≡ old ++ more
    → IsKeptPrimary model (record { log = new; counts = now; node = node; keeper = keeper })
kept_by_more model old new more counts now keeper node kept valid longer =
    let behind = kept.valid.behind in
    let added = log_ops node.names more in
    record {
      valid = record {
        log = valid;
        customers = kept.valid.customers;
        behind = record {
          base_replies = behind.base_replies;
          uncut = behind.uncut;
          begins = (
            behind.begins.0 ++ added,
            ops_of_longer node.names old new more longer ∙ ap (λ (l : List Op). l ++ added) behind.begins.1 ∙ append_assoc node.board.log behind.begins.0 added,
          );
        };
      };
      begins = (
        kept.begins.0,
        kept.begins.1,
        kept.begins.2 ++ more,
        longer ∙ ap (λ (l : List (Key × Call)). l ++ more) kept.begins.3 ∙ append_assoc kept.begins.0 kept.begins.2 more,
      );
    }

-- ---- node 0, one op later

module _ {S K : Type 0} (model : KeeperModel K) (log : List (Key × Call)) (counts : AskCounts) (keeper : K) (old new : ReplicaOf S)
    (kept : IsKeptPrimary model (record { log = log; counts = counts; node = old; keeper = keeper })) (same : rest_of new ≡ rest_of old) where
  names_same : new.names ≡ old.names
  names_same = ap (λ (r : RestOf S). r.names) same

  with_board : new.board.opening ≡ old.board.opening → HasPrefixOf (log_ops old.names log) new.board
      → IsKeptPrimary model (record { log = log; counts = counts; node = new; keeper = keeper })
  with_board opening behind = record {
    valid = record {
      log = kept.valid.log;
      customers = subst (λ (ns : List (List ℕ)). SameCustomers ns new.board.opening) (sym names_same)
          (subst (λ (b : Balances). SameCustomers old.names b) (sym opening) kept.valid.customers);
      behind = subst (λ (ns : List (List ℕ)). HasPrefixOf (log_ops ns log) new.board) (sym names_same) behind;
    };
    begins = kept.begins;
  }

  -- it has put the next op
  pub kept_by_one : (op : Op) → AppendsOps (op ∷ []) old.board new.board → slice_get (log_ops old.names log) (length old.board.log) ≡ Some op
      → IsKeptPrimary model (record { log = log; counts = counts; node = new; keeper = keeper })
  kept_by_one op put here =
      let behind = kept.valid.behind in
      let more = one_more_op (log_ops old.names log) old.board.log behind.begins.0 op behind.begins.1 here in
      with_board put.opening (record {
        base_replies = put.base_replies ∙ behind.base_replies;
        uncut = put.cut ∙ behind.uncut;
        begins = (more.0, more.1 ∙ ap (λ (l : List Op). l ++ more.0) (sym put.log));
      })

  -- it has its log still
  pub kept_by_same : PreservesLog old.board new.board → IsKeptPrimary model (record { log = log; counts = counts; node = new; keeper = keeper })
  kept_by_same stays =
      let behind = kept.valid.behind in
      with_board stays.opening (record {
        base_replies = stays.base_replies ∙ behind.base_replies;
        uncut = stays.cut ∙ behind.uncut;
        begins = (behind.begins.0, behind.begins.1 ∙ ap (λ (l : List Op). l ++ behind.begins.0) (sym stays.log));
      })

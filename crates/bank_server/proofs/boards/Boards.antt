-- A log of calls on a board.
use Rattle.std.proofs.Common.{◌≡◌, ◌≢◌, inl, inr, ℕ, zero, suc, ◌+◌, ◌<◌, ◌≤◌, Bool, true, false, Option, Some, None, List, [], ◌∷◌, ◌++◌, length, ◌-◌, map, refl, sym, ap, subst, ◌∙◌, arith}
use Rattle.std.specs.Prelude.{slice_get, option_and_then, ◌==◌, nat_le, if◌then◌else◌, IsSome, IfSome}
use Rattle.std.proofs.lemmas.Bool.{cases_lt, true≢false, lt-leb, ne_eqb}
use Rattle.std.proofs.lemmas.List.{length-map, take_all}
use Rattle.sb_rows.specs.Balances.{Balances, IsBalances}
use Rattle.sb_rows.specs.Rows.{Rows, SameCustomers, rows_of}
use Rattle.sb_calls.proofs.CownColumns.{contents_of-injective}
use Rattle.sb_calls.specs.Behaviour.{declared_cowns, effect_of}
use Rattle.sb_calls.proofs.LogReplies.{slice_get-replies_to}
use Rattle.sb_calls.proofs.SerialRuns.{log_by_cowns}
use Rattle.sb_calls.specs.Cowns.{contents_of}
use Rattle.sb_calls.specs.Log.{replies_to, rows_after}
use Rattle.sb_calls.specs.SerialRun.{reply_by_log, contents_after}
use Rattle.sb_calls.specs.Op.{op_of}
use Rattle.sb_calls.specs.Procedures.{procedure}
use Rattle.sb_calls.specs.declared.ask.Key.{Key}
use Rattle.sb_calls.specs.declared.call.Call.{Call}
use Rattle.sb_calls.specs.declared.op.Op.{Op}
use Rattle.sb_calls.specs.declared.reply.Reply.{Reply}
use Rattle.cown_board.proofs.UnfinishedCounts.{all_finished}
use Rattle.cown_board.specs.Board.{BoardOf, unfinished_of, reply_in, IsAfterAll}
use Rattle.cown_board.specs.State.{is_unfinished, state_is, finished_reply}
use Rattle.cown_board.specs.declared.state.State.{State}
use Rattle.cown_board.specs.declared.state.State.TheVariants.{Waiting, Out, Finished}
use Rattle.cown_workers.specs.Draining.{HasNoneOut, PreservesLog}
use Rattle.sb_replica.specs.Offers.{board_with_entry}
use Rattle.bank_server.specs.inner.Appends.{AppendsOps}
use Rattle.sb_replica.specs.Replica.{ReplicaOf}
use Rattle.sb_sequencer.specs.Numbering.{calls_of}
use Rattle.bank_server.specs.Execution.{IsWholeLog, IsOneByOne, HasReplies}
use Rattle.bank_server.specs.Primary.{RunsLog}

no_out : ◌≡◌ {A = Option State} None (Some Out) → ⊥
no_out h = cc

waits : Option State → Bool
waits None = false
waits (Some Waiting) = true
waits (Some Out) = false
waits (Some (Finished reply)) = false

waits_not_out : ◌≡◌ {A = Option State} (Some Waiting) (Some Out) → true ≡ false
unfolding waits
waits_not_out h = ap waits h

-- if nothing is unfinished nothing is out
pub idle_none_out : (board : BoardOf Op) → unfinished_of board ≡ 0 → HasNoneOut board
idle_none_out board idle k out = true≢false (sym (ap (state_is is_unfinished) out) ∙ all_finished board.states k idle)

-- one more that waits isn't out
pub none_out_more : (states : List State) → ((k : ℕ) → slice_get states k ≢ Some Out) → (k : ℕ) → slice_get (states ++ Waiting ∷ []) k ≢ Some Out
none_out_more [] none zero h = true≢false (waits_not_out h)
none_out_more [] none (suc k) h = absurd (no_out h)
none_out_more (s ∷ states) none zero h = none 0 h
none_out_more (s ∷ states) none (suc k) h = none_out_more states (λ j. none (suc j)) k h

pub put_after : (op : Op) (old new : BoardOf Op) → new ≡ board_with_entry old op → AppendsOps (op ∷ []) old new
put_after op old new is = record {
  opening = ap (λ (b : BoardOf Op). b.opening) is;
  base_replies = ap (λ (b : BoardOf Op). b.base_replies) is;
  log = ap (λ (b : BoardOf Op). b.log) is;
  cut = ap (λ (b : BoardOf Op). b.cut) is;
  none_out = λ none. subst HasNoneOut (sym is) (none_out_more old.states none);
}

-- the same if the unfinished ones were executed in between
pub put_after_run : (op : Op) (old mid new : BoardOf Op) → PreservesLog old mid → HasNoneOut mid → new ≡ board_with_entry mid op → AppendsOps (op ∷ []) old new
put_after_run op old mid new drained none put =
    let made = put_after op mid new put in
    record {
      opening = made.opening ∙ drained.opening;
      base_replies = made.base_replies ∙ drained.base_replies;
      log = made.log ∙ ap (λ l. l ++ op ∷ []) drained.log;
      cut = made.cut ∙ drained.cut;
      none_out = λ before. made.none_out none;
    }

-- ---- the replies

finished_some : (states : List State) (k : ℕ) → k < length states → state_is is_unfinished (slice_get states k) ≡ false
    → IsSome (option_and_then finished_reply (slice_get states k))
finished_some [] k lt closed = absurd (omega (arith, lt))
finished_some (Waiting ∷ states) zero lt closed = absurd (true≢false closed)
finished_some (Out ∷ states) zero lt closed = absurd (true≢false closed)
finished_some (Finished reply ∷ states) zero lt closed = refl
finished_some (s ∷ states) (suc k) lt closed = finished_some states k (omega (arith, lt)) closed

-- the reply to a number is that of the state at its place
reply_at : (board : BoardOf Op) (k : ℕ) → board.base_replies ≡ [] → reply_in board (k + 1) ≡ option_and_then finished_reply (slice_get board.states k)
unfolding reply_in
reply_at board k none =
    let after : (nat_le (k + 1) (length board.base_replies)) ≡ false = lt-leb (k + 1) (length board.base_replies) (omega (arith, ap length none)) in
    let differs : ((k + 1) == 0) ≡ false = ne_eqb (k + 1) 0 (λ same. omega (arith, same)) in
    let at : k + 1 - 1 - length board.base_replies ≡ k = omega (arith, ap length none) in
    ap (λ b. if b then None
    else (if nat_le (k + 1) (length board.base_replies) then slice_get board.base_replies (k + 1 - 1) else option_and_then finished_reply
    (slice_get board.states (k + 1 - 1 - length board.base_replies)))) differs
    ∙ ap (λ b. if b then slice_get board.base_replies (k + 1 - 1)
    else option_and_then finished_reply (slice_get board.states (k + 1 - 1 - length board.base_replies)))
    after
    ∙ ap (λ n. option_and_then finished_reply (slice_get board.states n)) at

-- nothing is beyond the end of a list
pub past : {A : Type 0} (xs : List A) (k : ℕ) → length xs ≤ k → slice_get xs k ≡ None
past [] k le = refl
past (x ∷ xs) zero le = absurd (omega (arith, le))
past (x ∷ xs) (suc k) le = past xs k (omega (arith, le))

-- ---- the whole log

length-replies : (rows : Rows) (calls : List Call) → length (replies_to rows calls) ≡ length calls
length-replies rows [] = refl
length-replies rows (call ∷ calls) = ap suc (length-replies (procedure call rows).rows calls)

pub all_replies : (directory : List (List ℕ)) (b : Balances) (calls : List Call) (board : BoardOf Op) → SameCustomers directory b → board.opening ≡ b
    → board.log ≡ map (op_of directory) calls
    → unfinished_of board ≡ 0 → board.base_replies ≡ [] → HasReplies board (replies_to (rows_of directory b) calls)
all_replies directory b calls board same opening log idle base_replies =
    let run = log_by_cowns directory b calls same in
    let long : length board.log ≡ length calls = ap length log ∙ length-map calls (op_of directory) in
    record {
      idle = idle;
      base_replies = base_replies;
      all = length-replies (rows_of directory b) calls ∙ sym long;
      each = λ k lt. sym (
          ap (λ (opening : Balances). reply_by_log declared_cowns effect_of (contents_of opening) board.log (suc k)) opening
          ∙ ap (λ l. reply_by_log declared_cowns effect_of (contents_of b) l (suc k)) log
          ∙ run.replies (suc k) ∙ sym (slice_get-replies_to (rows_of directory b) calls k));
    }

-- the columns of an idle board are those after the whole log
pub all_rows : (directory : List (List ℕ)) (b c : Balances) (calls : List Call) (board : BoardOf Op) → SameCustomers directory b → IsBalances c
    → board.opening ≡ b → board.log ≡ map (op_of directory) calls
    → IsAfterAll declared_cowns effect_of board c → SameCustomers directory c × (rows_of directory c ≡ rows_after calls (rows_of directory b))
all_rows directory b c calls board same valid opening log after =
    let run = (log_by_cowns directory b calls same).rows (length calls) in
    let held : contents_of c ≡ contents_of run.0 =
    after ∙ ap (λ (o : Balances). contents_after declared_cowns effect_of (contents_of o) board.log) opening
    ∙ ap (contents_after declared_cowns effect_of (contents_of b))
    (log ∙ sym (take_all (length calls) (map (op_of directory) calls) (omega (arith, length-map calls (op_of directory)))))
    ∙ sym run.2 in
    let is : c ≡ run.0 = contents_of-injective c run.0 valid.same run.1.balances.same held in (
      subst (SameCustomers directory) (sym is) run.1,
      ap (rows_of directory) is ∙ run.3 ∙ ap (λ l. rows_after l (rows_of directory b)) (take_all (length calls) calls (omega arith)),
    )

told_here : (board : BoardOf Op) (place : ℕ) (answer : Option Reply) (reply : Reply) → board.base_replies ≡ [] → answer ≡ Some reply
    → IfSome answer (λ r. length board.base_replies < place + 1
    → reply_by_log declared_cowns effect_of (contents_of board.opening) board.log (place + 1 - length board.base_replies) ≡ Some r)
    → Some reply ≡ reply_by_log declared_cowns effect_of (contents_of board.opening) board.log (suc place)
told_here board place answer reply none is told =
    let known = subst (λ (o : Option Reply). IfSome o
    (λ r. length board.base_replies < place + 1
    → reply_by_log declared_cowns effect_of (contents_of board.opening) board.log (place + 1 - length board.base_replies) ≡ Some r)) is told in
    let at : place + 1 - length board.base_replies ≡ suc place = omega (arith, ap length none) in
    sym (known (omega (arith, ap length none))) ∙ ap (reply_by_log declared_cowns effect_of (contents_of board.opening) board.log) at

-- what a board replies is the reply of the log run one by one
pub told_at : (board : BoardOf Op) (replies : List Reply) (place : ℕ) (answer : Option Reply)
    → HasReplies board replies → length board.log ≡ length board.states
    → answer ≡ reply_in board (place + 1)
    → IfSome answer (λ r. length board.base_replies < place + 1
    → reply_by_log declared_cowns effect_of (contents_of board.opening) board.log (place + 1 - length board.base_replies) ≡ Some r)
    → answer ≡ slice_get replies place
told_at board replies place answer tells beside is told = elim (cases_lt place (length board.log)) [
  | inl lt ↦ by answer refl (subst IsSome (sym state)
      (finished_some board.states place (omega (arith, lt, beside)) (all_finished board.states place tells.idle))) lt
  | inr ge ↦ state ∙ ap (option_and_then finished_reply) (past board.states place (omega (arith, ge, beside)))
      ∙ sym (past replies place (omega (arith, ge, tells.all)))
]
  where
    state : answer ≡ option_and_then finished_reply (slice_get board.states place)
    state = is ∙ reply_at board place tells.base_replies

    by : (o : Option Reply) → answer ≡ o → IsSome answer → place < length board.log → answer ≡ slice_get replies place
    by None none some lt = absurd (true≢false (sym (subst IsSome none some)))
    by (Some reply) found some lt = found ∙ told_here board place answer reply tells.base_replies found told ∙ sym (tells.each place lt)

-- an idle board has a reply to each number of its log
pub some_reply : (board : BoardOf Op) (number : ℕ) (answer : Option Reply) → unfinished_of board ≡ 0
    → board.base_replies ≡ [] → length board.log ≡ length board.states
    → 0 < number → number ≤ length board.log → answer ≡ reply_in board number → IsSome answer
some_reply board number answer idle none beside counted few is =
    let place : ℕ = number - 1 in
    let next : number ≡ place + 1 = omega arith in
    let state : answer ≡ option_and_then finished_reply (slice_get board.states place) = is ∙ ap (reply_in board) next ∙ reply_at board place none in
    subst IsSome (sym state) (finished_some board.states place (omega (arith, beside)) (all_finished board.states place idle))

-- and it is that of the log run one by one
pub told_of : (board : BoardOf Op) (replies : List Reply) (number : ℕ) (answer : Option Reply)
    → HasReplies board replies → length board.log ≡ length board.states
    → 0 < number
    → answer ≡ reply_in board number
    → IfSome answer (λ r. length board.base_replies < number
    → reply_by_log declared_cowns effect_of (contents_of board.opening) board.log (number - length board.base_replies) ≡ Some r)
    → answer ≡ slice_get replies (number - 1)
told_of board replies number answer tells beside counted is told =
    let next : number ≡ number - 1 + 1 = omega arith in
    told_at board replies (number - 1) answer tells beside (is ∙ ap (reply_in board) next)
    (subst (λ (n : ℕ). IfSome answer
    (λ r. length board.base_replies < n
    → reply_by_log declared_cowns effect_of (contents_of board.opening) board.log (n - length board.base_replies) ≡ Some r)) next
    told)

-- executed ops are the calls with these ops, run one by one
pub one_by_one : (directory : List (List ℕ)) (b : Balances) (calls : List Call) (ops : List Op) (board : BoardOf Op) → SameCustomers directory b
    → board.opening ≡ b → IsWholeLog ops board → ops ≡ map (op_of directory) calls → IsOneByOne directory calls b board
one_by_one directory b calls ops board same opening carried is = record {
  replies = all_replies directory b calls board same opening (carried.log ∙ is) carried.idle carried.base_replies;
  rows = λ c valid after. all_rows directory b c calls board same valid opening (carried.log ∙ is) after;
}

-- so a node that executed the calls of a log ran it
pub runs_log : {S : Type 0} (old new : ReplicaOf S) (log : List (Key × Call)) (calls : List Call) → calls_of log ≡ calls
    → SameCustomers old.names old.board.opening → new.names ≡ old.names → new.board.opening ≡ old.board.opening
    → IsWholeLog (map (op_of old.names) calls) new.board → RunsLog log old new
runs_log old new log calls same customers names opening carried = record {
  names_are = names;
  opening_is = opening;
  log_is = carried.log ∙ ap (map (op_of old.names)) (sym same);
  one_by_one =
      one_by_one new.names new.board.opening (calls_of log) (map (op_of old.names) calls) new.board
      (subst (λ n. SameCustomers n new.board.opening) (sym names) (subst (SameCustomers old.names) (sym opening) customers))
      refl carried (λ j. map (op_of (sym names j)) (sym same j));
}

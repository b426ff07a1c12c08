-- The turns of node 0, one after another.
use Rattle.std.proofs.Common.{◌≡◌, ℕ, zero, suc, ◌+◌, ◌≤◌, arith, Some, Result, Ok, Err, Option, List, [], ◌∷◌, ◌++◌, append_assoc, append-nil, length, length-append, drop, map, refl, sym, ap, subst, ◌∙◌}
use Rattle.std.specs.Prelude.{MatchResult, OnOk, slice_get}
use Rattle.std.proofs.lemmas.List.{drop-append-le}
use Rattle.std.proofs.lemmas.Option.{slice_get_within}
use Rattle.cown_board.proofs.LogLaws.{no_some as none_some}
use Rattle.cown_board.proofs.LogLaws.{injective as some_is}
use Rattle.cown_board.proofs.PositionLaws.{slice_get-left}
use Rattle.sb_calls.specs.Op.{op_of}
use Rattle.sb_calls.specs.declared.ask.Key.{Key}
use Rattle.sb_calls.specs.declared.call.Call.{Call}
use Rattle.sb_sequencer.specs.Numbering.{call_of_number}
use Rattle.bank_server.specs.Primary.{ExtendsLog, log_ops}
use Rattle.bank_server.proofs.boards.LogOps.{op_here, ops_of_longer}
use Rattle.sb_calls.specs.declared.op.Op.{Op}
use Rattle.cown_board.specs.Board.{BoardOf, length_of}
use Rattle.cown_workers.specs.Draining.{TakesSteps, CrewStep, IsDrained, EndsInVain, PreservesLog}
use Rattle.cown_workers.specs.Draining.{Exchanges as ExchangesAll}
use Rattle.sb_replica.specs.Offers.{offer_answer, after_offer}
use Rattle.sb_replica.specs.Replica.{RestOf, ReplicaOf, log_of, rest_of, with_log}
use Rattle.sb_replica.specs.declared.offered.Offered.{Offered}
use Rattle.bank_server.specs.NodeTurns.{NodeTurn, Offers, Exchanges, OffersNext, TurnsLead, TakesNodeTurn, TakesNodeTurns}
use Rattle.bank_server.specs.inner.Appends.{HasOpsAt}

-- ---- the ops that come next

get_behind : {A : Type 0} (xs : List A) (n k : ℕ) → slice_get (drop n xs) k ≡ slice_get xs (n + k)
get_behind xs zero k = let e : k ≡ 0 + k = omega arith in ap (slice_get xs) e
get_behind [] (suc n) k = refl
get_behind (x ∷ xs) (suc n) k = let e : suc (n + k) ≡ suc n + k = omega arith in get_behind xs n k ∙ ap (slice_get (x ∷ xs)) e

none_left : {A : Type 0} (n : ℕ) → drop {A = A} n [] ≡ []
none_left zero = refl
none_left (suc n) = refl

drop_sum : {A : Type 0} (xs : List A) (n k : ℕ) → drop (n + k) xs ≡ drop k (drop n xs)
drop_sum xs zero k = let e : 0 + k ≡ k = omega arith in ap (λ m. drop m xs) e
drop_sum [] (suc n) k = none_left (suc n + k) ∙ sym (none_left k)
drop_sum (x ∷ xs) (suc n) k = let e : suc n + k ≡ suc (n + k) = omega arith in ap (λ m. drop m (x ∷ xs)) e ∙ drop_sum xs n k

-- one of them
pub op_next : (log ops : List Op) (size k : ℕ) (op : Op) → HasOpsAt log size ops → slice_get ops k ≡ Some op → slice_get log (size + k) ≡ Some op
op_next log ops size k op has here =
    sym (get_behind log size k) ∙ ap (λ xs. slice_get xs k) has.1 ∙ slice_get-left ops has.0 k (slice_get_within ops k op here) ∙ here

-- a part of them
pub part_next : (log ops part behind : List Op) (size done : ℕ) → HasOpsAt log size ops → drop done ops ≡ part ++ behind → done ≤ length ops
    → HasOpsAt log (size + done) part
part_next log ops part behind size done has is few = (
  behind ++ has.0,
  drop_sum log size done ∙ ap (drop done) has.1 ∙ drop-append-le done ops has.0 few ∙ ap (λ xs. xs ++ has.0) is ∙ append_assoc part behind has.0,
)

-- the next one, and those behind it
pub drop_one : {A : Type 0} (xs : List A) (k : ℕ) (x : A) → slice_get xs k ≡ Some x → drop k xs ≡ x ∷ drop (k + 1) xs
drop_one [] k x e = absurd (none_some e)
drop_one (y ∷ xs) zero x e = ap (λ z. z ∷ xs) (some_is e)
drop_one (y ∷ xs) (suc k) x e =
    let next : suc (k + 1) ≡ suc k + 1 = omega arith in
    drop_one xs k x e ∙ ap (λ n. x ∷ drop n (y ∷ xs)) next

-- a log that is as long as its beginning
pub no_rest : (log begins rest : List Op) → log ≡ begins ++ rest → length log ≤ length begins → begins ≡ log
no_rest log begins [] e few = sym (e ∙ append-nil begins)
no_rest log begins (op ∷ rest) e few =
    let size = ap length e in
    let both = length-append begins (op ∷ rest) in
    absurd (omega (arith, size, both, few))

-- a board that nothing came before lacks the call of this number next
pub next_call : (names : List (List ℕ)) (log : List (Key × Call)) (board : BoardOf Op) (call : Call) (number : ℕ) → board.base_replies ≡ []
    → length board.log + 1 ≡ number → call_of_number log number ≡ Some call
    → slice_get (log_ops names log) (length_of board) ≡ Some (op_of names call)
next_call names log board call number none count found =
    let replies = ap length none in
    let size : length_of board ≡ length board.log = omega (arith, replies) in
    let next : suc (length board.log) ≡ number = omega (arith, count) in
    ap (slice_get (log_ops names log)) size ∙ op_here (op_of names) log (length board.log) call (ap (call_of_number log) next ∙ found)

-- whatever the result
pub whatever : {A : Type 0} {T E : Type 0} (result : Result T E) → A → OnOk result A
whatever (Ok value) is = is
whatever (Err fault) is = tt

-- ---- turns

pub same_length : {old new : BoardOf Op} → PreservesLog old new → length_of new ≡ length_of old
same_length kept = λ j. length (kept.base_replies j) + length (kept.log j)

module _ {S : Type 0} (log : List Op) where
  turns_append : (xs ys : List NodeTurn) (a b c : ReplicaOf S) → TakesNodeTurns log a xs b → TakesNodeTurns log b ys c
      → TakesNodeTurns log a (xs ++ ys) c
  turns_append [] ys a b c same taken = subst (λ (r : ReplicaOf S). TakesNodeTurns log r ys c) same taken
  turns_append (x ∷ xs) ys a b c before taken = (before.0, before.1, turns_append xs ys before.0 b c before.2 taken)

  pub goes_on : {a b c : ReplicaOf S} → TurnsLead log a b → TurnsLead log b c → TurnsLead log a c
  goes_on {a} {b} {c} first then = (first.0 ++ then.0, turns_append first.0 then.0 a b c first.1 then.1)

  pub stays_so : {a b : ReplicaOf S} → b ≡ a → TurnsLead log a b
  stays_so same = ([], same)

  -- the op for the next number is offered
  pub offers_next : (old new : ReplicaOf S) (op : Op) (number : ℕ) (answer : Offered) → slice_get log (length_of old.board) ≡ Some op
      → number ≡ suc (length_of old.board) → answer ≡ offer_answer old.board number → new ≡ with_log old (after_offer (log_of old) op answer)
      → TurnsLead log old new
  offers_next old new op number answer next is answered after =
      let turn : OffersNext log old new = record {
        op = op;
        next = next;
        after = after ∙ ap (λ a. with_log old (after_offer (log_of old) op a)) (answered ∙ ap (offer_answer old.board) is);
      } in
      (Offers ∷ [], (new, turn, refl))

  -- only the board changed
  board_alone : (old new : ReplicaOf S) → rest_of new ≡ rest_of old → new.held ≡ old.held → new ≡ record old { board = new.board }
  board_alone old new rest held = λ j. record {
    id = (rest j).id;
    names = (rest j).names;
    opening = (rest j).opening;
    board = new.board;
    held = held j;
    store = (rest j).store;
  }

  exchange_turns : (old : ReplicaOf S) (steps : List CrewStep) (before after : BoardOf Op) → ExchangesAll before steps after
      → TakesNodeTurns log (record old { board = before }) (map Exchanges steps) (record old { board = after })
  exchange_turns old [] before after same = ap (λ (b : BoardOf Op). record old { board = b }) same
  exchange_turns old (step ∷ steps) before after exchanged = (
    record old { board = exchanged.0 },
    record { exchanged = exchanged.1; rest = refl; held = refl },
    exchange_turns old steps exchanged.0 after exchanged.2,
  )

  exchanges_on : (old new : ReplicaOf S) (steps : List CrewStep) → ExchangesAll old.board steps new.board
      → ◌≡◌ {A = RestOf S × List (Option Op)} (rest_of new, new.held) (rest_of old, old.held) → TurnsLead log old new
  exchanges_on old new steps exchanged beside = (
    map Exchanges steps,
    subst (λ (r : ReplicaOf S). TakesNodeTurns log old (map Exchanges steps) r)
        (sym (board_alone old new (ap (λ (both : RestOf S × List (Option Op)). both.0) beside) (ap (λ (both : RestOf S × List (Option Op)). both.1) beside)))
        (exchange_turns old steps old.board new.board exchanged),
  )

  -- a board was drained, to its end or in vain
  pub drains_on : {C E : Type 0} (acts : C → CrewStep → C → Type 0) (old new : ReplicaOf S) (before after : C) (answer : Result (Unit {0}) E)
      → ((steps : List CrewStep) × (TakesSteps acts before steps after × MatchResult answer
      (λ done. IsDrained old.board steps new.board)
      (λ gone. EndsInVain old.board steps new.board)))
      → ◌≡◌ {A = RestOf S × List (Option Op)} (rest_of new, new.held) (rest_of old, old.held) → TurnsLead log old new
  drains_on acts old new before after (Ok done) exchanged beside = exchanges_on old new exchanged.0 exchanged.1.1.exchanges beside
  drains_on acts old new before after (Err gone) exchanged beside = exchanges_on old new exchanged.1.1.before exchanged.1.1.exchanges beside

-- ---- turns of a longer log

module _ {S : Type 0} (log more : List Op) where
  turn_of_longer : (turn : NodeTurn) (old new : ReplicaOf S) → TakesNodeTurn log old turn new → TakesNodeTurn (log ++ more) old turn new
  turn_of_longer Offers old new offered = record {
    op = offered.op;
    next = slice_get-left log more (length_of old.board) (slice_get_within log (length_of old.board) offered.op offered.next) ∙ offered.next;
    after = offered.after;
  }
  turn_of_longer (Exchanges step) old new exchanged = exchanged

  turns_of_longer : (turns : List NodeTurn) (old new : ReplicaOf S) → TakesNodeTurns log old turns new → TakesNodeTurns (log ++ more) old turns new
  turns_of_longer [] old new same = same
  turns_of_longer (turn ∷ turns) old new taken =
      (taken.0, turn_of_longer turn old taken.0 taken.1, turns_of_longer turns taken.0 new taken.2)

-- turns of a log are turns of a longer one
pub turned_for_longer : {S : Type 0} (names : List (List ℕ)) (log longer : List (Key × Call)) (old new : ReplicaOf S) → ExtendsLog log longer
    → TurnsLead (log_ops names log) old new → TurnsLead (log_ops names longer) old new
turned_for_longer names log longer old new extends turned = (
  turned.0,
  subst (λ (ops : List Op). TakesNodeTurns ops old turned.0 new) (sym (ops_of_longer names log longer extends.0 extends.1))
      (turns_of_longer (log_ops names log) (log_ops names extends.0) turned.0 old new turned.1),
)

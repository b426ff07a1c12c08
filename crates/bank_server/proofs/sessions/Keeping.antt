-- What is kept of a log stays kept while the log grows.
use Rattle.std.proofs.Common.{◌≡◌, Result, Ok, Err, List, [], ◌∷◌, ◌++◌, length, refl, sym, ap, subst, ◌∙◌, append_assoc, append-nil, arith, length-append}
use Rattle.sb_calls.specs.declared.ask.Key.{Key}
use Rattle.sb_calls.specs.declared.call.Call.{Call}
use Rattle.sb_replica.specs.Replica.{ReplicaOf, RestOf, rest_of}
use Rattle.sb_sequencer.specs.Answer.{LogAfter}
use Rattle.sb_sequencer.specs.declared.answer.AskFault.{AskFault}
use Rattle.sb_sequencer.specs.declared.answer.Numbered.{Numbered}
use Rattle.sb_sequencer.specs.declared.answer.Numbered.TheVariants.{New, Repeat}
use Rattle.sb_ask_log.specs.Keeping.{KeeperGoesOn, KeeperModel, KeepsOn}
use Rattle.bank_server.specs.NodeTurns.{TurnsLead}
use Rattle.bank_server.specs.Primary.{ExtendsLog, PreservesBank, PrimaryOf, log_ops}
use Rattle.bank_server.specs.inner.NumberedAsks.{NumbersAsks}
use Rattle.bank_server.proofs.boards.NodeTurns.{stays_so, turned_for_longer}

-- a log that stays is extended by nothing
pub same_log : (old new : List (Key × Call)) → new ≡ old → ExtendsLog old new
same_log old new same = ([], same ∙ sym (append-nil old))

-- what extends a log that extends another extends that one too
pub extends_after : (old mid new : List (Key × Call)) → ExtendsLog old mid → ExtendsLog mid new → ExtendsLog old new
extends_after old mid new first second = (
  first.0 ++ second.0,
  second.1 ∙ ap (λ (l : List (Key × Call)). l ++ second.0) first.1 ∙ append_assoc old first.0 second.0,
)

module _ {K : Type 0} (model : KeeperModel K) where
  -- a beginning of the log is a beginning of a longer one
  keeps_extended : (keeper : K) (old more : List (Key × Call)) → KeepsOn model keeper old keeper (old ++ more)
  keeps_extended keeper old more kept rest is begins = (
    [],
    subst (model.Keeps keeper) (sym (append-nil kept)) is,
    rest ++ more,
    ap (λ (l : List (Key × Call)). l ++ more) begins ∙ append_assoc kept rest more
        ∙ ap (λ (l : List (Key × Call)). l ++ (rest ++ more)) (sym (append-nil kept)),
  )

  pub keeps_after : (old mid new : K) (old_log mid_log new_log : List (Key × Call)) → KeepsOn model old old_log mid mid_log
      → KeepsOn model mid mid_log new new_log → KeepsOn model old old_log new new_log
  keeps_after old mid new old_log mid_log new_log first second kept rest is begins =
      let one = first kept rest is begins in
      let two = second (kept ++ one.0) one.2 one.1 one.3 in (
        one.0 ++ two.0,
        subst (model.Keeps new) (append_assoc kept one.0 two.0) two.1,
        two.2,
        two.3 ∙ ap (λ (l : List (Key × Call)). l ++ two.2) (append_assoc kept one.0 two.0),
      )

module _ {K : Type 0} {model : KeeperModel K} where
  pub goes_on_after : (old mid new : K) (old_log mid_log new_log : List (Key × Call))
      → KeeperGoesOn model old old_log mid mid_log → KeeperGoesOn model mid mid_log new new_log
      → KeeperGoesOn model old old_log new new_log
  goes_on_after old mid new old_log mid_log new_log first second = record {
    keeps_on = keeps_after model old mid new old_log mid_log new_log first.keeps_on second.keeps_on;
    same_opening = second.same_opening ∙ first.same_opening;
    failed = λ e. second.failed (first.failed e);
  }

  -- where the keeper stays and the log is the same or longer
  pub grown_on : (old new : K) (old_log new_log : List (Key × Call)) → new ≡ old → ExtendsLog old_log new_log
      → KeeperGoesOn model old old_log new new_log
  grown_on old new old_log new_log same extends = record {
    keeps_on = subst (λ (k : K). KeepsOn model old old_log k new_log) (sym same)
        (subst (λ (l : List (Key × Call)). KeepsOn model old old_log old l) (sym extends.1) (keeps_extended model old old_log extends.0));
    same_opening = ap model.opening same;
    failed = λ e. ap model.has_failed same ∙ e;
  }

  pub same_on : (old new : K) (old_log new_log : List (Key × Call)) → new ≡ old → new_log ≡ old_log
      → KeeperGoesOn model old old_log new new_log
  same_on old new old_log new_log same log = grown_on old new old_log new_log same (same_log old_log new_log log)

  -- a bank that stays is preserved
  pub stays_bank : {S : Type 0} (bank : PrimaryOf S K) → PreservesBank model bank bank
  stays_bank bank = record {
    rest = refl;
    opening = refl;
    log = same_log bank.log bank.log refl;
    keeper = same_on bank.keeper bank.keeper bank.log bank.log refl refl;
    turns = stays_so (log_ops bank.node.names bank.log) refl;
  }

  -- the log, the keeper and what node 0 has beside its board stay
  pub kept_bank : {S : Type 0} (old new : PrimaryOf S K) → rest_of new.node ≡ rest_of old.node → new.node.board.opening ≡ old.node.board.opening
      → new.keeper ≡ old.keeper → new.log ≡ old.log → TurnsLead (log_ops old.node.names old.log) old.node new.node → PreservesBank model old new
  kept_bank {S} old new rest board keeper log turns = record {
    rest = rest;
    opening = board;
    log = same_log old.log new.log log;
    keeper = same_on old.keeper new.keeper old.log new.log keeper log;
    turns = turned_for_longer new.node.names old.log new.log old.node new.node (same_log old.log new.log log)
        (subst (λ (r : RestOf S). TurnsLead (log_ops r.names old.log) old.node new.node) (sym rest) turns);
  }

  -- nothing was numbered
  pub numbers_nothing : {S : Type 0} (bank : PrimaryOf S K) → NumbersAsks model bank bank
  numbers_nothing bank = record { grows = omega arith; node = refl; bank = stays_bank bank }

  -- only the log has changed, which is the same or longer
  pub numbers_by : {S : Type 0} (old new : PrimaryOf S K) → ExtendsLog old.log new.log → new.node ≡ old.node → new.keeper ≡ old.keeper
      → NumbersAsks model old new
  numbers_by {S} old new extends node keeper = record {
    grows = omega (arith, ap length extends.1, length-append old.log extends.0);
    node = node;
    bank = record {
      rest = ap (λ (r : ReplicaOf S). rest_of r) node;
      opening = ap (λ (r : ReplicaOf S). r.board.opening) node;
      log = extends;
      keeper = grown_on old.keeper new.keeper old.log new.log keeper extends;
      turns = stays_so (log_ops new.node.names new.log) node;
    };
  }

-- an ask extends the log, whatever the answer
pub extends_by_answer : (old new : List (Key × Call)) (ask : Key × Call) (answer : Result Numbered AskFault) → LogAfter old ask answer new → ExtendsLog old new
extends_by_answer old new ask (Ok (New n)) log = (ask ∷ [], log)
extends_by_answer old new ask (Ok (Repeat n)) log = same_log old new log
extends_by_answer old new ask (Err fault) log = same_log old new log

-- States that are consistent with the log.
use Rattle.std.proofs.Common.{◌≡◌, ℕ, zero, suc, ◌≤◌, Option, Some, None, List, length, map, refl, sym, ap, subst, ◌∙◌, arith}
use Rattle.std.specs.Prelude.{slice_get, option_map}
use Rattle.std.proofs.lemmas.Option.{slice_get-map}
use Rattle.sb_rows.specs.Rows.{SameCustomers}
use Rattle.sb_calls.proofs.SerialRuns.{log_by_cowns}
use Rattle.sb_calls.specs.Op.{op_of}
use Rattle.sb_checkpoint.proofs.SpellingIsRead.{read_back}
use Rattle.sb_checkpoint.specs.Checkpoint.{Second}
use Rattle.sb_checkpoint.specs.Reading.{stated_reply_count}
use Rattle.schedule_player.specs.Bank.{BankOf, opening_total}
use Rattle.schedule_player.specs.Books.{IsRowsAt, IsStateAt}
use Rattle.schedule_player.specs.inner.NodeInvariant.{IsStateOfLog}
use Rattle.schedule_player.specs.OneBased.{nth_item, Every}
use Rattle.schedule_player.proofs.hands.FinishSteps.{reply_by_names}
use Rattle.cown_board.proofs.LogLaws.{no_some as none_some}
use Rattle.cown_board.proofs.LogLaws.{injective as some_is}
use Rattle.schedule_player.proofs.boards.Stages.{length-map}
use Rattle.sb_calls.proofs.CownColumns.{contents_of-injective as same_columns}

pub nth_item-map : {A B : Type 0} (f : A → B) (xs : List A) (n : ℕ) → nth_item (map f xs) n ≡ option_map f (nth_item xs n)
nth_item-map f xs zero = refl
nth_item-map f xs (suc k) = slice_get-map f xs k

-- a state states the length of its checkpoint
pub state_length : (bank : BankOf) (bytes : List ℕ) → (is : IsStateOfLog bank bytes) → stated_reply_count bytes ≡ length is.checkpoint.replies
state_length bank bytes is = let back = read_back Second (opening_total bank) is.checkpoint bytes is.stored.0 in back.count

-- and that is at most the log's
pub state_within : (bank : BankOf) (bytes : List ℕ) → IsStateOfLog bank bytes → stated_reply_count bytes ≤ length bank.calls
state_within bank bytes is =
    let size = state_length bank bytes is in
    let within = is.consistent.within in
    let calls = length-map (op_of bank.names) bank.calls in
    omega (arith, size, within, calls)

pub states_within : (bank : BankOf) (states : List (List ℕ)) → Every (IsStateOfLog bank) states
    → Every (λ size. size ≤ length bank.calls) (map stated_reply_count states)
states_within bank states all k size here = by (slice_get states k) refl
  where
    by : (found : Option (List ℕ)) → slice_get states k ≡ found → size ≤ length bank.calls
    by None none = absurd (none_some (sym (slice_get-map stated_reply_count states k ∙ ap (option_map stated_reply_count) none) ∙ here))
    by (Some bytes) there =
        subst (λ n. n ≤ length bank.calls)
        (some_is (sym (slice_get-map stated_reply_count states k ∙ ap (option_map stated_reply_count) there) ∙ here))
        (state_within bank bytes (all k bytes there))

-- a state is the bank's checkpoint after that many calls
pub state_is : (bank : BankOf) (bytes : List ℕ) → SameCustomers bank.names bank.opening → IsStateOfLog bank bytes
    → IsStateAt bank (stated_reply_count bytes) bytes
state_is bank bytes same is =
    let checkpoint = is.checkpoint in
    let law = log_by_cowns bank.names bank.opening bank.calls same in
    let size = length checkpoint.replies in
    let rows = law.rows size in
    let valid = is.stored.0.valid in
    let columns : checkpoint.columns ≡ rows.0 =
    same_columns checkpoint.columns rows.0 valid.balances.same rows.1.balances.same (is.consistent.columns ∙ sym rows.2) in
    let stated = state_length bank bytes is in
    record {
      checkpoint = checkpoint;
      spelled = is.stored.0;
      size_is = sym stated;
      rows = subst (λ n. IsRowsAt bank n checkpoint.columns) (sym stated)
          (subst (IsRowsAt bank size) (sym columns) (record { customers = rows.1; rows = rows.3 }));
      replies = λ k reply here. sym (reply_by_names bank (suc k) same) ∙ is.consistent.replies k reply here;
    }

-- A bank after its sessions.
use Rattle.std.proofs.Common.{ℕ, Bool, false, refl, ◌∙◌}
use Rattle.sb_checkpoint.specs.Stores.{StoreModel}
use Rattle.sb_ask_log.specs.Keeping.{KeeperModel}
use Rattle.bank_server.specs.Primary.{PrimaryOf}
use Rattle.bank_service.specs.ServedBank.{IsBankAfter}

module _ {S K : Type 0} (model : StoreModel S) (keeper : KeeperModel K) where
  -- behind the step that only executes the log
  pub left_behind_first : (saves : Bool) (count : ℕ) (old mid new : PrimaryOf S K) → IsBankAfter model keeper false 1 old mid
      → IsBankAfter model keeper saves count mid new → IsBankAfter model keeper saves count old new
  left_behind_first saves count old mid new first next = record {
    bank = record { names = next.bank.names ∙ first.bank.names; opening = next.bank.opening ∙ first.bank.opening };
    one_each = next.one_each;
    all = next.all;
    kept_log = next.kept_log;
    text = next.text ∙ first.text;
    kept = record {
      honest = λ honest. next.kept.honest (first.kept.honest honest);
      stored = λ s some honest. next.kept.stored s some (first.kept.honest honest);
      unchanged = λ s. next.kept.unchanged s ∙ first.kept.unchanged refl;
    };
  }

-- A bank that is opened on its log's file.
use Rattle.std.specs.Prelude.{◌≡◌, ℕ, List}
use Rattle.sb_calls.specs.declared.ask.Key.{Key}
use Rattle.sb_calls.specs.declared.call.Call.{Call}
use Rattle.sb_rows.specs.declared.opening.Opening.{Opening as AnyOpening}
use Rattle.sb_ask_log.specs.Telling.{AskLogOf}
use Rattle.bank_server.specs.Primary.{PrimaryOf, node_at_opening}

-- the bank has this log in a file, with this opening text, and node 0 is at this opening, with nothing of
-- the log
pub record IsBankOn {F S : Type 0} (text : List ℕ) (log : List (Key × Call)) (opening : AnyOpening) (store : S)
    (file : F) (bank : PrimaryOf S (AskLogOf F)) : Type 0 where
  pub log_is : bank.log ≡ log
  pub text_is : bank.keeper.text ≡ text
  pub file_is : bank.keeper.log.file ≡ file
  pub node_is : bank.node ≡ node_at_opening opening store

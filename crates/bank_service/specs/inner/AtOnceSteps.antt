-- The steps of serving many clients of a bank at once.
use Rattle.std.specs.Prelude.{◌≡◌, ℕ, Bool, Option, List, [], ◌∷◌, length}
use Rattle.std.specs.List.{All}
use Rattle.sb_checkpoint.specs.Stores.{StoreModel}
use Rattle.sb_ask_log.specs.Keeping.{KeeperModel}
use Rattle.bank_server.specs.Clients.{ClientOf, End}
use Rattle.bank_server.specs.Primary.{PrimaryOf, opening_rows_of}
use Rattle.bank_clients.specs.History.{GoesOn, OutsideOf}
use Rattle.bank_service.specs.ServeOutput.{PrintsLines, ServerContinues, session_line, session_lines}
use Rattle.bank_service.specs.ServedBank.{IsSameBank}
use Rattle.bank_service.specs.StoreAfter.{IsStoreAfter}

-- a bank goes on, and is the same: with its names, its opening, its log's file, and its store, unless it
-- saves
pub record StaysBank {S K : Type 0} (model : StoreModel S) (keeper : KeeperModel K) (saves : Bool)
    (before after : PrimaryOf S K) : Type 0 where
  pub bank : IsSameBank before after
  pub text : keeper.opening after.keeper ≡ keeper.opening before.keeper
  pub store : IsStoreAfter model saves 0 before.node.store after.node

-- clients are served at once until one more session is over, which has this number, and is printed
pub record ServesOver {S K : Type 0} (model : StoreModel S) (keeper : KeeperModel K) (saves : Bool)
    (number : ℕ) (outside outside_after : OutsideOf) (clients clients_after : List ClientOf)
    (before after : PrimaryOf S K) (old new : Option (List ℕ)) : Type 0 where
  pub end : End
  pub goes_on : GoesOn (opening_rows_of before) outside before.log clients (end ∷ []) outside_after after.log
      clients_after
  pub continues : ServerContinues end
  pub printed : PrintsLines (session_line number end ∷ []) old new
  pub stays : StaysBank model keeper saves before after

-- clients are served at once until this many sessions are over, and each is printed
pub record ServesSome {S K : Type 0} (model : StoreModel S) (keeper : KeeperModel K) (saves : Bool)
    (count : ℕ) (outside outside_after : OutsideOf) (clients clients_after : List ClientOf)
    (before after : PrimaryOf S K) (old new : Option (List ℕ)) : Type 0 where
  pub ends : List End
  pub goes_on : GoesOn (opening_rows_of before) outside before.log clients ends outside_after after.log clients_after
  pub all : length ends ≡ count
  pub go_on : All ServerContinues ends
  pub printed : PrintsLines (session_lines 1 ends) old new
  pub stays : StaysBank model keeper saves before after

-- Banks that are opened to be served.
use Rattle.std.specs.Prelude.{◌≡◌, ℕ, Option, Err, List, IfSome}
use Rattle.sb_calls.specs.declared.ask.Key.{Key}
use Rattle.sb_calls.specs.declared.call.Call.{Call}
use Rattle.sb_rows.specs.declared.opening.Opening.{Opening as AnyOpening}
use Rattle.sb_log.specs.LogFiles.{LogFileOf}
use Rattle.sb_ask_log.specs.Telling.{AskLogOf}
use Rattle.bank_server.specs.Primary.{PrimaryOf}
use Rattle.bank_server.specs.declared.fault.RunFault.TheVariants.{Input, Device, OutOfMemory}
use Rattle.bank_service.specs.FoundBank.{FindsBank, IsFindFault}
use Rattle.bank_service.specs.OpenedBank.{IsBankOn}
use Rattle.bank_service.specs.Opening.{IsOpeningOf, whole_opening_of}
use Rattle.bank_service.specs.declared.serve_fault.ServeFault.{ServeFault}
use Rattle.bank_service.specs.declared.serve_fault.ServeFault.TheVariants.{Run}

-- why no opening is read of an input, if that is known: its first line at fault; or a device failed, or memory was
-- refused
abbrev pub IsOpeningFault : Option (List ℕ) → ServeFault → Type 0
IsOpeningFault input (Run (Input line fault)) = IfSome input (λ text. whole_opening_of text ≡ Err (line, fault))
IsOpeningFault input (Run Device) = Unit {0}
IsOpeningFault input (Run OutOfMemory) = Unit {0}
IsOpeningFault input other = ⊥

-- a bank is opened on a file: what is found there with this input, if the file is honest, is its log, whose opening
-- node 0 is at
pub record OpensOnLog {F S : Type 0} (IsHonest : F → Type 0) (model : F → LogFileOf) (file : F) (input : List ℕ)
    (store : S) (bank : PrimaryOf S (AskLogOf F)) : Type 0 where
  pub text : List ℕ
  pub log : List (Key × Call)
  pub cut : ℕ
  pub found : IsHonest file → FindsBank (model file).content input text log cut
  pub opening : AnyOpening
  pub opening_is : IsOpeningOf (whole_opening_of text) opening
  pub now : F
  pub bank_is : IsBankOn text log opening store now bank

-- why no bank is opened on a file of these bytes, with this input, whatever the file has then
abbrev pub FailsToOpen : List ℕ → List ℕ → ServeFault → Type 0
FailsToOpen content input fault = (new : List ℕ) × IsFindFault content input fault new

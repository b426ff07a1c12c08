-- Why a log isn't listed, or cut.
use Rattle.bank_service.specs.ListFaults.{IsListingFault}
use Rattle.bank_service.specs.declared.list_fault.ListFault.{ListFault}
use Rattle.program_words.specs.declared.words.log.LogAction.{LogAction}
use Rattle.program_words.specs.declared.words.log.LogAction.TheVariants.{List, Cut}

-- only cutting a log writes its rest
abbrev pub IsFaultOfAction : LogAction → ListFault → Type 0
IsFaultOfAction (List listing) fault = IsListingFault fault
IsFaultOfAction Cut fault = Unit {0}

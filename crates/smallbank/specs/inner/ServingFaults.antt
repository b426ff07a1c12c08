-- Why a bank isn't served.
use Rattle.std.specs.Prelude.{◌≡◌, ℕ, Bool, true}
use Rattle.bank_server.specs.Faults.{LosesWorkers, StraysAmong}
use Rattle.bank_server.specs.declared.fault.RunFault.TheVariants.{OutOfMemory}
use Rattle.bank_service.specs.ServeFaults.{IsBankFault}
use Rattle.bank_service.specs.declared.serve_fault.ServeFault.{ServeFault}
use Rattle.bank_service.specs.declared.serve_fault.ServeFault.TheVariants.{Run, ReadBack, Store, StoreInUse, PortTaken, Log, AnotherOpening}
use Rattle.program_words.specs.declared.plan.Plan.{Plan}

-- memory was refused; or the bank saves, and its store takes nothing or is another server's
abbrev pub IsStoreFault : Bool → ServeFault → Type 0
IsStoreFault saves (Run fault) = fault ≡ OutOfMemory
IsStoreFault saves Store = saves ≡ true
IsStoreFault saves StoreInUse = saves ≡ true
IsStoreFault saves other = ⊥

-- a bank isn't found in its log, or the input can't be read; or the bank saves, and its store takes nothing or is
-- another server's
abbrev pub IsOpenFault : Bool → ServeFault → Type 0
IsOpenFault saves Store = saves ≡ true
IsOpenFault saves StoreInUse = saves ≡ true
IsOpenFault saves other = IsBankFault other

-- what may end the program that serves by this plan: what may end serving the bank, or a line of the
-- opening is at fault, or the bank saves, and its store takes nothing or is another server's, or this port
-- is taken, or there is a log, and it has another opening
abbrev pub IsProgramFault : ℕ → Plan → Bool → ServeFault → Type 0
IsProgramFault port plan logs (Run fault) = StraysAmong plan.nodes fault × LosesWorkers plan.workers fault
IsProgramFault port plan logs ReadBack = plan.saves ≡ true
IsProgramFault port plan logs Store = plan.saves ≡ true
IsProgramFault port plan logs StoreInUse = plan.saves ≡ true
IsProgramFault port plan logs (PortTaken taken) = taken ≡ port
IsProgramFault port plan logs (Log fault) = logs ≡ true
IsProgramFault port plan logs AnotherOpening = logs ≡ true

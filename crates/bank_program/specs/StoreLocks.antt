-- Locks of the folder of a checkpoint.
use Rattle.bank_service.specs.declared.serve_fault.ServeFault.{ServeFault}
use Rattle.bank_service.specs.declared.serve_fault.ServeFault.TheVariants.{Store, StoreInUse}

-- the folder is another server's, or can't be locked
abbrev pub IsLockFault : ServeFault → Type 0
IsLockFault Store = Unit {0}
IsLockFault StoreInUse = Unit {0}
IsLockFault other = ⊥

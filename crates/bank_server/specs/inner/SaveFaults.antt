-- Where a save's faults come from.
use Rattle.sb_checkpoint.specs.declared.store.StoreFault.{StoreFault}
use Rattle.sb_checkpoint.specs.declared.store.StoreFault.TheVariants as store
use Rattle.sb_replica.specs.declared.fault.MarkFault.{MarkFault}
use Rattle.sb_replica.specs.declared.fault.MarkFault.TheVariants as mark
use Rattle.bank_server.specs.declared.node0.save_fault.SaveFault.{SaveFault}
use Rattle.bank_server.specs.declared.node0.save_fault.SaveFault.TheVariants.{Device, OutOfMemory, Busy}

-- a save's fault if its checkpoint can't be put
abbrev pub save_of_mark_fault : MarkFault → SaveFault
save_of_mark_fault mark.Busy = Busy
save_of_mark_fault mark.Device = Device
save_of_mark_fault mark.OutOfMemory = OutOfMemory

-- a save's fault if its checkpoint can't be read back
abbrev pub save_of_store_fault : StoreFault → SaveFault
save_of_store_fault store.Device = Device
save_of_store_fault store.OutOfMemory = OutOfMemory

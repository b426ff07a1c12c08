-- The fault of a store by that of a read.
use Rattle.sb_text.specs.declared.input.ReadFault.{ReadFault}
use Rattle.sb_text.specs.declared.input.ReadFault.TheVariants as read
use Rattle.sb_checkpoint.specs.declared.store.StoreFault.{StoreFault}
use Rattle.sb_checkpoint.specs.declared.store.StoreFault.TheVariants as store

abbrev pub store_fault_of : ReadFault → StoreFault
store_fault_of read.Device = store.Device
store_fault_of read.OutOfMemory = store.OutOfMemory

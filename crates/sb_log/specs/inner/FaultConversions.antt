-- The fault of a log by that of a read.
use Rattle.sb_text.specs.declared.input.ReadFault.{ReadFault}
use Rattle.sb_text.specs.declared.input.ReadFault.TheVariants as reading
use Rattle.sb_log.specs.declared.log_fault.LogFault.{LogFault}
use Rattle.sb_log.specs.declared.log_fault.LogFault.TheVariants.{Device, OutOfMemory}

-- a log's fault if its file can't be read
abbrev pub log_fault_of : ReadFault → LogFault
log_fault_of reading.Device = Device
log_fault_of reading.OutOfMemory = OutOfMemory

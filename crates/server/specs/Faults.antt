-- Why a server stops whose device cannot be opened.
use Rattle.device.specs.declared.file.OpenFault.{OpenFault}
use Rattle.device.specs.declared.file.OpenFault.TheVariants as open_fault
use Rattle.server.specs.declared.fault.ServerFault.{ServerFault}
use Rattle.server.specs.declared.fault.ServerFault.TheVariants as server_fault

-- the fault of a server for the fault of its device's opening
abbrev pub fault_of : OpenFault → ServerFault
fault_of open_fault.CannotOpen = server_fault.CannotOpenDevice
fault_of open_fault.OutOfMemory = server_fault.OutOfMemory

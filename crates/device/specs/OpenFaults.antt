-- The texts of faults.
use Rattle.std.specs.Prelude.{ℕ, List, codes}
use Rattle.device.specs.declared.file.OpenFault.{OpenFault}
use Rattle.device.specs.declared.file.OpenFault.TheVariants.{CannotOpen, OutOfMemory}

-- the text of a fault
abbrev pub fault_text : OpenFault → List ℕ
fault_text CannotOpen = codes "cannot open device"
fault_text OutOfMemory = codes "out of memory"

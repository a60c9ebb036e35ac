-- The faults of a tape text, as they are numbered and named.
use Rattle.std.specs.Prelude.{ℕ, List, codes}
use Rattle.model.specs.declared.tape.TapeFault.{TapeFault}
use Rattle.model.specs.declared.tape.TapeFaultKind.{TapeFaultKind}
use Rattle.model.specs.declared.tape.TapeFaultKind.TheVariants.{NoRecord, BadHex, BadChecksum, PastEnd, Truncated, BadCount, JunkAfterEnd, JunkBetween, OutOfMemory, TooLong}

-- The number of each kind. Source: mos65.
abbrev pub tape_fault_number : TapeFaultKind → ℕ
tape_fault_number NoRecord = 1
tape_fault_number BadHex = 2
tape_fault_number BadChecksum = 3
tape_fault_number PastEnd = 4
tape_fault_number Truncated = 5
tape_fault_number BadCount = 6
tape_fault_number JunkAfterEnd = 7
tape_fault_number JunkBetween = 8
tape_fault_number OutOfMemory = 9
tape_fault_number TooLong = 10

-- The name of each kind, in ASCII. Source: mos65.
abbrev pub tape_fault_name : TapeFaultKind → List ℕ
tape_fault_name NoRecord = codes "NoRecord"
tape_fault_name BadHex = codes "BadHex"
tape_fault_name BadChecksum = codes "BadChecksum"
tape_fault_name PastEnd = codes "PastEnd"
tape_fault_name Truncated = codes "Truncated"
tape_fault_name BadCount = codes "BadCount"
tape_fault_name JunkAfterEnd = codes "JunkAfterEnd"
tape_fault_name JunkBetween = codes "JunkBetween"
tape_fault_name OutOfMemory = codes "OutOfMemory"
tape_fault_name TooLong = codes "TooLong"

-- The fault that is returned if an allocation fails, at offset 0. Source: mos65.
abbrev pub out_of_memory : TapeFault
out_of_memory = record { offset = 0; kind = OutOfMemory }

-- The faults of a text of records, as they are numbered and named.
use Rattle.std.specs.Prelude.{ℕ, List, codes}
use Rattle.image_reader.specs.declared.fault.RecordFaultKind.{RecordFaultKind}
use Rattle.image_reader.specs.declared.fault.RecordFaultKind.TheVariants.{NoMark, BadHex, ShortRecord, LongRecord, BadChecksum, UnknownType, BadLength, PastEnd, BadCount, NoEnd}

-- The number of each kind. Source: mos65.
abbrev pub record_fault_number : RecordFaultKind → ℕ
record_fault_number NoMark = 1
record_fault_number BadHex = 2
record_fault_number ShortRecord = 3
record_fault_number LongRecord = 4
record_fault_number BadChecksum = 5
record_fault_number UnknownType = 6
record_fault_number BadLength = 7
record_fault_number PastEnd = 8
record_fault_number BadCount = 9
record_fault_number NoEnd = 10

-- The name of each kind, in ASCII. Source: mos65.
abbrev pub record_fault_name : RecordFaultKind → List ℕ
record_fault_name NoMark = codes "NoMark"
record_fault_name BadHex = codes "BadHex"
record_fault_name ShortRecord = codes "ShortRecord"
record_fault_name LongRecord = codes "LongRecord"
record_fault_name BadChecksum = codes "BadChecksum"
record_fault_name UnknownType = codes "UnknownType"
record_fault_name BadLength = codes "BadLength"
record_fault_name PastEnd = codes "PastEnd"
record_fault_name BadCount = codes "BadCount"
record_fault_name NoEnd = codes "NoEnd"

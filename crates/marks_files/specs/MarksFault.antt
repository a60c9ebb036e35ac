-- Numbers and names of the faults of a file of marks. Source: mos65.
use Rattle.std.specs.Prelude.{ℕ, List, codes}
use Rattle.marks_files.specs.declared.fault.MarksFaultKind.{MarksFaultKind}
use Rattle.marks_files.specs.declared.fault.MarksFaultKind.TheVariants.{UnknownMark, BadRange, BadAddress, BadRoutine, BadName, DuplicateName, BadText, JunkBehind, Disagrees, BadCount}

abbrev pub marks_fault_number : MarksFaultKind → ℕ
marks_fault_number UnknownMark = 1
marks_fault_number BadRange = 2
marks_fault_number BadAddress = 3
marks_fault_number BadRoutine = 4
marks_fault_number BadName = 5
marks_fault_number DuplicateName = 6
marks_fault_number BadText = 7
marks_fault_number JunkBehind = 8
marks_fault_number Disagrees = 9
marks_fault_number BadCount = 10

abbrev pub marks_fault_name : MarksFaultKind → List ℕ
marks_fault_name UnknownMark = codes "UnknownMark"
marks_fault_name BadRange = codes "BadRange"
marks_fault_name BadAddress = codes "BadAddress"
marks_fault_name BadRoutine = codes "BadRoutine"
marks_fault_name BadName = codes "BadName"
marks_fault_name DuplicateName = codes "DuplicateName"
marks_fault_name BadText = codes "BadText"
marks_fault_name JunkBehind = codes "JunkBehind"
marks_fault_name Disagrees = codes "Disagrees"
marks_fault_name BadCount = codes "BadCount"

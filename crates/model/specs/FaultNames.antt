-- The names and numbers of the faults, as replies and fault lines print them. Source: mos65.
use Rattle.std.specs.Prelude.{ℕ, List, codes}
use Rattle.model.specs.declared.bus_fault.BusFault.{BusFault}
use Rattle.model.specs.declared.bus_fault.BusFault.TheVariants as bus_fault
use Rattle.model.specs.declared.event.EventFault.{EventFault}
use Rattle.model.specs.declared.event.EventFault.TheVariants as event_fault
use Rattle.model.specs.declared.expression.ExprFault.{ExprFault}
use Rattle.model.specs.declared.expression.ExprFault.TheVariants as expression_fault
use Rattle.model.specs.declared.expression.LineFault.{LineFault}
use Rattle.model.specs.declared.expression.LineFault.TheVariants as line_fault
use Rattle.model.specs.declared.session_fault.SessionFault.{SessionFault}
use Rattle.model.specs.declared.session_fault.SessionFault.TheVariants as session_fault
use Rattle.model.specs.declared.source_fault.AsmFaultKind.{AsmFaultKind}
use Rattle.model.specs.declared.source_fault.AsmFaultKind.TheVariants as source_fault

abbrev pub bus_fault_number : BusFault → ℕ
bus_fault_number bus_fault.BadMap = 1
bus_fault_number bus_fault.OutOfMemory = 2
bus_fault_number bus_fault.ConsoleFull = 3
bus_fault_number bus_fault.InputFull = 4
bus_fault_number bus_fault.PortAddress = 5

abbrev pub bus_fault_name : BusFault → List ℕ
bus_fault_name bus_fault.BadMap = codes "BadMap"
bus_fault_name bus_fault.OutOfMemory = codes "OutOfMemory"
bus_fault_name bus_fault.ConsoleFull = codes "ConsoleFull"
bus_fault_name bus_fault.InputFull = codes "InputFull"
bus_fault_name bus_fault.PortAddress = codes "PortAddress"

abbrev pub event_fault_number : EventFault → ℕ
event_fault_number event_fault.CyclesFull = 1
event_fault_number (event_fault.Undocumented a b) = 2
event_fault_number event_fault.ConsoleFull = 3
event_fault_number event_fault.PastEnd = 4
event_fault_number event_fault.PortAddress = 5
event_fault_number event_fault.BadLength = 6
event_fault_number event_fault.InputFull = 7

abbrev pub event_fault_name : EventFault → List ℕ
event_fault_name event_fault.CyclesFull = codes "CyclesFull"
event_fault_name (event_fault.Undocumented a b) = codes "Undocumented"
event_fault_name event_fault.ConsoleFull = codes "ConsoleFull"
event_fault_name event_fault.PastEnd = codes "PastEnd"
event_fault_name event_fault.PortAddress = codes "PortAddress"
event_fault_name event_fault.BadLength = codes "BadLength"
event_fault_name event_fault.InputFull = codes "InputFull"

abbrev pub session_fault_number : SessionFault → ℕ
session_fault_number (session_fault.NoHistory a) = 1
session_fault_number session_fault.TableFull = 2
session_fault_number session_fault.AlreadySet = 3
session_fault_number session_fault.NotSet = 4
session_fault_number session_fault.PortAddress = 5
session_fault_number session_fault.OutOfMemory = 6

abbrev pub session_fault_name : SessionFault → List ℕ
session_fault_name (session_fault.NoHistory a) = codes "NoHistory"
session_fault_name session_fault.TableFull = codes "TableFull"
session_fault_name session_fault.AlreadySet = codes "AlreadySet"
session_fault_name session_fault.NotSet = codes "NotSet"
session_fault_name session_fault.PortAddress = codes "PortAddress"
session_fault_name session_fault.OutOfMemory = codes "OutOfMemory"

abbrev pub line_fault_number : LineFault → ℕ
line_fault_number line_fault.Syntax = 1
line_fault_number line_fault.OutOfMemory = 2

abbrev pub line_fault_name : LineFault → List ℕ
line_fault_name line_fault.Syntax = codes "Syntax"
line_fault_name line_fault.OutOfMemory = codes "OutOfMemory"

abbrev pub expression_fault_number : ExprFault → ℕ
expression_fault_number expression_fault.UnknownName = 1
expression_fault_number expression_fault.Range = 2
expression_fault_number expression_fault.DivideByZero = 3

abbrev pub expression_fault_name : ExprFault → List ℕ
expression_fault_name expression_fault.UnknownName = codes "UnknownName"
expression_fault_name expression_fault.Range = codes "Range"
expression_fault_name expression_fault.DivideByZero = codes "DivideByZero"

abbrev pub source_fault_number : AsmFaultKind → ℕ
source_fault_number source_fault.TooLarge = 1
source_fault_number source_fault.LineTooLong = 2
source_fault_number source_fault.NotAscii = 3
source_fault_number source_fault.Syntax = 4
source_fault_number source_fault.ReservedName = 5
source_fault_number source_fault.DuplicateName = 6
source_fault_number source_fault.UnknownHere = 7
source_fault_number source_fault.NoSuchForm = 8
source_fault_number source_fault.TooManyNames = 9
source_fault_number source_fault.OriginRange = 10
source_fault_number source_fault.ExprRange = 11
source_fault_number source_fault.DivideByZero = 12
source_fault_number source_fault.NotOneLine = 13
source_fault_number source_fault.UndefinedName = 20
source_fault_number source_fault.ByteRange = 21
source_fault_number source_fault.WordRange = 22
source_fault_number source_fault.BranchRange = 23
source_fault_number source_fault.PastEnd = 24
source_fault_number source_fault.Overlap = 25
source_fault_number source_fault.PortAddress = 26
source_fault_number source_fault.ValueExprRange = 27
source_fault_number source_fault.ValueDivideByZero = 28
source_fault_number source_fault.OutOfMemory = 99

abbrev pub source_fault_name : AsmFaultKind → List ℕ
source_fault_name source_fault.TooLarge = codes "TooLarge"
source_fault_name source_fault.LineTooLong = codes "LineTooLong"
source_fault_name source_fault.NotAscii = codes "NotAscii"
source_fault_name source_fault.Syntax = codes "Syntax"
source_fault_name source_fault.ReservedName = codes "ReservedName"
source_fault_name source_fault.DuplicateName = codes "DuplicateName"
source_fault_name source_fault.UnknownHere = codes "UnknownHere"
source_fault_name source_fault.NoSuchForm = codes "NoSuchForm"
source_fault_name source_fault.TooManyNames = codes "TooManyNames"
source_fault_name source_fault.OriginRange = codes "OriginRange"
source_fault_name source_fault.ExprRange = codes "ExprRange"
source_fault_name source_fault.DivideByZero = codes "DivideByZero"
source_fault_name source_fault.NotOneLine = codes "NotOneLine"
source_fault_name source_fault.UndefinedName = codes "UndefinedName"
source_fault_name source_fault.ByteRange = codes "ByteRange"
source_fault_name source_fault.WordRange = codes "WordRange"
source_fault_name source_fault.BranchRange = codes "BranchRange"
source_fault_name source_fault.PastEnd = codes "PastEnd"
source_fault_name source_fault.Overlap = codes "Overlap"
source_fault_name source_fault.PortAddress = codes "PortAddress"
source_fault_name source_fault.ValueExprRange = codes "ExprRange"
source_fault_name source_fault.ValueDivideByZero = codes "DivideByZero"
source_fault_name source_fault.OutOfMemory = codes "OutOfMemory"

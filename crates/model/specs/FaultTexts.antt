-- What a fault prints: its name, a space and its number. Source: mos65.
use Rattle.std.specs.Prelude.{ℕ, List, ◌∷◌, ◌++◌, decimal}
use Rattle.model.specs.FaultNames.{bus_fault_name, bus_fault_number, event_fault_name, event_fault_number}
use Rattle.model.specs.FaultNames.{expression_fault_name, expression_fault_number, line_fault_name, line_fault_number}
use Rattle.model.specs.FaultNames.{session_fault_name, session_fault_number, source_fault_name, source_fault_number}
use Rattle.model.specs.TapeFault.{tape_fault_name, tape_fault_number}
use Rattle.model.specs.declared.bus_fault.BusFault.{BusFault}
use Rattle.model.specs.declared.event.EventFault.{EventFault}
use Rattle.model.specs.declared.expression.ExprFault.{ExprFault}
use Rattle.model.specs.declared.expression.LineFault.{LineFault}
use Rattle.model.specs.declared.session_fault.SessionFault.{SessionFault}
use Rattle.model.specs.declared.source_fault.AsmFaultKind.{AsmFaultKind}
use Rattle.model.specs.declared.tape.TapeFaultKind.{TapeFaultKind}

abbrev pub bus_fault_text : BusFault → List ℕ
bus_fault_text fault = bus_fault_name fault ++ 32 ∷ decimal (bus_fault_number fault)

abbrev pub event_fault_text : EventFault → List ℕ
event_fault_text fault = event_fault_name fault ++ 32 ∷ decimal (event_fault_number fault)

abbrev pub session_fault_text : SessionFault → List ℕ
session_fault_text fault = session_fault_name fault ++ 32 ∷ decimal (session_fault_number fault)

abbrev pub line_fault_text : LineFault → List ℕ
line_fault_text fault = line_fault_name fault ++ 32 ∷ decimal (line_fault_number fault)

abbrev pub expression_fault_text : ExprFault → List ℕ
expression_fault_text fault
    = expression_fault_name fault ++ 32 ∷ decimal (expression_fault_number fault)

abbrev pub source_fault_text : AsmFaultKind → List ℕ
source_fault_text kind = source_fault_name kind ++ 32 ∷ decimal (source_fault_number kind)

abbrev pub tape_fault_text : TapeFaultKind → List ℕ
tape_fault_text kind = tape_fault_name kind ++ 32 ∷ decimal (tape_fault_number kind)

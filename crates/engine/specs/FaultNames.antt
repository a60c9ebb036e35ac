-- The names and numbers of the engine's faults. Source: mos65.
use Rattle.std.specs.Prelude.{ℕ, List, ◌∷◌, ◌++◌, codes, decimal}
use Rattle.engine.specs.declared.fault.EngineFault.{EngineFault}
use Rattle.engine.specs.declared.fault.EngineFault.TheVariants.{Source, Tape, Session, Read, Write, OutOfMemory}

abbrev pub engine_fault_number : EngineFault → ℕ
engine_fault_number (Source fault) = 1
engine_fault_number (Tape fault) = 2
engine_fault_number (Session fault) = 3
engine_fault_number Read = 4
engine_fault_number Write = 5
engine_fault_number OutOfMemory = 6

abbrev pub engine_fault_name : EngineFault → List ℕ
engine_fault_name (Source fault) = codes "Source"
engine_fault_name (Tape fault) = codes "Tape"
engine_fault_name (Session fault) = codes "Session"
engine_fault_name Read = codes "Read"
engine_fault_name Write = codes "Write"
engine_fault_name OutOfMemory = codes "OutOfMemory"

-- What a fault prints: its name, a space and its number.
abbrev pub engine_fault_text : EngineFault → List ℕ
engine_fault_text fault = engine_fault_name fault ++ 32 ∷ decimal (engine_fault_number fault)

-- Which refusal the program returns if a part of it fails.
use Rattle.std.specs.Prelude.{◌≡◌, ⊤, ℕ, Bool, true, false, List, Option}
use Rattle.memory_map.specs.declared.map_spec.MapSpec.{MapSpec}
use Rattle.model.specs.State.{has_port_byte, is_map}
use Rattle.model.specs.Source.{HasFault}
use Rattle.model.specs.TapePieces.{IsReadInPieces, IsRefusedInPieces}
use Rattle.model.specs.declared.bus_fault.BusFault.TheVariants.{BadMap}
use Rattle.model.specs.declared.session_fault.SessionFault.TheVariants.{PortAddress}
use Rattle.engine.specs.declared.fault.EngineFault.{EngineFault}
use Rattle.engine.specs.declared.fault.EngineFault.TheVariants as engine_fault
use Rattle.arguments.specs.declared.refusal.ReadFault.TheVariants.{Other}
use Rattle.arguments.specs.declared.refusal.Refusal.{Refusal}
use Rattle.arguments.specs.declared.refusal.Refusal.TheVariants.{Words, Map, Source, Tape, Session, OutOfMemory, Read, Write, WriteFile}

-- The refusal of an engine's fault.
abbrev pub of_engine : EngineFault → Refusal
of_engine (engine_fault.Source fault) = Source fault
of_engine (engine_fault.Tape fault) = Tape fault
of_engine (engine_fault.Session fault) = Session fault
of_engine engine_fault.Read = Read Other
of_engine engine_fault.Write = Write
of_engine engine_fault.OutOfMemory = OutOfMemory

-- Why `asm` may end without a tape: the port does not make a map, or a source has this fault on it.
-- No clause can say whether memory is there or what a file does.
abbrev pub EndsAsm : MapSpec → Refusal → Type 0
EndsAsm map Words = ⊥
EndsAsm map (Map fault) = (fault ≡ BadMap) × (is_map map.rom map.port ≡ false)
EndsAsm map (Source fault) = (source : List ℕ) × HasFault map source fault
EndsAsm map (Tape fault) = ⊥
EndsAsm map (Session fault) = ⊥
EndsAsm map OutOfMemory = ⊤
EndsAsm map (Read why) = ⊤
EndsAsm map Write = ⊤
EndsAsm map (WriteFile why) = ⊤

-- Why `debug` may end early: the ROM and the port do not make a map; a source has this fault on it;
-- a tape has this fault, or a byte at the port.
abbrev pub EndsDebug : Bool → MapSpec → Refusal → Type 0
EndsDebug is_tape map Words = ⊥
EndsDebug is_tape map (Map fault) = (fault ≡ BadMap) × (is_map map.rom map.port ≡ false)
EndsDebug is_tape map (Source fault) = (is_tape ≡ false)
    × ((source : List ℕ) × HasFault map source fault)
EndsDebug is_tape map (Tape fault) = (is_tape ≡ true)
    × ((text : List ℕ) × IsRefusedInPieces text fault)
EndsDebug is_tape map (Session fault) = (is_tape ≡ true) × (fault ≡ PortAddress)
    × ((text : List ℕ) × (image : List (Option ℕ)) × IsReadInPieces text image
    × (has_port_byte map image ≡ true))
EndsDebug is_tape map OutOfMemory = ⊤
EndsDebug is_tape map (Read why) = ⊤
EndsDebug is_tape map Write = ⊤
EndsDebug is_tape map (WriteFile why) = ⊥

-- Why `dis` may end early: a tape has this fault.
abbrev pub EndsDis : Refusal → Type 0
EndsDis Words = ⊥
EndsDis (Map fault) = ⊥
EndsDis (Source fault) = ⊥
EndsDis (Tape fault) = (text : List ℕ) × IsRefusedInPieces text fault
EndsDis (Session fault) = ⊥
EndsDis OutOfMemory = ⊤
EndsDis (Read why) = ⊤
EndsDis Write = ⊤
EndsDis (WriteFile why) = ⊥

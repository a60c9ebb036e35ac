-- Which fault the engine returns if a part of it fails.
use Rattle.std.specs.Prelude.{⊤, Result, Err}
use Rattle.model.specs.declared.source_fault.AsmFault.{AsmFault}
use Rattle.model.specs.declared.source_fault.AsmFaultKind.{AsmFaultKind}
use Rattle.model.specs.declared.source_fault.AsmFaultKind.TheVariants as source_fault
use Rattle.model.specs.declared.session_fault.SessionFault.{SessionFault}
use Rattle.model.specs.declared.session_fault.SessionFault.TheVariants as session_fault
use Rattle.model.specs.declared.tape.TapeFault.{TapeFault}
use Rattle.model.specs.declared.tape.TapeFaultKind.{TapeFaultKind}
use Rattle.model.specs.declared.tape.TapeFaultKind.TheVariants as tape_fault
use Rattle.engine.specs.declared.fault.EngineFault.{EngineFault}
use Rattle.replies.specs.declared.fault.ReplyFault.{ReplyFault}
use Rattle.replies.specs.declared.fault.ReplyFault.TheVariants as reply_fault
use Rattle.papertape.specs.declared.stream.TapeReadFault.{TapeReadFault}
use Rattle.papertape.specs.declared.stream.TapeReadFault.TheVariants as tape_read_fault
use Rattle.engine.specs.declared.fault.EngineFault.TheVariants.{Source, Tape, Session, Read, Write, OutOfMemory}

abbrev pub of_source_kind : AsmFaultKind → AsmFault → EngineFault
of_source_kind source_fault.OutOfMemory fault = OutOfMemory
of_source_kind _ fault = Source fault

-- Running out of memory in any part is the engine's own fault.
abbrev pub of_source : AsmFault → EngineFault
of_source fault = of_source_kind fault.kind fault

abbrev pub of_tape_kind : TapeFaultKind → TapeFault → EngineFault
of_tape_kind tape_fault.OutOfMemory fault = OutOfMemory
of_tape_kind _ fault = Tape fault

abbrev pub of_tape : TapeFault → EngineFault
of_tape fault = of_tape_kind fault.kind fault

-- A tape read from a reader: its fault, or a read of it failed.
abbrev pub of_tape_read : TapeReadFault → EngineFault
of_tape_read (tape_read_fault.Tape fault) = of_tape fault
of_tape_read tape_read_fault.Read = Read

abbrev pub of_session : SessionFault → EngineFault
of_session session_fault.OutOfMemory = OutOfMemory
of_session fault = Session fault

-- A reply that could not be written to its end ends the engine.
abbrev pub of_reply : ReplyFault → EngineFault
of_reply reply_fault.Write = Write
of_reply reply_fault.OutOfMemory = OutOfMemory

-- What holds if the source is rejected.
abbrev pub IfSource : {X : Type 0} → Result X EngineFault → (AsmFault → Type 0) → Type 0
IfSource (Err (Source fault)) P = P fault
IfSource _ P = ⊤

-- What holds if the tape is rejected.
abbrev pub IfTape : {X : Type 0} → Result X EngineFault → (TapeFault → Type 0) → Type 0
IfTape (Err (Tape fault)) P = P fault
IfTape _ P = ⊤

-- What holds if no session can be made.
abbrev pub IfSession : {X : Type 0} → Result X EngineFault → (SessionFault → Type 0) → Type 0
IfSession (Err (Session fault)) P = P fault
IfSession _ P = ⊤

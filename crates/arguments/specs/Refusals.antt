-- Which refusal the fault of a part becomes. Running out of memory in any part is one refusal.
-- Source: mos65.
use Rattle.std.specs.declared.io.ErrorKind.{ErrorKind}
use Rattle.std.specs.declared.io.ErrorKind.TheVariants as error_kind
use Rattle.arguments.specs.declared.refusal.ReadFault.{ReadFault}
use Rattle.arguments.specs.declared.refusal.ReadFault.TheVariants.{Folder, NoSuchFile, PermissionDenied, Other}
use Rattle.arguments.specs.declared.refusal.Refusal.{Refusal}
use Rattle.arguments.specs.declared.refusal.Refusal.TheVariants.{Source, Tape, Session, OutOfMemory, Read}
use Rattle.arguments.specs.declared.write_fault.WriteFault.{WriteFault}
use Rattle.arguments.specs.declared.write_fault.WriteFault.TheVariants.{IsFolder, NoRoom, NoSuchFolder}
use Rattle.arguments.specs.declared.write_fault.WriteFault.TheVariants as write_fault
use Rattle.model.specs.declared.session_fault.SessionFault.{SessionFault}
use Rattle.model.specs.declared.session_fault.SessionFault.TheVariants as session_fault
use Rattle.model.specs.declared.source_fault.AsmFault.{AsmFault}
use Rattle.model.specs.declared.source_fault.AsmFaultKind.{AsmFaultKind}
use Rattle.model.specs.declared.source_fault.AsmFaultKind.TheVariants as source_fault
use Rattle.model.specs.declared.tape.TapeFault.{TapeFault}
use Rattle.model.specs.declared.tape.TapeFaultKind.{TapeFaultKind}
use Rattle.model.specs.declared.tape.TapeFaultKind.TheVariants as tape_fault
use Rattle.papertape.specs.declared.stream.TapeReadFault.{TapeReadFault}
use Rattle.papertape.specs.declared.stream.TapeReadFault.TheVariants as tape_read_fault

-- Why a file cannot be read, by the kind of error that the system tells.
abbrev pub read_fault_of : ErrorKind → ReadFault
read_fault_of error_kind.NotFound = NoSuchFile
read_fault_of error_kind.PermissionDenied = PermissionDenied
read_fault_of error_kind.IsADirectory = Folder
read_fault_of _ = Other

-- Why a file is not written, by the kind of error that the system tells.
abbrev pub write_fault_of : ErrorKind → WriteFault
write_fault_of error_kind.StorageFull = NoRoom
write_fault_of error_kind.QuotaExceeded = NoRoom
write_fault_of error_kind.FileTooLarge = NoRoom
write_fault_of error_kind.PermissionDenied = write_fault.PermissionDenied
write_fault_of error_kind.ReadOnlyFilesystem = write_fault.PermissionDenied
write_fault_of error_kind.IsADirectory = IsFolder
write_fault_of error_kind.NotFound = NoSuchFolder
write_fault_of error_kind.NotADirectory = NoSuchFolder
write_fault_of _ = write_fault.Other

abbrev pub of_source_kind : AsmFaultKind → AsmFault → Refusal
of_source_kind source_fault.OutOfMemory fault = OutOfMemory
of_source_kind _ fault = Source fault

abbrev pub of_source : AsmFault → Refusal
of_source fault = of_source_kind fault.kind fault

abbrev pub of_tape_kind : TapeFaultKind → TapeFault → Refusal
of_tape_kind tape_fault.OutOfMemory fault = OutOfMemory
of_tape_kind _ fault = Tape fault

-- A tape read from a reader: its fault, or a read of it failed.
abbrev pub of_tape_read : TapeReadFault → Refusal
of_tape_read (tape_read_fault.Tape fault) = of_tape_kind fault.kind fault
of_tape_read tape_read_fault.Read = Read Other

abbrev pub of_session : SessionFault → Refusal
of_session session_fault.OutOfMemory = OutOfMemory
of_session fault = Session fault

-- What is told of a file of marks that is refused, and what is read of one. Source: mos65.
use Rattle.std.specs.Prelude.{◌≡◌, ⊤, ℕ, List, ◌++◌, codes, decimal, Result, Ok, Err}
use Rattle.arguments.specs.Statuses.{status_of}
use Rattle.arguments.specs.declared.refusal.Refusal.TheVariants.{OutOfMemory, Read}
use Rattle.marks_files.specs.Marks.{Marks}
use Rattle.marks_files.specs.MarksFile.{marks_file}
use Rattle.marks_files.specs.Views.{marks_view}
use Rattle.marks_files.specs.declared.fault.MarksFault.{MarksFault}
use Rattle.marks_files.specs.declared.marks.Marks.{Marks as Held}
use Rattle.model.specs.declared.instruction.Profile.{Profile}
use Rattle.word_dis.specs.declared.said.MarksRefusal.{MarksRefusal}
use Rattle.word_dis.specs.declared.said.MarksRefusal.TheVariants.{Fault, Refused}

-- Where the fault of a file of marks is.
unfoldable pub place_of : MarksFault → List ℕ
place_of fault = codes "MARKS line " ++ decimal fault.line ++ codes " column "
    ++ decimal fault.column ++ codes " "

-- 1 for a fault; otherwise that of the refusal.
abbrev pub status_of_marks : MarksRefusal → ℕ
status_of_marks (Fault fault) = 1
status_of_marks (Refused refusal) = status_of refusal

-- What a file of marks says, or its fault. Memory may run out at any file.
abbrev pub IsMarks : Profile → Marks → List ℕ → Result Held MarksRefusal → Type 0
IsMarks profile given file (Ok m) = marks_file profile given file ≡ Ok (marks_view m)
IsMarks profile given file (Err (Fault fault)) = marks_file profile given file ≡ Err fault
IsMarks profile given file (Err (Refused OutOfMemory)) = ⊤
IsMarks profile given file (Err why) = ⊥

-- The same of some file, or it is not read. No clause can say what a file has.
abbrev pub AreOfSome : Profile → Marks → Result Held MarksRefusal → Type 0
AreOfSome profile given (Err (Refused OutOfMemory)) = ⊤
AreOfSome profile given (Err (Refused (Read why))) = ⊤
AreOfSome profile given result = (file : List ℕ) × IsMarks profile given file result

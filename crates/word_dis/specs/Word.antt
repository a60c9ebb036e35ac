-- What `dis --source` has done. Source: mos65. No clause can say what a file has.
use Rattle.std.specs.Prelude.{◌≡◌, ◌⊎◌, ⊤, ℕ, ◌+◌, Bool, List, [], ◌∷◌, ◌++◌, unwrap_or, Option, Some, None, Ok, Err}
use Rattle.arguments.specs.declared.file_refusal.FileRefusal.{FileRefusal}
use Rattle.arguments.specs.declared.refusal.Refusal.{Refusal}
use Rattle.arguments.specs.declared.refusal.Refusal.TheVariants.{Source, OutOfMemory, Read}
use Rattle.assembler.specs.Assembly.{AssemblyView, IsAssembled}
use Rattle.clap.specs.Words.{Text}
use Rattle.image_files.specs.Files.{EndsImage, HasNoImage, IsOfFile}
use Rattle.image_files.specs.declared.refusal.ImageFileRefusal.{ImageFileRefusal}
use Rattle.image_files.specs.declared.refusal.ImageRefusal.TheVariants.{Refused}
use Rattle.word_dis.specs.Asked.{SourceAsked}
use Rattle.std.specs.Io.KnownBytes.{Appends}
use Rattle.model.specs.Writers.{AppendsFront}
use Rattle.word_dis.specs.Advice.{advice, is_at_port, remark}
use Rattle.word_dis.specs.Fill.{bytes_left_out}
use Rattle.word_dis.specs.Written.{IsSourceOfPart}
use Rattle.marks_files.specs.Marks.{Marks}
use Rattle.marks_files.specs.MarksFile.{marks_file}
use Rattle.marks_files.specs.declared.fault.MarksFault.{MarksFault}
use Rattle.names_files.specs.NamesFile.{names_file}
use Rattle.word_dis.specs.declared.said.MarksRefusal.{MarksRefusal}
use Rattle.word_dis.specs.declared.said.MarksRefusal.TheVariants.{Fault}
use Rattle.word_dis.specs.declared.said.MarksRefusal.TheVariants as marks_refusal
use Rattle.memory_map.specs.declared.port.TheConstants.{DEFAULT_PORT}
use Rattle.model.specs.Names.{Definitions}
use Rattle.model.specs.Source.{HasFault}
use Rattle.model.specs.State.{Map}
use Rattle.model.specs.declared.instruction.Profile.{Profile}
use Rattle.model.specs.declared.source_fault.AsmFault.{AsmFault}

-- The map by which a source of names is read: no ROM, and the port where it is if nothing is said.
abbrev pub names_map : Profile → Map
names_map profile = record { profile = profile; rom = None; port = DEFAULT_PORT }

-- Names that a source defines.
abbrev pub AreNames : Profile → List ℕ → Definitions → Type 0
AreNames profile source names = (a : AssemblyView) × IsAssembled (names_map profile) a
    × (names ≡ a.names) × (a.source ≡ source)

-- Names that labels and a file of names give, and what is said of its lines that are left out.
abbrev pub AreFileNames : Profile → List ℕ → Definitions → List ℕ → Type 0
AreFileNames profile labels names left_out = (file : List ℕ)
    × (left_out ≡ (names_file profile file).left_out)
    × AreNames profile (labels ++ (names_file profile file).source) names

-- Names that labels alone give, by the lines of a source that define them.
abbrev pub AreLabels : Profile → List ℕ → Option Definitions → Type 0
AreLabels profile [] names = names ≡ None
AreLabels profile (b ∷ labels) None = ⊥
AreLabels profile (b ∷ labels) (Some names) = AreNames profile (b ∷ labels) names

-- There are names where a file of names is asked for, or labels are said.
abbrev pub AreGiven : Option Text → Profile → List ℕ → Option Definitions → List ℕ → Type 0
AreGiven None profile labels names left_out = AreLabels profile labels names × (left_out ≡ [])
AreGiven (Some path) profile labels None left_out = ⊥
AreGiven (Some path) profile labels (Some names) left_out
    = AreFileNames profile labels names left_out

-- ---- marks

-- What is asked for, with what is said of the image.
abbrev pub with_said : SourceAsked → Marks → SourceAsked
with_said asked said = record asked { said = said }

-- What a file of marks adds to the words, if one is asked for.
abbrev pub AreSaid : Option Text → SourceAsked → Marks → Type 0
AreSaid None asked said = said ≡ asked.said
AreSaid (Some path) asked said
    = (file : List ℕ) × (marks_file asked.profile asked.said file ≡ Ok said)

-- Some file of marks has a fault, after what the words say.
abbrev pub HasMarksFault : SourceAsked → MarksFault → Type 0
HasMarksFault asked fault
    = (file : List ℕ) × (marks_file asked.profile asked.said file ≡ Err fault)

-- Why there are no marks: their file has a fault, it is not read, or memory ran out.
abbrev pub EndsMarks : SourceAsked → MarksRefusal → Type 0
EndsMarks asked (Fault fault) = HasMarksFault asked fault
EndsMarks asked (marks_refusal.Refused OutOfMemory) = ⊤
EndsMarks asked (marks_refusal.Refused (Read why)) = ⊤
EndsMarks asked why = ⊥

-- A text is the source that is asked for, of the image of some file, with the names of some source if
-- names are asked for.
pub record IsSource (asked : SourceAsked) (text : List ℕ) : Type 0 where
  pub image : List (Option ℕ)
  pub read : IsOfFile asked.form image
  pub names : Option Definitions
  pub left_out : List ℕ
  pub given : AreGiven asked.symbols asked.profile asked.said.definitions names left_out
  pub written : IsSourceOfPart asked image names text

-- The same, whether its part has bytes where the port is if nothing is said, what is said of lines
-- of the file of names that are left out, and how many bytes are left out as fill.
pub record IsSourceWith (asked : SourceAsked) (text : List ℕ) (at_port : Bool) (names : List ℕ)
    (bytes : ℕ) : Type 0 where
  pub source : IsSource asked text
  pub same : at_port ≡ is_at_port source.written.part
  pub counted : names ≡ source.left_out
  pub padded : bytes ≡ bytes_left_out source.written.whole source.written.part

abbrev pub IsSaid : SourceAsked → Bool → List ℕ → Type 0
IsSaid asked is_right text = IsSource asked text

-- A source was written, and on the error stream a beginning of which lines of the file of names
-- were left out, if some were, of how many bytes were left out as fill, if some were, and of what
-- `asm` has to be told, if it has to be told something.
pub record IsDone (asked : SourceAsked) (held now errors told : Option (List ℕ)) : Type 0 where
  pub text : List ℕ
  pub source : IsSource asked text
  pub written : Appends held now text
  pub advised : AppendsFront errors told (remark source.left_out
      (bytes_left_out source.written.whole source.written.part)
      (advice (is_at_port source.written.part) asked.profile))

-- Why a source of names is refused: it has this fault. Memory may run out at any source.
abbrev pub EndsNames : Profile → List ℕ → Refusal → Type 0
EndsNames profile source (Source fault) = HasFault (names_map profile) source fault
EndsNames profile source OutOfMemory = ⊤
EndsNames profile source refusal = ⊥

-- Some source of names has this fault, for a processor: so many lines of labels come before its own.
abbrev pub IsNamesFault : Profile → AsmFault → Type 0
IsNamesFault profile fault = (source : List ℕ) × (labels : ℕ)
    × HasFault (names_map profile) source (record fault { line = fault.line + labels })

abbrev pub HasNamesFault : Profile → Type 0
HasNamesFault profile = (fault : AsmFault) × IsNamesFault profile fault

-- Why there are no names: the file cannot be read, or some source has this fault. Memory may run
-- out at any file.
abbrev pub EndsDefined : Profile → Refusal → Type 0
EndsDefined profile (Source fault) = IsNamesFault profile fault
EndsDefined profile OutOfMemory = ⊤
EndsDefined profile (Read why) = ⊤
EndsDefined profile refusal = ⊥

-- The file that names are of: that of names, or else that of marks.
abbrev pub names_path : SourceAsked → Text
names_path asked = unwrap_or asked.symbols (unwrap_or asked.marks asked.tape)

-- Why there are no names where some are asked for.
abbrev pub EndsNamed : SourceAsked → FileRefusal → Type 0
EndsNamed asked why = (why.file.now ≡ names_path asked) × EndsDefined asked.profile why.refusal

-- The same as why there is no source.
abbrev pub EndsAtNames : SourceAsked → ImageFileRefusal → Type 0
EndsAtNames asked why = (why.file.now ≡ names_path asked)
    × ((refusal : Refusal) × (why.why ≡ Refused refusal) × EndsDefined asked.profile refusal)

-- Why there is no source, by the file that this is of: it is no image, or not read; or there are no
-- names. No clause can say whether memory is there.
abbrev pub EndsSource : SourceAsked → ImageFileRefusal → Type 0
EndsSource asked why = ((why.file.now ≡ asked.tape) × EndsImage asked.form why.why)
    ⊎ EndsAtNames asked why

-- ---- with a file of marks

-- The source was written that is asked for with the marks of some file, if one is asked for.
abbrev pub IsDoneWith : SourceAsked → Option (List ℕ) → Option (List ℕ) → Option (List ℕ)
    → Option (List ℕ) → Type 0
IsDoneWith asked held now errors told = (said : Marks) × AreSaid asked.marks asked said
    × IsDone (with_said asked said) held now errors told

-- A text is the source that is asked for with the marks of some file, if one is asked for.
abbrev pub IsSaidWith : SourceAsked → Bool → List ℕ → Type 0
IsSaidWith asked is_right text = (said : Marks) × AreSaid asked.marks asked said
    × IsSaid (with_said asked said) is_right text

-- Why a file is refused with the status 1: it is no image, some source of names has a fault, or some
-- file of marks.
abbrev pub HasNoSource : SourceAsked → Type 0
HasNoSource asked = (HasNoImage asked.form ⊎ HasNamesFault asked.profile)
    ⊎ ((fault : MarksFault) × HasMarksFault asked fault)

-- Why a suite cannot be tested, in words. Source: mos65.
use Rattle.std.specs.Prelude.{◌≡◌, ℕ, ◌==◌, Bool, true, false, if◌then◌else◌, List, [], ◌∷◌, ◌++◌, String, codes, decimal, flat_map}
use Rattle.std.specs.declared.alloc.Global.{Global}
use Rattle.arguments.specs.declared.load_fault.LoadFault.{LoadFault}
use Rattle.arguments.specs.declared.load_fault.LoadFault.TheVariants as load
use Rattle.arguments.specs.declared.refusal.Refusal.{Refusal}
use Rattle.arguments.specs.declared.refusal.Refusal.TheVariants.{OutOfMemory}
use Rattle.loading.specs.declared.named.NamedFault.{NamedFault}
use Rattle.loading.specs.declared.named.NamedFault.TheVariants.{HasSource, OfFile, OfNames}
use Rattle.t65_values.specs.FaultWords.{fault_words}
use Rattle.t65_values.specs.declared.fault.TextFault.{TextFault}
use Rattle.t65_values.specs.Visible.{characters, visible_character}
use Rattle.t65_suites.specs.declared.fault.FileFault.{FileFault}
use Rattle.t65_suites.specs.declared.fault.FileFault.TheVariants.{InDebug, InProgram, InRows}
use Rattle.t65_suites.specs.declared.fault.Unplaced.{Unplaced}
use Rattle.t65_suites.specs.declared.fault.Unplaced.TheVariants.{Debug, Program}
use Rattle.t65_suites.specs.declared.fault.TestFault.{TestFault}
use Rattle.t65_suites.specs.declared.fault.TestFault.TheVariants.{Rows, TooLarge, NoRow, Refused}
use Rattle.t65_suites.specs.declared.wording.TheConstants.{NO_ROW, TOO_LARGE}

-- ---- memory

abbrev pub is_out : Refusal → Bool
is_out OutOfMemory = true
is_out refusal = false

abbrev pub is_out_of_rows : TestFault → Bool
is_out_of_rows (Refused refusal) = is_out refusal
is_out_of_rows fault = false

abbrev pub is_out_of_file : LoadFault → Bool
is_out_of_file (load.Refused refusal) = is_out refusal
is_out_of_file fault = false

abbrev pub is_out_of_program : NamedFault → Bool
is_out_of_program (OfFile fault) = is_out_of_file fault
is_out_of_program (OfNames refusal) = is_out refusal
is_out_of_program HasSource = false

-- Whether memory ran out.
abbrev pub is_memory : FileFault → Bool
is_memory (InRows fault) = is_out_of_rows fault
is_memory (InProgram path fault) = is_out_of_program fault
is_memory (InDebug fault) = is_out_of_file fault

-- ---- places

abbrev pub line_in_rows : TestFault → ℕ
line_in_rows (Rows fault) = fault.line
line_in_rows TooLarge = 1
line_in_rows NoRow = 1
line_in_rows (Refused refusal) = 1

-- The line of the file of rows that is to blame: that of the fault, or the first one.
abbrev pub line_of : FileFault → ℕ
line_of (InRows fault) = line_in_rows fault
line_of (InProgram path fault) = 1
line_of (InDebug fault) = 1

-- Where a fault of what rows are run on is, which has this path.
abbrev pub fault_at : String Global → Unplaced → FileFault
fault_at path (Program fault) = InProgram path fault
fault_at path (Debug fault) = InDebug fault

-- ---- texts

-- Lines end where they do.
abbrev pub shown_character : ℕ → List ℕ
shown_character c = if c == 10 then 10 ∷ [] else visible_character c

abbrev pub shown_text : List ℕ → List ℕ
shown_text bytes = flat_map shown_character (characters bytes)

-- A text is some bytes as they are shown.
abbrev pub IsShown : List ℕ → Type 0
IsShown text = (bytes : List ℕ) × (text ≡ shown_text bytes)

-- The line of a row, and what is wrong there.
abbrev pub line_title : TextFault → List ℕ
line_title fault = codes "line " ++ decimal fault.line ++ codes ": " ++ fault_words fault.kind

abbrev pub IsRowsTitle : TestFault → List ℕ → Type 0
IsRowsTitle (Rows fault) title = title ≡ line_title fault
IsRowsTitle TooLarge title = title ≡ TOO_LARGE.now
IsRowsTitle NoRow title = title ≡ NO_ROW.now
IsRowsTitle (Refused refusal) title = IsShown title

-- Why a suite cannot be tested, in a few words.
abbrev pub IsTitle : FileFault → List ℕ → Type 0
IsTitle (InRows fault) title = IsRowsTitle fault title
IsTitle (InProgram path fault) title = IsShown title
IsTitle (InDebug fault) title = IsShown title

-- Faults that may go away when a line `define NAME VALUE`, as another assembler has it, is written
-- as a definition. Our own rule. Source: mos65.
use Rattle.std.specs.Prelude.{ℕ, not, ◌&&◌, ◌||◌, Bool, true, false, if◌then◌else◌, List, [], ◌∷◌, codes, filter, Option, None, Some, is_some}
use Rattle.std.specs.List.{list_any}
use Rattle.std.specs.Str.{str_eq_ignore_ascii_case}
use Rattle.fault_notes.specs.Marks.{is_word}
use Rattle.model.specs.AllFaults.{faults_of, with_word}
use Rattle.model.specs.Names.{Definitions, number_in}
use Rattle.model.specs.State.{Map}
use Rattle.model.specs.TextLines.{lines_of}
use Rattle.model.specs.Token.{Lexeme, tokens_of}
use Rattle.model.specs.declared.source_fault.AsmFault.{AsmFault}
use Rattle.model.specs.declared.source_fault.AsmFaultKind.{AsmFaultKind}
use Rattle.model.specs.declared.source_fault.AsmFaultKind.TheVariants.{UndefinedName, UnknownHere}
use Rattle.source_notes.specs.Lines.{line_of, line_or_none}

-- A word that gives the name after it a value, in another assembler.
abbrev pub is_define : List ℕ → Bool
is_define text = str_eq_ignore_ascii_case text (codes "DEFINE")
    || str_eq_ignore_ascii_case text (codes ".DEFINE")

-- The names that are given, with the one that a line of these tokens gives.
abbrev pub with_given : List Lexeme → Definitions → Definitions
with_given (word ∷ name ∷ rest) given
    = if is_define word.text && is_word name.kind then with_word true name.text given else given
with_given tokens given = given

abbrev pub with_given_in : Option (List Lexeme) → Definitions → Definitions
with_given_in None given = given
with_given_in (Some tokens) given = with_given tokens given

-- The line of a fault.
abbrev pub fault_line : List (List ℕ) → AsmFault → List ℕ
fault_line lines fault = line_or_none (line_of lines fault.line)

-- The names that the lines of some faults give, after others.
abbrev pub given_of : List (List ℕ) → Definitions → List AsmFault → Definitions
given_of lines given [] = given
given_of lines given (fault ∷ faults)
    = given_of lines (with_given_in (tokens_of (fault_line lines fault)) given) faults

abbrev pub is_given : Definitions → Lexeme → Bool
is_given given token = is_word token.kind && is_some (number_in given token.text)

abbrev pub has_given : Definitions → Option (List Lexeme) → Bool
has_given given None = false
has_given given (Some tokens) = list_any (is_given given) tokens

-- Whether a fault is of a name that is not known.
abbrev pub is_of_name : AsmFaultKind → Bool
is_of_name UnknownHere = true
is_of_name UndefinedName = true
is_of_name kind = false

-- A fault is told, but that of a name which is not known on a line with a name that is given.
abbrev pub is_told : List (List ℕ) → Definitions → AsmFault → Bool
is_told lines given fault
    = not (is_of_name fault.kind && has_given given (tokens_of (fault_line lines fault)))

-- The faults of lines that are told: the first, which is the source's fault, is always told.
abbrev pub told_of : List (List ℕ) → List AsmFault → List AsmFault
told_of lines [] = []
told_of lines (first ∷ rest)
    = first ∷ filter (is_told lines (given_of lines [] (first ∷ rest))) rest

-- The faults of a source that are told.
unfoldable pub told_faults_of : Map → List ℕ → List AsmFault
told_faults_of bus_map source = told_of (lines_of source) (faults_of bus_map source)

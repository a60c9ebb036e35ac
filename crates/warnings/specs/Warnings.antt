-- Warnings of a source that has no fault: what may be meant otherwise. Source: mos65.
use Rattle.std.specs.Prelude.{ℕ, ℤ, pos, ◌+◌, ◌-◌, ◌==◌, nat_lt, Bool, true, false, not, ◌&&◌, ◌||◌, if◌then◌else◌, List, [], ◌∷◌, ◌++◌, length, drop, codes, Option, Some, None, is_some, Result, Ok, Err}
use Rattle.std.specs.List.{list_any}
use Rattle.std.specs.Str.{bytes_eq, str_eq_ignore_ascii_case, str_to_ascii_uppercase}
use Rattle.model.specs.AllFaults as all
use Rattle.model.specs.AllFaults.{fixed_by, found_lines, smallest, with_word}
use Rattle.model.specs.Expression.{Term}
use Rattle.model.specs.Layout.{is_byte, is_defined, name_of, zero_page_mode}
use Rattle.model.specs.Names.{Definitions, number_in}
use Rattle.model.specs.OpcodeTable.{opcode_of}
use Rattle.model.specs.Source.{first_context, most_bytes, read_lines}
use Rattle.model.specs.SourceLine.{Operand, absent, accumulator, immediate, direct, pointer, pointer_by_x, pointer_by_y, Statement, nothing, origin, bytes, words, words_high_first, reserve, finish, instruction, Line, labelled, definition}
use Rattle.model.specs.State.{Map}
use Rattle.model.specs.TextLines.{lines_of}
use Rattle.model.specs.Value.{Numbers, eval_of}
use Rattle.model.specs.declared.expression.ExprFault.{ExprFault}
use Rattle.model.specs.declared.instruction.Mnemonic.{Mnemonic}
use Rattle.model.specs.declared.instruction.Profile.{Profile}
use Rattle.model.specs.declared.line.Index.{Index}
use Rattle.warnings.specs.Flow.{falls_off, is_vectorless, wrapped_page}
use Rattle.warnings.specs.Uses.{used_by}
use Rattle.warnings.specs.Reaches.{is_plain, reaches}
use Rattle.warnings.specs.declared.written_numbers.Reach.{Reach}
use Rattle.warnings.specs.Placed.{Placed, meaning_of, placed_lines}
use Rattle.warnings.specs.Vectors.{comes_to_return, data_in, is_handled, target_of}
use Rattle.warnings.specs.declared.kinds.Vector.{Vector}
use Rattle.warnings.specs.declared.kinds.Vector.TheVariants.{Nmi, Reset, Irq}
use Rattle.warnings.specs.declared.kinds.Warning.{Warning}
use Rattle.warnings.specs.declared.kinds.WarningKind.{WarningKind}
use Rattle.warnings.specs.declared.kinds.WarningKind.TheVariants.{PlainNumber, UnusedName, LongForm, LetterCase, NoBytes, AfterEnd, NoVector, FallsOff, PointerWrap, RegisterName, SquareBrackets, VectorToData, HandlerReturns}

-- ---- one line

-- Whether a line ends in the comment that switches its warnings off.
abbrev pub is_silenced : List ℕ → Bool
is_silenced text = bytes_eq (drop (length text - 8) text) (codes "; nowarn")

abbrev pub name_in : Option Line → Option (List ℕ)
name_in None = None
name_in (Some l) = name_of l

-- A name that no expression uses.
abbrev pub is_unused : Definitions → Option (List ℕ) → Bool
is_unused used None = false
is_unused used (Some name) = not (is_defined used (Some name))

-- A name that has the same letters as an earlier one, whose names are noted in capitals.
abbrev pub is_alike : Definitions → Option (List ℕ) → Bool
is_alike capitals None = false
is_alike capitals (Some name) = is_defined capitals (Some (str_to_ascii_uppercase name))

abbrev pub with_capitals : Option (List ℕ) → Definitions → Definitions
with_capitals None capitals = capitals
with_capitals (Some name) capitals = with_word true (str_to_ascii_uppercase name) capitals

-- A name that stands for a register in a line of `mon`. A, X and Y are reserved words.
abbrev pub names_register : Option (List ℕ) → Bool
names_register None = false
names_register (Some name) = str_eq_ignore_ascii_case name (codes "S")
    || str_eq_ignore_ascii_case name (codes "P") || str_eq_ignore_ascii_case name (codes "PC")

abbrev pub is_byte_value : Result ℤ ExprFault → Bool
is_byte_value (Ok v) = is_byte v
is_byte_value (Err e) = false

-- Whether a mnemonic has the zero page mode with an index.
abbrev pub has_short_mode : Profile → Mnemonic → Index → Bool
has_short_mode profile m by = is_some (opcode_of profile m (zero_page_mode by))

-- Without `!`, with a short mode, and with a value for it.
abbrev pub is_short_direct : Bool → Bool → Bool → Bool
is_short_direct marked short small = not marked && (short && small)

abbrev pub is_short_operand : Profile → Numbers → ℕ → Mnemonic → Operand → Bool
is_short_operand profile numbers address m absent = false
is_short_operand profile numbers address m accumulator = false
is_short_operand profile numbers address m (immediate e) = false
is_short_operand profile numbers address m (direct marked e by) = is_short_direct marked
    (has_short_mode profile m by) (is_byte_value (eval_of numbers (pos address) e))
is_short_operand profile numbers address m (pointer e) = false
is_short_operand profile numbers address m (pointer_by_x e) = false
is_short_operand profile numbers address m (pointer_by_y e) = false

abbrev pub is_short_statement : Profile → Numbers → ℕ → Statement → Bool
is_short_statement profile numbers address nothing = false
is_short_statement profile numbers address (origin e) = false
is_short_statement profile numbers address (bytes items) = false
is_short_statement profile numbers address (words es) = false
is_short_statement profile numbers address (words_high_first es) = false
is_short_statement profile numbers address (reserve e) = false
is_short_statement profile numbers address finish = false
is_short_statement profile numbers address (instruction m operand)
    = is_short_operand profile numbers address m operand

abbrev pub is_short_line : Profile → Numbers → ℕ → Option Line → Bool
is_short_line profile numbers address None = false
is_short_line profile numbers address (Some (labelled label s))
    = is_short_statement profile numbers address s
is_short_line profile numbers address (Some (definition word e)) = false

-- An instruction of three bytes, without `!`, whose operand is below 256 under the numbers of all
-- names, and which has a form of two bytes for that.
abbrev pub is_long : Profile → Numbers → Placed → Bool
is_long profile numbers p = p.size == 3 && is_short_line profile numbers p.address p.line

-- ---- all lines

-- What is known of the lines: the profile, the numbers of all names, the names that are used, what
-- is written of the zero page, and the lines themselves.
pub record Known : Type 0 where
  pub profile : Profile
  pub numbers : Numbers
  pub used : Definitions
  pub reaches : List Reach
  pub lines : List Placed

abbrev pub known : Profile → Definitions → Definitions → List Reach → List Placed → Known
known profile names used reached lines = record {
  profile = profile;
  numbers = number_in names;
  used = used;
  reaches = reached;
  lines = lines;
}

abbrev pub warned : ℕ → WarningKind → Warning
warned number kind = record { line = number; kind = kind }

abbrev pub one_if : Bool → ℕ → WarningKind → List Warning
one_if told number kind = if told then warned number kind ∷ [] else []

-- The warnings of what a line says alone.
abbrev pub warnings_alone : Known → ℕ → Placed → List Warning
warnings_alone k number p
    = one_if (is_plain k.profile p k.reaches && not p.bracketed) number PlainNumber
    ++ (one_if (is_unused k.used (name_in p.line)) number UnusedName
    ++ one_if (is_long k.profile k.numbers p) number LongForm)

-- The warning of a pointer at the end of a page.
abbrev pub wrap_warnings : ℕ → Option ℕ → List Warning
wrap_warnings number None = []
wrap_warnings number (Some page) = warned number (PointerWrap page) ∷ []

-- The warnings of a line's name, of its pointer, and of where control goes from it.
abbrev pub warnings_more : Profile → Numbers → ℕ → Bool → Placed → List Warning
warnings_more profile numbers number falls p
    = one_if (names_register (name_in p.line)) number RegisterName
    ++ (wrap_warnings number (wrapped_page profile numbers p)
    ++ (one_if p.bracketed number SquareBrackets ++ one_if falls number FallsOff))

-- A vector leads to data on a line.
abbrev pub data_warnings : ℕ → Vector → Option ℕ → List Warning
data_warnings number vector None = []
data_warnings number vector (Some line) = warned number (VectorToData vector line) ∷ []

-- The warnings of a vector by where it leads.
abbrev pub led_warnings : List Placed → ℕ → Vector → ℕ → List Warning
led_warnings lines number vector target = data_warnings number vector (data_in target lines)
    ++ one_if (is_handled vector && comes_to_return target lines) number (HandlerReturns vector)

abbrev pub target_warnings : List Placed → ℕ → Vector → Option ℕ → List Warning
target_warnings lines number vector None = []
target_warnings lines number vector (Some target) = led_warnings lines number vector target

-- The warnings of a vector whose value is on a line.
abbrev pub vector_warnings : Numbers → List Placed → ℕ → Placed → Vector → List Warning
vector_warnings numbers lines number p vector
    = target_warnings lines number vector (target_of numbers vector p)

-- The warnings of the vectors that a line has.
unfoldable pub vectors_warnings : Numbers → List Placed → ℕ → Placed → List Warning
vectors_warnings numbers lines number p = vector_warnings numbers lines number p Nmi
    ++ (vector_warnings numbers lines number p Reset ++ vector_warnings numbers lines number p Irq)

-- The warnings of a line whose name has the letters of an earlier one or not, before these lines.
abbrev pub warnings_with : Known → ℕ → Bool → Placed → List Placed → List Warning
warnings_with k number alike p ps = if is_silenced p.text then []
    else warnings_alone k number p ++ (one_if alike number LetterCase
    ++ (warnings_more k.profile k.numbers number (falls_off p ps) p
    ++ vectors_warnings k.numbers k.lines number p))

-- The warnings of lines, counted from a number on, after lines with these names.
abbrev pub lines_warnings : Known → ℕ → Definitions → List Placed → List Warning
lines_warnings k number capitals [] = []
lines_warnings k number capitals (p ∷ ps)
    = warnings_with k number (is_alike capitals (name_in p.line)) p ps
    ++ lines_warnings k (number + 1) (with_capitals (name_in p.line) capitals) ps

-- ---- the source

-- Whether one of some lines has a byte.
abbrev pub has_bytes : List Placed → Bool
has_bytes ps = list_any (λ p. nat_lt 0 p.size) ps

abbrev pub begins_silenced : List Placed → Bool
begins_silenced [] = false
begins_silenced (p ∷ ps) = is_silenced p.text

-- Names, and neither an instruction nor a byte.
abbrev pub is_empty : Definitions → List Placed → Bool
is_empty names lines = nat_lt 0 (length names) && not (begins_silenced lines) && not (has_bytes lines)

-- An instruction, and no byte of the reset vector.
abbrev pub has_no_vector : List Placed → Bool
has_no_vector lines = not (begins_silenced lines) && is_vectorless lines

abbrev pub denotes_bytes : Statement → Bool
denotes_bytes nothing = false
denotes_bytes (origin e) = false
denotes_bytes (bytes items) = true
denotes_bytes (words es) = true
denotes_bytes (words_high_first es) = true
denotes_bytes (reserve e) = false
denotes_bytes finish = false
denotes_bytes (instruction m operand) = true

abbrev pub says_bytes : Option Line → Bool
says_bytes None = false
says_bytes (Some (labelled label s)) = denotes_bytes s
says_bytes (Some (definition word e)) = false

-- The first line with an instruction or bytes of those that `.END` cuts off.
abbrev pub cut_off : Profile → ℕ → List (List ℕ) → List Warning
cut_off profile number [] = []
cut_off profile number (text ∷ texts) = if says_bytes (meaning_of profile text)
    then one_if (not (is_silenced text)) number AfterEnd
    else cut_off profile (number + 1) texts

-- The warnings of lines that define these names, and of the lines after `.END`.
abbrev pub warnings_in : Profile → Definitions → List Placed → List (List ℕ) → List Warning
warnings_in profile names lines behind = one_if (is_empty names lines) 1 NoBytes
    ++ (one_if (has_no_vector lines) 1 NoVector
    ++ (lines_warnings
    (known profile names (used_by lines []) (reaches (number_in names) lines) lines) 1 [] lines
    ++ cut_off profile (length lines + 1) behind))

abbrev pub warnings_found : Profile → List (List ℕ) → List all.Found → Definitions → List Warning
warnings_found profile texts found names
    = warnings_in profile names (placed_lines profile texts found) (drop (length found) texts)

-- The warnings of a source. Lines with a fault are mended as `AllFaults.antt` of `model` says, so
-- that they are right for a source without a fault.
unfoldable pub warnings_of : Map → List ℕ → List Warning
warnings_of bus_map source = if nat_lt most_bytes (length source) then []
    else warnings_found bus_map.profile (lines_of source)
    (found_lines smallest (first_context bus_map.profile) (read_lines bus_map.profile source))
    (fixed_by smallest (first_context bus_map.profile) (read_lines bus_map.profile source)).names

-- The address of each line of a source, the form of each instruction, and the number of each name.
-- Source: mos65.
use Rattle.std.specs.Prelude.{◌≡◌, ℕ, ◌+◌, ◌*◌, ◌<◌, nat_le, ℤ, pos, negsuc, Bool, true, false, ◌==◌, if◌then◌else◌, List, [], ◌∷◌, ◌++◌, length, map, Option, Some, None, is_some, Result, Ok, Err}
use Rattle.std.specs.Option.{option_map, option_or}
use Rattle.model.specs.declared.expression.ExprFault.{ExprFault}
use Rattle.model.specs.declared.expression.ExprFault.TheVariants as expression
use Rattle.model.specs.declared.line.Index.{Index}
use Rattle.model.specs.declared.line.Index.TheVariants.{Unindexed, X, Y}
use Rattle.model.specs.declared.instruction.Profile.{Profile}
use Rattle.model.specs.declared.instruction.Mnemonic.{Mnemonic}
use Rattle.model.specs.declared.instruction.Mode.{Mode}
use Rattle.model.specs.declared.instruction.Mode.TheVariants.{Imp, Acc, Imm, Zp, ZpX, ZpY, Abs, AbsX, AbsY, IndX, IndY, Ind, Rel, IndZ}
use Rattle.model.specs.declared.instruction.Row.{Row}
use Rattle.model.specs.declared.source_fault.AsmFaultKind.{AsmFaultKind}
use Rattle.model.specs.declared.source_fault.AsmFaultKind.TheVariants.{DuplicateName, UnknownHere, NoSuchForm, TooManyNames, OriginRange, ExprRange, DivideByZero}
use Rattle.model.specs.FaultNames.{source_fault_number}
use Rattle.model.specs.OpcodeTable.{row_at, opcode_of}
use Rattle.model.specs.Expression.{Term}
use Rattle.model.specs.Value.{Numbers, eval_of}
use Rattle.model.specs.Names.{Definitions, number_in}
use Rattle.model.specs.SourceLine.{Operand, absent, accumulator, immediate, direct, pointer, pointer_by_x, pointer_by_y, Item, value, string, Statement, nothing, origin, bytes, words, words_high_first, reserve, finish, instruction, Line, labelled, definition, read_line}

-- A value goes on; a fault ends.
infixl 10 ◌>>>◌
abbrev pub ◌>>>◌ : {A B : Type 0} → Result A AsmFaultKind → (A → Result B AsmFaultKind)
    → Result B AsmFaultKind
(Ok x) >>> f = f x
(Err e) >>> f = Err e

-- ---- forms

-- How many bytes an instruction has in each mode. Source: MCS6500 manual, appendix B.
abbrev pub length_in : Mode → ℕ
length_in Imp = 1
length_in Acc = 1
length_in Imm = 2
length_in Zp = 2
length_in ZpX = 2
length_in ZpY = 2
length_in Abs = 3
length_in AbsX = 3
length_in AbsY = 3
length_in IndX = 2
length_in IndY = 2
length_in Ind = 3
length_in Rel = 2
length_in IndZ = 2

-- These are the lengths that the opcode table gives its rows.
abbrev pub LengthsAreTheTables : Type 0
LengthsAreTheTables = (profile : Profile) (opcode : ℕ) (row : Row) → opcode < 256
    → row_at profile opcode ≡ Some row → row.len ≡ length_in row.mode

-- The zero page mode and the absolute mode with an index.
abbrev pub zero_page_mode : Index → Mode
zero_page_mode Unindexed = Zp
zero_page_mode X = ZpX
zero_page_mode Y = ZpY

abbrev pub absolute_mode : Index → Mode
absolute_mode Unindexed = Abs
absolute_mode X = AbsX
absolute_mode Y = AbsY

-- How an instruction is encoded: its opcode, and the mode of its operand.
pub record Encoding : Type 0 where
  pub opcode : ℕ
  pub mode : Mode

-- A mnemonic in a mode, if the table has it.
abbrev pub in_mode : Profile → Mnemonic → Mode → Option Encoding
in_mode profile m mode
    = option_map (λ opcode. record { opcode = opcode; mode = mode }) (opcode_of profile m mode)

-- The form of an instruction: one encoding, or two between which the operand's value decides, in
-- the zero page mode and in the absolute one.
pub data Form : Type 0 where
  one : Encoding → Form
  by_size : Encoding → Encoding → Form

-- One mode, if the table has it.
abbrev pub only : Profile → Mnemonic → Mode → Option Form
only profile m mode = option_map one (in_mode profile m mode)

-- Of two modes, those that the table has.
abbrev pub either : Option Encoding → Option Encoding → Option Form
either None long = option_map one long
either (Some short) None = Some (one short)
either (Some short) (Some long) = Some (by_size short long)

-- A branch's form: its target is an unindexed operand.
abbrev pub branch_form : Profile → Mnemonic → Index → Option Form
branch_form profile m Unindexed = only profile m Rel
branch_form profile m X = None
branch_form profile m Y = None

-- The form for an operand, if the mnemonic has one in a profile. `!` takes the absolute mode.
unfoldable pub form_of : Profile → Mnemonic → Operand → Option Form
form_of profile m absent = only profile m Imp
form_of profile m accumulator = only profile m Acc
form_of profile m (immediate e) = only profile m Imm
form_of profile m (direct true e by) = only profile m (absolute_mode by)
form_of profile m (direct false e by) = option_or (branch_form profile m by)
    (either (in_mode profile m (zero_page_mode by)) (in_mode profile m (absolute_mode by)))
form_of profile m (pointer e) = option_or (only profile m Ind) (only profile m IndZ)
form_of profile m (pointer_by_x e) = only profile m IndX
form_of profile m (pointer_by_y e) = only profile m IndY

abbrev pub term_of : Operand → Option Term
term_of absent = None
term_of accumulator = None
term_of (immediate e) = Some e
term_of (direct marked e by) = Some e
term_of (pointer e) = Some e
term_of (pointer_by_x e) = Some e
term_of (pointer_by_y e) = Some e

abbrev pub is_byte : ℤ → Bool
is_byte (pos n) = nat_le n 255
is_byte (negsuc n) = false

-- The zero page mode is taken exactly if all names are known and the value is 0..255.
abbrev pub code_by_size : Encoding → Encoding → Result ℤ ExprFault → Result Encoding AsmFaultKind
code_by_size short long (Ok v) = if is_byte v then Ok short else Ok long
code_by_size short long (Err expression.UnknownName) = Ok long
code_by_size short long (Err expression.Range) = Err ExprRange
code_by_size short long (Err expression.DivideByZero) = Err DivideByZero

-- How an instruction is encoded, by the value of its operand if that decides.
abbrev pub code_for : Numbers → ℕ → Option Term → Option Form → Result Encoding AsmFaultKind
code_for numbers address e None = Err NoSuchForm
code_for numbers address e (Some (one c)) = Ok c
code_for numbers address (Some e) (Some (by_size short long))
    = code_by_size short long (eval_of numbers (pos address) e)
code_for numbers address None (Some (by_size short long)) = Ok long

-- ---- what a line denotes

-- What a line denotes, its values still open: bytes, words, or an opcode and the operand after it.
pub data Content : Type 0 where
  no_bytes : Content
  byte_list : List Item → Content
  word_list : List Term → Content
  word_list_high_first : List Term → Content
  code : ℕ → Mode → Option Term → Content

abbrev pub item_size : Item → ℕ
item_size (value e) = 1
item_size (string text) = length text

abbrev pub items_size : List Item → ℕ
items_size [] = 0
items_size (i ∷ is) = item_size i + items_size is

-- How many bytes it has.
unfoldable pub size_of : Content → ℕ
size_of no_bytes = 0
size_of (byte_list items) = items_size items
size_of (word_list es) = 2 * length es
size_of (word_list_high_first es) = 2 * length es
size_of (code opcode mode e) = length_in mode

-- A line in its place.
pub record PlacedLine : Type 0 where
  pub address : ℕ
  pub content : Content

-- ---- the statement of a line

-- A statement in its place, and the address of the next line.
abbrev pub PlacedAndNext : Type 0
PlacedAndNext = PlacedLine × ℕ

-- A statement with a size is at its line's address, and the next line comes after it.
abbrev pub placed_and_next : ℕ → Content → PlacedAndNext
placed_and_next address content
    = (record { address = address; content = content }, address + size_of content)

-- A statement without bytes, and the address to go on from.
abbrev pub empty_and_next : ℕ → ℕ → PlacedAndNext
empty_and_next address next = (record { address = address; content = no_bytes }, next)

-- An expression that places: its names have to be known here.
abbrev pub placing_value : Result ℤ ExprFault → Result ℤ AsmFaultKind
placing_value (Ok v) = Ok v
placing_value (Err expression.UnknownName) = Err UnknownHere
placing_value (Err expression.Range) = Err ExprRange
placing_value (Err expression.DivideByZero) = Err DivideByZero

-- An address to go on from.
abbrev pub in_memory : ℤ → Result ℕ AsmFaultKind
in_memory (pos n) = if nat_le n 65535 then Ok n else Err OriginRange
in_memory (negsuc n) = Err OriginRange

-- The address after so many bytes, none of them past 65535.
abbrev pub after_room : ℕ → ℤ → Result ℕ AsmFaultKind
after_room address (pos n) = if nat_le (address + n) 65536 then Ok (address + n)
    else Err OriginRange
after_room address (negsuc n) = Err OriginRange

-- A statement at an address, under the numbers of the names known there, and the next line's
-- address; or its layout fault. The next line's address is the line's plus its size; after `*= e`
-- it is the value of e.
unfoldable pub statement_at : Profile → Numbers → ℕ → Statement → Result PlacedAndNext AsmFaultKind
statement_at profile numbers address nothing = Ok (placed_and_next address no_bytes)
statement_at profile numbers address (origin e) = placing_value (eval_of numbers (pos address) e) >>> λ v.
    in_memory v >>> λ n. Ok (empty_and_next address n)
statement_at profile numbers address (bytes items) = Ok (placed_and_next address (byte_list items))
statement_at profile numbers address (words es) = Ok (placed_and_next address (word_list es))
statement_at profile numbers address (words_high_first es) = Ok (placed_and_next address (word_list_high_first es))
statement_at profile numbers address (reserve e) = placing_value (eval_of numbers (pos address) e) >>> λ v.
    after_room address v >>> λ n. Ok (empty_and_next address n)
statement_at profile numbers address finish = Ok (placed_and_next address no_bytes)
statement_at profile numbers address (instruction m operand)
    = code_for numbers address (term_of operand) (form_of profile m operand) >>> λ c.
    Ok (placed_and_next address (code c.opcode c.mode (term_of operand)))

-- ---- the line

-- The most names that a source defines.
abbrev pub most_names : ℕ
most_names = 8192

-- What is fixed before a line: the profile; by the lines before it, its address; and the names that
-- they define, with their numbers.
pub record Context : Type 0 where
  pub profile : Profile
  pub address : ℕ
  pub names : Definitions

-- The name that a line defines, if it defines one.
abbrev pub name_of : Line → Option (List ℕ)
name_of (labelled label s) = label
name_of (definition name e) = Some name

-- A label's number is its line's address.
abbrev pub label_at : ℕ → Option (List ℕ) → Definitions
label_at address None = []
label_at address (Some name) = (name, pos address) ∷ []

-- A line in its place, and what is fixed by it and the lines before it.
abbrev pub PlacedAndContext : Type 0
PlacedAndContext = PlacedLine × Context

abbrev pub placed_and_context : Profile → Definitions → PlacedAndNext → PlacedAndContext
placed_and_context profile names place
    = (place.0, record { profile = profile; address = place.1; names = names })

-- A line after lines that fix so much: its own equation. A name is known if an earlier line defines
-- it or it is the line's label.
abbrev pub line_at : Context → Line → Result PlacedAndContext AsmFaultKind
line_at before (labelled label s) =
    let names = before.names ++ label_at before.address label in
    statement_at before.profile (number_in names) before.address s >>> λ place.
    Ok (placed_and_context before.profile names place)
line_at before (definition name e) =
    placing_value (eval_of (number_in before.names) (pos before.address) e) >>> λ v. Ok (placed_and_context
    before.profile (before.names ++ (name, v) ∷ []) (empty_and_next before.address before.address))

-- Whether a name is defined.
abbrev pub is_defined : Definitions → Option (List ℕ) → Bool
is_defined names None = false
is_defined names (Some name) = is_some (number_in names name)

-- Whether a name is one too many.
abbrev pub is_full : Definitions → Option (List ℕ) → Bool
is_full names None = false
is_full names (Some name) = length names == most_names

-- The result, unless there is a fault.
abbrev pub unless : {A : Type 0} → Option AsmFaultKind → Result A AsmFaultKind
    → Result A AsmFaultKind
unless None r = r
unless (Some kind) r = Err kind

-- The lower one of a kind and TooManyNames.
abbrev pub or_too_many : AsmFaultKind → AsmFaultKind
or_too_many kind = if nat_le (source_fault_number kind) (source_fault_number TooManyNames) then kind
    else TooManyNames

-- The result for a line whose name may be one too many.
abbrev pub unless_full : {A : Type 0} → Bool → Result A AsmFaultKind → Result A AsmFaultKind
unless_full false r = r
unless_full true (Ok a) = Err TooManyNames
unless_full true (Err kind) = Err (or_too_many kind)

-- The same with the rules for names. First, a name has no earlier definition; that fault comes
-- before all others of the line's operation. Then the lower kind of a name too many and any other
-- fault.
unfoldable pub named_line_at : Context → Line → Result PlacedAndContext AsmFaultKind
named_line_at before l =
    if is_defined before.names (name_of l) then Err DuplicateName
    else unless_full (is_full before.names (name_of l)) (line_at before l)

-- A line's bytes read and laid out.
unfoldable pub layout_of : Context → List ℕ → Result PlacedAndContext AsmFaultKind
layout_of before line = read_line before.profile line >>> λ l. named_line_at before l

-- After lines that fix so much, these lines are in these places, and then so much is fixed: each
-- one meets its own equation.
abbrev pub IsLaidOut : Context → List (List ℕ) → List PlacedLine → Context → Type 0
IsLaidOut before [] placed after = (placed ≡ []) × (after ≡ before)
IsLaidOut before (line ∷ lines) [] after = ⊥
IsLaidOut before (line ∷ lines) (p ∷ ps) after = (next : Context)
    × (layout_of before line ≡ Ok (p, next)) × IsLaidOut next lines ps after

-- A line's address and how many bytes it has.
abbrev pub extent_of : PlacedLine → ℕ × ℕ
extent_of p = (p.address, size_of p.content)

abbrev pub extents_of : List PlacedLine → List (ℕ × ℕ)
extents_of placed = map extent_of placed

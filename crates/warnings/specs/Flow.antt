-- Where control goes from an instruction, and where a reset begins. Source: mos65.
use Rattle.std.specs.Prelude.{ℕ, ℤ, pos, negsuc, ◌+◌, ◌/◌, ◌%◌, ◌==◌, nat_le, nat_lt, Bool, true, false, not, ◌&&◌, if◌then◌else◌, List, [], ◌∷◌, Option, Some, None, Result, Ok, Err}
use Rattle.std.specs.List.{list_any}
use Rattle.model.specs.Effect.{operation_of}
use Rattle.model.specs.Expression.{Term}
use Rattle.model.specs.SourceLine.{Item, value, string, Operand, absent, accumulator, immediate, direct, pointer, pointer_by_x, pointer_by_y, Statement, nothing, origin, bytes, words, words_high_first, reserve, finish, instruction, Line, labelled, definition}
use Rattle.model.specs.Value.{Numbers, eval_of}
use Rattle.model.specs.declared.expression.ExprFault.{ExprFault}
use Rattle.model.specs.declared.instruction.Profile.{Profile}
use Rattle.model.specs.declared.instruction.Profile.TheVariants.{N, C}
use Rattle.model.specs.declared.operation.Operation.{Operation}
use Rattle.model.specs.declared.operation.Operation.TheVariants as operation
use Rattle.warnings.specs.Placed.{Placed}

-- ---- control that falls off

-- Whether control always comes from an operation to the next address.
abbrev pub is_straight : Operation → Bool
is_straight (operation.Branch op) = false
is_straight operation.Jump = false
is_straight operation.Call = false
is_straight operation.Return = false
is_straight operation.ReturnInterrupt = false
is_straight operation.Break = false
is_straight other = true

abbrev pub is_straight_statement : Statement → Bool
is_straight_statement (instruction m operand) = is_straight (operation_of m)
is_straight_statement other = false

abbrev pub is_straight_line : Option Line → Bool
is_straight_line None = false
is_straight_line (Some (labelled label s)) = is_straight_statement s
is_straight_line (Some (definition word e)) = false

-- One value, as of `.BYTE $2C`, which takes the two bytes after it for an operand.
abbrev pub is_one_value : List Item → Bool
is_one_value (value e ∷ []) = true
is_one_value items = false

-- What control may come to: an instruction, or one byte that is meant as an opcode.
abbrev pub is_entry_statement : Statement → Bool
is_entry_statement (instruction m operand) = true
is_entry_statement (bytes items) = is_one_value items
is_entry_statement other = false

abbrev pub is_entry_line : Option Line → Bool
is_entry_line None = false
is_entry_line (Some (labelled label s)) = is_entry_statement s
is_entry_line (Some (definition word e)) = false

-- Whether a line is at an address, and control may come to it.
abbrev pub meets_line : ℕ → Placed → Bool
meets_line next p = (p.address == next) && is_entry_line p.line

-- The same of the first of some lines that has bytes.
unfoldable pub meets : ℕ → List Placed → Bool
meets next [] = false
meets next (p ∷ ps) = if p.size == 0 then meets next ps else meets_line next p

-- Whether control comes from a line to the address after it, where the lines after it have nothing
-- that it may come to.
abbrev pub falls_off : Placed → List Placed → Bool
falls_off p ps = is_straight_line p.line && not (meets (p.address + p.size) ps)

-- ---- a pointer at the end of a page

-- The page at whose end an address is.
abbrev pub page_ended : Result ℤ ExprFault → Option ℕ
page_ended (Ok (pos v)) = if v % 256 == 255 then Some (v / 256 % 256) else None
page_ended (Ok (negsuc v)) = None
page_ended (Err e) = None

abbrev pub page_of_operand : Numbers → ℕ → Operand → Option ℕ
page_of_operand numbers address (pointer e) = page_ended (eval_of numbers (pos address) e)
page_of_operand numbers address other = None

abbrev pub page_of_statement : Numbers → ℕ → Statement → Option ℕ
page_of_statement numbers address (instruction m operand)
    = page_of_operand numbers address operand
page_of_statement numbers address other = None

abbrev pub page_of_line : Numbers → ℕ → Option Line → Option ℕ
page_of_line numbers address None = None
page_of_line numbers address (Some (labelled label s)) = page_of_statement numbers address s
page_of_line numbers address (Some (definition word e)) = None

abbrev pub is_of_n : Profile → Bool
is_of_n N = true
is_of_n C = false

-- The page at whose end the pointer stands through which a line jumps: of its two bytes profile N
-- takes the high one from the start of the same page. JMP alone has a pointer in profile N.
abbrev pub wrapped_page : Profile → Numbers → Placed → Option ℕ
wrapped_page profile numbers p = if is_of_n profile then page_of_line numbers p.address p.line
    else None

-- ---- the reset vector

abbrev pub is_instruction_statement : Statement → Bool
is_instruction_statement (instruction m operand) = true
is_instruction_statement other = false

abbrev pub is_instruction_line : Option Line → Bool
is_instruction_line None = false
is_instruction_line (Some (labelled label s)) = is_instruction_statement s
is_instruction_line (Some (definition word e)) = false

abbrev pub is_instruction : Placed → Bool
is_instruction p = is_instruction_line p.line

-- Whether a line has a byte of the reset vector, at $FFFC or $FFFD.
abbrev pub is_vector : Placed → Bool
is_vector p = nat_lt 0 p.size && (nat_le p.address 65533 && nat_lt 65532 (p.address + p.size))

-- Whether lines have an instruction, and none a byte of the reset vector.
abbrev pub is_vectorless : List Placed → Bool
is_vectorless ps = list_any is_instruction ps && not (list_any is_vector ps)

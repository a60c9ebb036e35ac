-- Operands that are an address of the zero page which nothing writes. Source: mos65.
use Rattle.std.specs.Prelude.{ℕ, ℤ, pos, negsuc, ◌+◌, ◌==◌, nat_le, nat_lt, Bool, true, false, not, ◌&&◌, ◌||◌, if◌then◌else◌, List, [], ◌∷◌, Option, Some, None, is_some, Result, Ok, Err}
use Rattle.std.specs.List.{list_any}
use Rattle.model.specs.Effect.{operation_of}
use Rattle.model.specs.Expression.{Term, literal, name, here, negated, binary, low, high}
use Rattle.model.specs.Layout.{is_byte}
use Rattle.model.specs.OpcodeTable.{opcode_of}
use Rattle.model.specs.SourceLine.{Operand, absent, accumulator, immediate, direct, pointer, pointer_by_x, pointer_by_y, Statement, nothing, origin, bytes, words, words_high_first, reserve, finish, instruction, Line, labelled, definition}
use Rattle.model.specs.Value.{Numbers, eval_of}
use Rattle.model.specs.declared.expression.ExprFault.{ExprFault}
use Rattle.model.specs.declared.instruction.Mnemonic.{Mnemonic}
use Rattle.model.specs.declared.instruction.Mode.TheVariants.{Imm}
use Rattle.model.specs.declared.instruction.Profile.{Profile}
use Rattle.model.specs.declared.line.Index.{Index}
use Rattle.model.specs.declared.line.Index.TheVariants.{Unindexed, X, Y}
use Rattle.model.specs.declared.operation.Operation.{Operation}
use Rattle.model.specs.declared.operation.Operation.TheVariants as operation
use Rattle.model.specs.declared.operation.ReadOp.TheVariants as read_op
use Rattle.warnings.specs.declared.written_numbers.Reach.{Reach}
use Rattle.warnings.specs.Placed.{Placed}

-- ---- what lines write of the zero page

-- The bytes that a line puts there.
abbrev pub reach_of_bytes : ℕ → ℕ → Option Reach
reach_of_bytes address size = if size == 0 then None
    else if nat_lt 255 address then None
    else Some (record { least = address; next = address + size })

-- An instruction that writes one address, or one of those after a base: such a base in the zero
-- page reaches all of it.
abbrev pub reach_from : Index → ℤ → Option Reach
reach_from Unindexed (pos v) = Some (record { least = v; next = v + 1 })
reach_from Unindexed (negsuc v) = None
reach_from X v = Some (record { least = 0; next = 256 })
reach_from Y v = Some (record { least = 0; next = 256 })

abbrev pub reach_at : Index → Result ℤ ExprFault → Option Reach
reach_at by (Ok v) = if is_byte v then reach_from by v else None
reach_at by (Err e) = None

-- What an operand reaches that is written to. Pointers are not followed.
abbrev pub reach_of_operand : Numbers → ℕ → Operand → Option Reach
reach_of_operand numbers address absent = None
reach_of_operand numbers address accumulator = None
reach_of_operand numbers address (immediate e) = None
reach_of_operand numbers address (direct marked e by) = reach_at by (eval_of numbers (pos address) e)
reach_of_operand numbers address (pointer e) = None
reach_of_operand numbers address (pointer_by_x e) = None
reach_of_operand numbers address (pointer_by_y e) = None

-- Whether an operation writes to its operand.
abbrev pub is_write : Operation → Bool
is_write (operation.Read op) = false
is_write (operation.Store op) = true
is_write (operation.Modify op) = true
is_write (operation.Register op) = false
is_write (operation.Branch op) = false
is_write operation.PushA = false
is_write operation.PushX = false
is_write operation.PushY = false
is_write operation.PushStatus = false
is_write operation.PullA = false
is_write operation.PullX = false
is_write operation.PullY = false
is_write operation.PullStatus = false
is_write operation.Jump = false
is_write operation.Call = false
is_write operation.Return = false
is_write operation.ReturnInterrupt = false
is_write operation.Break = false

abbrev pub reach_of_statement : Numbers → ℕ → Statement → Option Reach
reach_of_statement numbers address nothing = None
reach_of_statement numbers address (origin e) = None
reach_of_statement numbers address (bytes items) = None
reach_of_statement numbers address (words es) = None
reach_of_statement numbers address (words_high_first es) = None
reach_of_statement numbers address (reserve e) = None
reach_of_statement numbers address finish = None
reach_of_statement numbers address (instruction m operand)
    = if is_write (operation_of m) then reach_of_operand numbers address operand else None

abbrev pub reach_of_line : Numbers → ℕ → Option Line → Option Reach
reach_of_line numbers address None = None
reach_of_line numbers address (Some (labelled label s)) = reach_of_statement numbers address s
reach_of_line numbers address (Some (definition word e)) = None

abbrev pub with_reach : Option Reach → List Reach → List Reach
with_reach None rs = rs
with_reach (Some r) rs = r ∷ rs

-- What lines write of the zero page.
abbrev pub reaches : Numbers → List Placed → List Reach
reaches numbers [] = []
reaches numbers (p ∷ ps) = with_reach (reach_of_bytes p.address p.size)
    (with_reach (reach_of_line numbers p.address p.line) (reaches numbers ps))

-- ---- plain numbers

abbrev pub covers : ℤ → Reach → Bool
covers (pos n) r = nat_le r.least n && nat_lt n r.next
covers (negsuc n) r = false

-- Whether a number is an address that is written.
abbrev pub is_written : ℤ → List Reach → Bool
is_written n rs = list_any (covers n) rs

-- The number that stands alone as an expression.
abbrev pub number_alone : Term → Option ℤ
number_alone (literal v) = v
number_alone (name text) = None
number_alone here = None
number_alone (negated e) = None
number_alone (binary op a b) = None
number_alone (low e) = None
number_alone (high e) = None

-- Where Easy6502 and the playground's screen put a random byte, $FE, and the last key, $FF.
abbrev pub inputs : Reach
inputs = record { least = 254; next = 256 }

-- Whether an operation loads a register.
abbrev pub is_load : Operation → Bool
is_load (operation.Read read_op.Lda) = true
is_load (operation.Read read_op.Ldx) = true
is_load (operation.Read read_op.Ldy) = true
is_load other = false

abbrev pub is_unwritten : Option ℤ → List Reach → Bool
is_unwritten None rs = false
is_unwritten (Some n) rs = not (is_written n rs)

abbrev pub is_plain_term : Index → Term → List Reach → Bool
is_plain_term Unindexed e rs = is_unwritten (number_alone e) rs
is_plain_term X e rs = false
is_plain_term Y e rs = false

abbrev pub is_plain_operand : Operand → List Reach → Bool
is_plain_operand absent rs = false
is_plain_operand accumulator rs = false
is_plain_operand (immediate e) rs = false
is_plain_operand (direct marked e by) rs = is_plain_term by e rs
is_plain_operand (pointer e) rs = false
is_plain_operand (pointer_by_x e) rs = false
is_plain_operand (pointer_by_y e) rs = false

-- A load may read what a screen puts there.
abbrev pub is_plain_for : Operation → Operand → List Reach → Bool
is_plain_for op operand rs = is_plain_operand operand rs
    && (not (is_load op) || is_plain_operand operand (inputs ∷ []))

abbrev pub is_plain_statement : Profile → Statement → List Reach → Bool
is_plain_statement profile nothing rs = false
is_plain_statement profile (origin e) rs = false
is_plain_statement profile (bytes items) rs = false
is_plain_statement profile (words es) rs = false
is_plain_statement profile (words_high_first es) rs = false
is_plain_statement profile (reserve e) rs = false
is_plain_statement profile finish rs = false
is_plain_statement profile (instruction m operand) rs
    = is_some (opcode_of profile m Imm) && is_plain_for (operation_of m) operand rs

abbrev pub is_plain_line : Profile → Option Line → List Reach → Bool
is_plain_line profile None rs = false
is_plain_line profile (Some (labelled label s)) rs = is_plain_statement profile s rs
is_plain_line profile (Some (definition word e)) rs = false

-- Whether a line is an instruction of two bytes whose operand is a number alone, an address that
-- nothing writes, and which takes the number itself too, after `#`. A load from $FE or $FF is none.
abbrev pub is_plain : Profile → Placed → List Reach → Bool
is_plain profile p rs = p.size == 2 && is_plain_line profile p.line rs

-- The bytes of a line in its place, or its value fault. Source: mos65.
use Rattle.std.specs.Prelude.{◌≡◌, ℕ, zero, suc, ◌+◌, ◌/◌, ◌%◌, nat_lt, nat_le, ℤ, pos, negsuc, ◌-ℤ◌, Bool, false, ◌||◌, ◌&&◌, if◌then◌else◌, List, [], ◌∷◌, ◌++◌, length, map, Option, Some, None, Result, Ok, Err}
use Rattle.std.specs.List.{flat_map}
use Rattle.std.specs.Int.Signed.{lt_z}
pub use Rattle.model.specs.Arithmetic.{modulo}
use Rattle.model.specs.State.{Map, is_port}
use Rattle.model.specs.Image.{has_byte, with_bytes}
use Rattle.model.specs.FaultNames.{source_fault_number}
use Rattle.model.specs.Expression.{Term}
use Rattle.model.specs.Value.{Numbers, eval_of}
use Rattle.model.specs.SourceLine.{Item, value, string}
use Rattle.model.specs.Layout.{Context, PlacedLine, Content, no_bytes, byte_list, word_list, word_list_high_first, code, size_of, layout_of, ◌>>>◌}
use Rattle.model.specs.declared.expression.ExprFault.{ExprFault}
use Rattle.model.specs.declared.expression.ExprFault.TheVariants as expression
use Rattle.model.specs.declared.instruction.Mode.{Mode}
use Rattle.model.specs.declared.instruction.Mode.TheVariants.{Imp, Acc, Imm, Zp, ZpX, ZpY, Abs, AbsX, AbsY, IndX, IndY, Ind, Rel, IndZ}
use Rattle.model.specs.declared.source_fault.AsmFaultKind.{AsmFaultKind}
use Rattle.model.specs.declared.source_fault.AsmFaultKind.TheVariants.{UndefinedName, ByteRange, WordRange, BranchRange, PastEnd, Overlap, PortAddress, ValueExprRange, ValueDivideByZero}

-- ---- values

-- A value within bounds, or the kind of fault that it is.
abbrev pub within : ℤ → ℤ → AsmFaultKind → Result ℤ ExprFault → Result ℤ AsmFaultKind
within least most kind (Ok v) = if lt_z v least || lt_z most v then Err kind else Ok v
within least most kind (Err expression.UnknownName) = Err UndefinedName
within least most kind (Err expression.Range) = Err ValueExprRange
within least most kind (Err expression.DivideByZero) = Err ValueDivideByZero

-- The bytes of an expression, or why it has none.
abbrev pub BytesOrFault : Type 0
BytesOrFault = Result (List ℕ) AsmFaultKind

abbrev pub word_bytes : ℕ → List ℕ
word_bytes n = n % 256 ∷ n / 256 ∷ []

-- One byte: -128..255 modulo 256.
unfoldable pub byte_piece : Result ℤ ExprFault → BytesOrFault
byte_piece r = within (negsuc 127) (pos 255) ByteRange r >>> λ v. Ok (modulo v 256 ∷ [])

-- An address in the zero page: 0..255.
unfoldable pub zero_page_piece : Result ℤ ExprFault → BytesOrFault
zero_page_piece r = within (pos 0) (pos 255) ByteRange r >>> λ v. Ok (modulo v 256 ∷ [])

-- Two bytes, the low one first: -32768..65535 modulo 65536.
unfoldable pub word_piece : Result ℤ ExprFault → BytesOrFault
word_piece r
    = within (negsuc 32767) (pos 65535) WordRange r >>> λ v. Ok (word_bytes (modulo v 65536))

-- The same two bytes, the high one first.
abbrev pub word_bytes_high_first : ℕ → List ℕ
word_bytes_high_first n = n / 256 ∷ n % 256 ∷ []

unfoldable pub word_piece_high_first : Result ℤ ExprFault → BytesOrFault
word_piece_high_first r = within (negsuc 32767) (pos 65535) WordRange r >>> λ v.
    Ok (word_bytes_high_first (modulo v 65536))

-- An address, the low byte first: 0..65535.
unfoldable pub address_piece : Result ℤ ExprFault → BytesOrFault
address_piece r = within (pos 0) (pos 65535) WordRange r >>> λ v. Ok (word_bytes (modulo v 65536))

-- A distance modulo 65536 as a byte, if it is -128..127.
abbrev pub distance_piece : ℕ → BytesOrFault
distance_piece d = if nat_le d 127 || nat_le 65408 d then Ok (d % 256 ∷ []) else Err BranchRange

-- A branch's distance is its target minus the next instruction's address, modulo 65536. Source:
-- MCS6500 manual, chapter 4.
unfoldable pub branch_piece : ℕ → Result ℤ ExprFault → BytesOrFault
branch_piece address r = within (pos 0) (pos 65535) WordRange r >>> λ v.
    distance_piece (modulo (v -ℤ pos (address + 2)) 65536)

-- What comes after an opcode, by its mode.
unfoldable pub operand_piece : ℕ → Mode → Result ℤ ExprFault → BytesOrFault
operand_piece address Imp r = Ok []
operand_piece address Acc r = Ok []
operand_piece address Imm r = byte_piece r
operand_piece address Zp r = zero_page_piece r
operand_piece address ZpX r = zero_page_piece r
operand_piece address ZpY r = zero_page_piece r
operand_piece address Abs r = address_piece r
operand_piece address AbsX r = address_piece r
operand_piece address AbsY r = address_piece r
operand_piece address IndX r = zero_page_piece r
operand_piece address IndY r = zero_page_piece r
operand_piece address Ind r = address_piece r
operand_piece address Rel r = branch_piece address r
operand_piece address IndZ r = zero_page_piece r

abbrev pub after_opcode : Numbers → ℕ → Mode → Option Term → List BytesOrFault
after_opcode numbers address mode None = []
after_opcode numbers address mode (Some e)
    = operand_piece address mode (eval_of numbers (pos address) e) ∷ []

-- An item of `.BYTE`: one byte, or the bytes of a string.
abbrev pub item_piece : Numbers → ℕ → Item → BytesOrFault
item_piece numbers address (value e) = byte_piece (eval_of numbers (pos address) e)
item_piece numbers address (string text) = Ok text

-- The pieces of a line, in order.
unfoldable pub pieces_of : Numbers → ℕ → Content → List BytesOrFault
pieces_of numbers address no_bytes = []
pieces_of numbers address (byte_list items) = map (λ i. item_piece numbers address i) items
pieces_of numbers address (word_list es)
    = map (λ e. word_piece (eval_of numbers (pos address) e)) es
pieces_of numbers address (word_list_high_first es)
    = map (λ e. word_piece_high_first (eval_of numbers (pos address) e)) es
pieces_of numbers address (code opcode mode e)
    = Ok (opcode ∷ []) ∷ after_opcode numbers address mode e

abbrev pub bytes_in : BytesOrFault → List ℕ
bytes_in (Ok bytes) = bytes
bytes_in (Err kind) = []

abbrev pub kind_in : BytesOrFault → Option AsmFaultKind
kind_in (Ok bytes) = None
kind_in (Err kind) = Some kind

-- The faults of pieces.
abbrev pub kinds_in : List BytesOrFault → List (Option AsmFaultKind)
kinds_in pieces = map kind_in pieces

-- The bytes of a line without a value fault.
unfoldable pub line_bytes : Numbers → PlacedLine → List ℕ
line_bytes numbers p = flat_map bytes_in (pieces_of numbers p.address p.content)

-- ---- faults

abbrev pub kind_if : Bool → AsmFaultKind → Option AsmFaultKind
kind_if holds kind = if holds then Some kind else None

-- Whether an image has a byte at one of so many addresses from an address on.
unfoldable pub has_bytes : List (Option ℕ) → ℕ → ℕ → Bool
has_bytes image address zero = false
has_bytes image address (suc n) = has_byte image address || has_bytes image (address + 1) n

-- Whether one of so many addresses from an address on is a port address.
unfoldable pub has_port : Map → ℕ → ℕ → Bool
has_port bus_map address zero = false
has_port bus_map address (suc n) = is_port bus_map address || has_port bus_map (address + 1) n

-- What is wrong with where a line's bytes are, after the lines that make an image. Its address and
-- its size alone decide.
unfoldable pub place_kinds : Map → List (Option ℕ) → ℕ → ℕ → List (Option AsmFaultKind)
place_kinds bus_map image address size =
    kind_if (nat_lt 0 size && nat_lt 65536 (address + size)) PastEnd
    ∷ kind_if (has_bytes image address size) Overlap
    ∷ kind_if (has_port bus_map address size) PortAddress
    ∷ []

-- The lower one of two kinds, if there are two.
unfoldable pub lower : Option AsmFaultKind → Option AsmFaultKind → Option AsmFaultKind
lower None b = b
lower (Some a) None = Some a
lower (Some a) (Some b) = if nat_le (source_fault_number a) (source_fault_number b) then Some a
    else Some b

-- The kind with the lowest number, if there is one.
unfoldable pub lowest : List (Option AsmFaultKind) → Option AsmFaultKind
lowest [] = None
lowest (k ∷ ks) = lower k (lowest ks)

-- The value fault of a line after the lines that make an image, if it has one.
unfoldable pub value_fault : Map → Numbers → List (Option ℕ) → PlacedLine → Option AsmFaultKind
value_fault bus_map numbers image p =
    lowest (kinds_in (pieces_of numbers p.address p.content)
    ++ place_kinds bus_map image p.address (size_of p.content))

-- These lines, after those that make an image, have no value fault, and with their bytes they make
-- another image.
abbrev pub Makes : Map → Numbers → List (Option ℕ) → List PlacedLine → List (Option ℕ) → Type 0
Makes bus_map numbers image [] final = final ≡ image
Makes bus_map numbers image (p ∷ ps) final = (value_fault bus_map numbers image p ≡ None)
    × Makes bus_map numbers (with_bytes image p.address (line_bytes numbers p)) ps final

-- A line that is laid out and has no value fault has as many bytes as its size says.
abbrev pub BytesFillTheirSize : Type 0
BytesFillTheirSize = (bus_map : Map) (numbers : Numbers) (image : List (Option ℕ))
    (before next : Context) (line : List ℕ) (p : PlacedLine)
    → layout_of before line ≡ Ok (p, next) → value_fault bus_map numbers image p ≡ None
    → length (line_bytes numbers p) ≡ size_of p.content

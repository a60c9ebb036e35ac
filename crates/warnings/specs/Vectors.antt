-- Where the vectors of a source lead: to data, or to a handler that ends in RTS. Source: mos65. What
-- an interrupt leaves on the stack is that of `Step.antt` of `model`: a return address and P, which
-- RTI takes, and RTS does not.
use Rattle.std.specs.Prelude.{ℕ, ℤ, pos, negsuc, ◌+◌, ◌-◌, ◌/◌, ◌%◌, ◌==◌, nat_le, nat_lt, Bool, true, false, not, ◌&&◌, if◌then◌else◌, List, [], ◌∷◌, slice_get, Option, Some, None, Result, Ok, Err}
use Rattle.std.specs.List.{list_any}
use Rattle.model.specs.Effect.{operation_of}
use Rattle.model.specs.Expression.{Term}
use Rattle.model.specs.SourceLine.{Statement, nothing, origin, bytes, words, words_high_first, reserve, finish, instruction, Line, labelled, definition}
use Rattle.model.specs.Value.{Numbers, eval_of}
use Rattle.model.specs.declared.expression.ExprFault.{ExprFault}
use Rattle.model.specs.declared.operation.Operation.{Operation}
use Rattle.model.specs.declared.operation.Operation.TheVariants as operation
use Rattle.model.specs.declared.operation.RegisterOp.{RegisterOp}
use Rattle.model.specs.declared.operation.RegisterOp.TheVariants.{Txs, Tsx}
use Rattle.warnings.specs.Flow.{is_entry_line, is_instruction}
use Rattle.warnings.specs.Placed.{Placed}
use Rattle.warnings.specs.declared.kinds.Vector.{Vector}
use Rattle.warnings.specs.declared.kinds.Vector.TheVariants.{Nmi, Reset, Irq}
use Rattle.warnings.specs.declared.vectors.Course.{Course}
use Rattle.warnings.specs.declared.vectors.Course.TheVariants.{Returns, Pushes, Pulls, Passes, Leaves}
use Rattle.warnings.specs.declared.vectors.Walk.{Walk}
use Rattle.warnings.specs.declared.vectors.Walk.TheVariants.{Seeking, Going, Returned, Left}

-- ---- where a vector leads

abbrev pub address_of : Vector → ℕ
address_of Nmi = 65530
address_of Reset = 65532
address_of Irq = 65534

abbrev pub is_handled : Vector → Bool
is_handled Nmi = true
is_handled Reset = false
is_handled Irq = true

-- The values of `.WORD`.
abbrev pub words_of_statement : Statement → List Term
words_of_statement (words es) = es
words_of_statement other = []

abbrev pub words_of_line : Option Line → List Term
words_of_line None = []
words_of_line (Some (labelled label s)) = words_of_statement s
words_of_line (Some (definition word e)) = []

-- A value, if it is no negative number.
abbrev pub as_address : Result ℤ ExprFault → Option ℕ
as_address (Ok (pos v)) = Some v
as_address (Ok (negsuc v)) = None
as_address (Err e) = None

unfoldable pub value_of_word : Numbers → ℕ → Option Term → Option ℕ
value_of_word numbers address None = None
value_of_word numbers address (Some e) = as_address (eval_of numbers (pos address) e)

-- The number of the value of `.WORD` on a line whose two bytes stand at an address.
abbrev pub target_at : Numbers → ℕ → Placed → Option ℕ
target_at numbers at p = if nat_le p.address at && ((at - p.address) % 2 == 0)
    then value_of_word numbers p.address (slice_get (words_of_line p.line) ((at - p.address) / 2))
    else None

-- Where a vector leads, if its two bytes are a value of `.WORD` on this line.
unfoldable pub target_of : Numbers → Vector → Placed → Option ℕ
target_of numbers vector p = target_at numbers (address_of vector) p

-- ---- data

abbrev pub has_byte_at : ℕ → Placed → Bool
has_byte_at address p = nat_le p.address address && nat_lt address (p.address + p.size)

-- A line of data: control may come neither to an instruction of it nor to a byte that is meant as an
-- opcode.
abbrev pub if_data : ℕ → Option Line → Option ℕ
if_data number line = if is_entry_line line then None else Some number

-- The number of the line of data that has the byte at an address, among lines that are counted from
-- a number on.
unfoldable pub data_at : ℕ → ℕ → List Placed → Option ℕ
data_at address number [] = None
data_at address number (p ∷ ps) = if has_byte_at address p then if_data number p.line
    else data_at address (number + 1) ps

-- The same in a source that has an instruction.
abbrev pub data_in : ℕ → List Placed → Option ℕ
data_in address ps = if list_any is_instruction ps then data_at address 1 ps else None

-- ---- a handler

abbrev pub course_of_register : RegisterOp → Course
course_of_register Txs = Leaves
course_of_register Tsx = Leaves
course_of_register other = Passes

-- What an operation does with the stack and with control: it returns as RTS, it pushes or pulls a
-- byte, it leaves both alone, or what follows is not known from it.
abbrev pub course_of : Operation → Course
course_of (operation.Read op) = Passes
course_of (operation.Store op) = Passes
course_of (operation.Modify op) = Passes
course_of (operation.Register op) = course_of_register op
course_of operation.PushA = Pushes
course_of operation.PushX = Pushes
course_of operation.PushY = Pushes
course_of operation.PushStatus = Pushes
course_of operation.PullA = Pulls
course_of operation.PullX = Pulls
course_of operation.PullY = Pulls
course_of operation.PullStatus = Pulls
course_of operation.Return = Returns
course_of other = Leaves

abbrev pub course_of_statement : Statement → Course
course_of_statement (instruction m operand) = course_of (operation_of m)
course_of_statement other = Leaves

abbrev pub course_of_line : Option Line → Course
course_of_line None = Leaves
course_of_line (Some (labelled label s)) = course_of_statement s
course_of_line (Some (definition word e)) = Leaves

-- Where control is behind a line from which it comes to this address, and how many bytes were pushed
-- more than pulled, of 255 at most. RTS takes what the interrupt pushed only where none were.
abbrev pub behind : Course → ℕ → ℕ → Walk
behind Returns next pushed = if pushed == 0 then Returned else Left
behind Pushes next pushed = if nat_lt pushed 255 then Going next (pushed + 1) else Left
behind Pulls next pushed = if pushed == 0 then Left else Going next (pushed - 1)
behind Passes next pushed = Going next pushed
behind Leaves next pushed = Left

abbrev pub through : ℕ → Placed → Walk
through pushed p = behind (course_of_line p.line) (p.address + p.size) pushed

-- A handler begins where a line begins, and goes on in the next line with bytes if this follows in
-- memory.
abbrev pub begun : ℕ → Placed → Walk
begun address p = if nat_lt 0 p.size && (p.address == address) then through 0 p else Seeking address

abbrev pub gone : ℕ → ℕ → Placed → Walk
gone next pushed p = if nat_lt 0 p.size then (if p.address == next then through pushed p else Left)
    else Going next pushed

-- A line more.
abbrev pub walked_on : Walk → Placed → Walk
walked_on (Seeking address) p = begun address p
walked_on (Going next pushed) p = gone next pushed p
walked_on Returned p = Returned
walked_on Left p = Left

unfoldable pub walked : Walk → List Placed → Walk
walked walk [] = walk
walked walk (p ∷ ps) = walked (walked_on walk p) ps

abbrev pub is_returned : Walk → Bool
is_returned Returned = true
is_returned other = false

-- Whether control that comes to an address comes on straight to RTS, with as many bytes pulled as
-- pushed: no branch, jump, call, RTI, BRK, TSX or TXS and no data stands between.
abbrev pub comes_to_return : ℕ → List Placed → Bool
comes_to_return address ps = is_returned (walked (Seeking address) ps)

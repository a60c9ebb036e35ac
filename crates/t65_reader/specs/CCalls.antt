-- Calls of functions of C, and the rows that make them. Source: cc65 2.19, its convention of calls:
-- parameters from left to right on the software stack, the last one in A and X and the upper half
-- of four bytes in `sreg`, the result likewise; the function takes its parameters off. Where texts
-- stand, and the form of a call: mos65.
use Rattle.std.specs.Prelude.{ℕ, ◌+◌, ◌-◌, ◌%◌, ◌/◌, ◌==◌, nat_le, Bool, if◌then◌else◌, List, [], ◌∷◌, ◌++◌, length, drop, Option, Some, None, Result, Ok, Err}
use Rattle.std.specs.Str.{byte}
use Rattle.lexer.specs.Front.{is_next}
use Rattle.model.specs.Names.{Definitions}
use Rattle.t65_values.specs.ValueText.{Reads, after_word, and_then, fault_at, skip_blanks, value_of, wide_number, word_of}
use Rattle.t65_values.specs.declared.expression.Atom.{Atom}
use Rattle.t65_values.specs.declared.expression.Atom.TheVariants.{Number, Byte as ByteAt, Word as WordAt}
use Rattle.t65_values.specs.declared.expression.Operation.TheVariants.{And, Divide}
use Rattle.t65_values.specs.declared.expression.Operator.{Operator}
use Rattle.t65_values.specs.declared.expression.Value.{Value}
use Rattle.t65_values.specs.declared.fault.Base.TheVariants.{Hex}
use Rattle.t65_values.specs.declared.fault.RowFault.{RowFault}
use Rattle.t65_values.specs.declared.fault.RowFaultKind.TheVariants.{Syntax, ParameterCount, TextSize, ResultSize, NoRuntimeName, StackRoom}
use Rattle.t65_values.specs.declared.value.Letters.{Letters}
use Rattle.t65_reader.specs.CPrograms.{Callee, upper_in}
use Rattle.t65_reader.specs.Items.{equals, value_items}
use Rattle.t65_reader.specs.Sequences.{just, string_piece}
use Rattle.t65_reader.specs.declared.c_call.Argument.{Argument}
use Rattle.t65_reader.specs.declared.c_call.Given.{Given}
use Rattle.t65_reader.specs.declared.c_call.PreparedCall.{PreparedCall}
use Rattle.t65_reader.specs.declared.c_call.Given.TheVariants.{Value as GivenValue, Text as GivenText}
use Rattle.t65_reader.specs.declared.c_program.Size.{Size}
use Rattle.t65_reader.specs.declared.c_program.Size.TheVariants.{Byte, Word, Long}
use Rattle.t65_reader.specs.declared.item.StringPlace.TheVariants.{InMemory}
use Rattle.t65_reader.specs.declared.row.Item.{Item}
use Rattle.t65_reader.specs.declared.row.Register.{Register}
use Rattle.t65_reader.specs.declared.row.Register.TheVariants as register
use Rattle.t65_reader.specs.declared.row.Target.TheVariants as place

-- ---- arguments

-- Five to eight hex digits, or a value.
abbrev pub wide_or_value : Definitions → Letters → List ℕ → Option ℕ → Reads Value
wide_or_value names letters text None = value_of names letters Hex text
wide_or_value names letters text (Some number) = Ok (just (Number number), after_word text)

unfoldable pub wide_value_of : Definitions → Letters → List ℕ → Reads Value
wide_value_of names letters text = wide_or_value names letters text (wide_number (word_of text))

-- An argument and the bytes of all texts so far, with a 0 behind each.
abbrev pub Argued : Type 0
Argued = Reads (Argument × List Value)

abbrev pub value_argument : List Value → Size → Value → List ℕ → Argued
value_argument texts size value rest
    = Ok ((record { size = size; given = GivenValue value }, texts), rest)

abbrev pub ended_text : List Value → Size → List Value → List ℕ → Argued
ended_text texts size more rest = Ok (
  (
    record { size = size; given = GivenText (length texts % 65536) },
    more ++ just (Number 0) ∷ [],
  ),
  rest,
)

-- A text is given by its address, which has two bytes.
unfoldable pub text_argument : List Value → Size → List ℕ → Argued
text_argument texts Word text = and_then (string_piece texts text) (ended_text texts Word)
text_argument texts Byte text = Err (fault_at TextSize text)
text_argument texts Long text = Err (fault_at TextSize text)

unfoldable pub argument_of : Definitions → Letters → List Value → Size → List ℕ → Argued
argument_of names letters texts size text =
    if is_next 34 text then text_argument texts size text
    else and_then (wide_value_of names letters text) (value_argument texts size)

-- The text of an argument: behind a comma, if others stand before it.
abbrev pub argument_text : Bool → List ℕ → Result (List ℕ) RowFault
argument_text is_first text =
    if is_next (byte ")") text then Err (fault_at ParameterCount text)
    else if is_first then Ok text
    else if is_next (byte ",") text then Ok (skip_blanks (drop 1 text))
    else Err (fault_at Syntax text)

abbrev pub argument_after : Definitions → Letters → List Value → Size → Result (List ℕ) RowFault
    → Argued
argument_after names letters texts size (Ok text) = argument_of names letters texts size text
argument_after names letters texts size (Err fault) = Err fault

-- Arguments, and the bytes of their texts.
abbrev pub Arguments : Type 0
Arguments = Reads (List Argument × List Value)

-- `)` stands behind as many arguments as the function has parameters.
abbrev pub closed : List ℕ → Result (List ℕ) RowFault
closed text = if is_next (byte ")") text then Ok (skip_blanks (drop 1 text))
    else Err (fault_at ParameterCount text)

abbrev pub arguments_before : List Argument → List Value → Result (List ℕ) RowFault → Arguments
arguments_before found texts (Ok rest) = Ok ((found, texts), rest)
arguments_before found texts (Err fault) = Err fault

-- An argument for each parameter behind those that were found, with commas between them, and `)`.
unfoldable pub arguments_of : Definitions → Letters → List Argument → List Value → List Size
    → List ℕ → Arguments
arguments_of names letters found texts [] text = arguments_before found texts (closed text)
arguments_of names letters found texts (size ∷ sizes) text = and_then
    (argument_after names letters texts size (argument_text (length found == 0) text))
    (λ read rest. arguments_of names letters (found ++ read.0 ∷ []) read.1 sizes rest)

-- ---- what is given

-- The address so many bytes below one.
abbrev pub below : List ℕ → ℕ → ℕ → Result ℕ RowFault
below text address count = if nat_le count address then Ok (address - count)
    else Err (fault_at StackRoom text)

abbrev pub byte_count : Size → ℕ
byte_count Byte = 1
byte_count Word = 2
byte_count Long = 4

abbrev pub behind : ℕ → ℕ → ℕ
behind address count = (address + count) % 65536

abbrev pub atom_number : Atom → Option ℕ
atom_number (Number number) = Some number
atom_number atom = None

abbrev pub number_by : Atom → Option Operator → Option ℕ
number_by atom None = atom_number atom
number_by atom (Some operator) = None

-- The number that a value is written as.
abbrev pub number_alone : Value → Option ℕ
number_alone value = number_by value.first value.second

abbrev pub number_at : ℕ → ℕ → Item
number_at address number = equals (place.Word address) (just (Number number))

-- Four bytes: a number that is written, or a value of two bytes.
abbrev pub long_items : ℕ → Value → Option ℕ → List Item
long_items address value None
    = equals (place.Word address) value ∷ number_at (behind address 2) 0 ∷ []
long_items address value (Some number)
    = number_at address (number % 65536) ∷ number_at (behind address 2) (number / 65536) ∷ []

-- A parameter, the low byte first.
abbrev pub parameter_items : ℕ → Size → Value → List Item
parameter_items address Byte value = equals (place.Byte address) value ∷ []
parameter_items address Word value = equals (place.Word address) value ∷ []
parameter_items address Long value = long_items address value (number_alone value)

-- A text is given by its address, among texts that begin somewhere.
abbrev pub given_value : ℕ → Given → Value
given_value start (GivenValue value) = value
given_value start (GivenText offset) = just (Number (behind start offset))

-- Items, the address of the last parameter, and its size, if there is one.
pub record Laid : Type 0 where
  pub items : List Item
  pub address : ℕ
  pub last : Option Size

abbrev pub laid_below : Result ℕ RowFault → (ℕ → Result Laid RowFault) → Result Laid RowFault
laid_below (Ok address) next = next address
laid_below (Err fault) next = Err fault

-- Parameters from left to right, each below the one before it.
unfoldable pub laid_out : List ℕ → ℕ → List Item → ℕ → Option Size → List Argument
    → Result Laid RowFault
laid_out text start found address last []
    = Ok (record { items = found; address = address; last = last })
laid_out text start found address last (argument ∷ arguments)
    = laid_below (below text address (byte_count argument.size))
    (λ lower. laid_out text start
    (found ++ parameter_items lower argument.size (given_value start argument.given))
    lower (Some argument.size) arguments)

-- The software stack pointer before a call: it points to the last parameter but one, as the
-- function itself puts the last one there.
abbrev pub before_last : ℕ → Option Size → ℕ
before_last address None = address
before_last address (Some size) = behind address (byte_count size)

abbrev pub pointer_item : ℕ → ℕ → Item
pointer_item pointer address = number_at pointer address

abbrev pub loaded : Register → ℕ → Item
loaded name address = equals (place.Register name) (just (ByteAt address))

abbrev pub word_registers : ℕ → List Item
word_registers address = loaded register.A address ∷ loaded register.X (behind address 1) ∷ []

abbrev pub long_registers : List ℕ → ℕ → Option ℕ → Result (List Item) RowFault
long_registers text address None = Err (fault_at NoRuntimeName text)
long_registers text address (Some upper) = Ok (word_registers address
    ++ equals (place.Word upper) (just (WordAt (behind address 2))) ∷ [])

-- The last parameter in registers, from where the function will put it.
unfoldable pub register_items : List ℕ → Option ℕ → ℕ → Option Size → Result (List Item) RowFault
register_items text upper address None = Ok []
register_items text upper address (Some Byte) = Ok (loaded register.A address ∷ [])
register_items text upper address (Some Word) = Ok (word_registers address)
register_items text upper address (Some Long) = long_registers text address upper

-- What is given before a call, and the software stack pointer after it: where the texts begin.
pub record Prepared : Type 0 where
  pub given : List Item
  pub start : ℕ

-- Items behind others.
abbrev pub appended : List Item → Result (List Item) RowFault → Result (List Item) RowFault
appended found (Ok items) = Ok (found ++ items)
appended found (Err fault) = Err fault

abbrev pub prepared_from : ℕ → Result (List Item) RowFault → Result Prepared RowFault
prepared_from start (Ok given) = Ok (record { given = given; start = start })
prepared_from start (Err fault) = Err fault

abbrev pub with_pointer : Option ℕ → ℕ → List ℕ → ℕ → Result Laid RowFault
    → Result Prepared RowFault
with_pointer upper pointer text start (Err fault) = Err fault
with_pointer upper pointer text start (Ok laid) = prepared_from start (appended
    (laid.items ++ pointer_item pointer (before_last laid.address laid.last) ∷ [])
    (register_items text upper laid.address laid.last))

abbrev pub with_texts : Option ℕ → Callee → List ℕ → List Argument → List Value
    → Result ℕ RowFault → Result Prepared RowFault
with_texts upper callee text arguments texts (Err fault) = Err fault
with_texts upper callee text arguments texts (Ok start)
    = with_pointer upper callee.pointer text start
    (laid_out text start (value_items InMemory start texts) start None arguments)

-- Texts stand where the C stack begins, as locals of the caller would, and the parameters below.
unfoldable pub prepared_of : Option ℕ → Callee → List ℕ → List Argument → List Value
    → Result Prepared RowFault
prepared_of upper callee text arguments texts = with_texts upper callee text arguments texts
    (below text callee.top (length texts))

-- ---- results

abbrev pub wanted_byte : Register → ℕ → Item
wanted_byte name number = equals (place.Register name) (just (Number (number % 256)))

abbrev pub wanted_word : ℕ → List Item
wanted_word number = wanted_byte register.A number ∷ wanted_byte register.X (number / 256) ∷ []

abbrev pub wanted_long : List ℕ → Option ℕ → ℕ → Result (List Item) RowFault
wanted_long text None number = Err (fault_at NoRuntimeName text)
wanted_long text (Some upper) number = Ok (wanted_word number ++ number_at upper (number / 65536) ∷ [])

-- A number of so many digits: a byte in A, two in A and X, four with the upper half.
unfoldable pub wanted_number : List ℕ → Option ℕ → ℕ → ℕ → Result (List Item) RowFault
wanted_number text upper number count =
    if count == 2 then Ok (wanted_byte register.A number ∷ [])
    else if count == 4 then Ok (wanted_word number)
    else if count == 8 then wanted_long text upper number
    else Err (fault_at ResultSize text)

abbrev pub with_part : Value → Operator → Option Operator → Value
with_part value part None = record value { second = Some part }
with_part value part (Some second) = record value { third = Some part }

abbrev pub low_byte : Operator
low_byte = record { operation = And; right = Number 255 }

abbrev pub upper_part : Operator
upper_part = record { operation = Divide; right = Number 256 }

-- A value of two bytes.
abbrev pub wanted_value : List ℕ → Value → Option Operator → Result (List Item) RowFault
wanted_value text value (Some third) = Err (fault_at ResultSize text)
wanted_value text value None = Ok (
    equals (place.Register register.A) (with_part value low_byte value.second)
    ∷ equals (place.Register register.X) (with_part value upper_part value.second) ∷ [])

-- The word that has the digits of a number.
abbrev pub digits_at : List ℕ → List ℕ
digits_at text = word_of (if is_next (byte "$") text then drop 1 text else text)

abbrev pub wanted_by : List ℕ → Option ℕ → Value → Option ℕ → Result (List Item) RowFault
wanted_by text upper value (Some number)
    = wanted_number text upper number (length (digits_at text))
wanted_by text upper value None = wanted_value text value value.third

abbrev pub then_rest : List ℕ → Result (List Item) RowFault → Reads (List Item)
then_rest rest (Ok items) = Ok (items, rest)
then_rest rest (Err fault) = Err fault

-- What a function has to return.
unfoldable pub result_of : Definitions → Letters → List ℕ → Reads (List Item)
result_of names letters text = and_then (wide_value_of names letters text) (λ value rest.
    then_rest rest (wanted_by text (upper_in names) value (number_alone value)))

abbrev pub result_after : Definitions → Letters → Result (List ℕ) RowFault → Reads (List Item)
result_after names letters (Ok text) = result_of names letters text
result_after names letters (Err fault) = Err fault

-- What is given as the code keeps it.
abbrev pub prepared_view : PreparedCall → Prepared
prepared_view prepared = record { given = prepared.given.items; start = prepared.start }

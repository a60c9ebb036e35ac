-- Functions of C as rows call them. Source: cc65 2.19, its convention of calls; mos65 for what is
-- known of a program.
use Rattle.std.specs.Prelude.{ℕ, ℤ, pos, negsuc, ◌==◌, ◌&&◌, ◌||◌, nat_le, Bool, false, if◌then◌else◌, List, [], ◌∷◌, codes, map, Option, Some, None, Result, Ok, Err}
use Rattle.std.specs.Option.{option_map, option_or}
use Rattle.std.specs.Str.{byte, bytes_eq}
use Rattle.model.specs.Names.{Definitions, number_in}
use Rattle.t65_values.specs.ValueText.{fault_at, word_of}
use Rattle.t65_values.specs.declared.fault.RowFault.{RowFault}
use Rattle.t65_values.specs.declared.fault.RowFaultKind.TheVariants.{NoFunction, UnknownParameters, NoStack, NoRuntimeName}
use Rattle.t65_reader.specs.declared.c_program.Callee.{Callee as HeldCallee}
use Rattle.t65_reader.specs.declared.c_program.CProgram.{CProgram}
use Rattle.t65_reader.specs.declared.c_program.Function.{Function}
use Rattle.t65_reader.specs.declared.c_program.Size.{Size}

-- A function, and the sizes of its parameters from left to right, if it is known how it takes them.
pub record SeenFunction : Type 0 where
  pub name : List ℕ
  pub address : ℕ
  pub sizes : Option (List Size)

-- Where the C stack begins, which grows downwards, if that is said; and the functions.
pub record SeenProgram : Type 0 where
  pub stack : Option ℕ
  pub functions : List SeenFunction

abbrev pub no_program : SeenProgram
no_program = record { stack = None; functions = [] }

-- ---- the function of a name

-- A name is `_` and a word, as cc65 makes it of a name of C.
abbrev pub is_behind_underscore : List ℕ → List ℕ → Bool
is_behind_underscore [] word = false
is_behind_underscore (b ∷ name) word = (b == byte "_") && bytes_eq name word

abbrev pub is_called : List ℕ → List ℕ → Bool
is_called name word = bytes_eq name word || is_behind_underscore name word

-- Of functions of one name the first is called.
abbrev pub find_function : List ℕ → List SeenFunction → Option SeenFunction
find_function word [] = None
find_function word (function ∷ functions) = if is_called function.name word then Some function
    else find_function word functions

-- ---- names of cc65's runtime

abbrev pub address_or_none : Option ℤ → Option ℕ
address_or_none None = None
address_or_none (Some (pos n)) = if nat_le n 65535 then Some n else None
address_or_none (Some (negsuc n)) = None

abbrev pub runtime_address : Definitions → List ℕ → Option ℕ
runtime_address names name = address_or_none (number_in names name)

-- The software stack pointer: `sp`, or `c_sp` as later libraries have it.
unfoldable pub pointer_in : Definitions → Option ℕ
pointer_in names
    = option_or (runtime_address names (codes "sp")) (runtime_address names (codes "c_sp"))

-- The upper half of four bytes that a call takes or returns.
unfoldable pub upper_in : Definitions → Option ℕ
upper_in names = runtime_address names (codes "sreg")

-- ---- what a call needs

-- The address of a function, the sizes of its parameters from left to right, where the C stack
-- begins, and where its pointer stands.
pub record Callee : Type 0 where
  pub address : ℕ
  pub sizes : List Size
  pub top : ℕ
  pub pointer : ℕ

abbrev pub sized_callee : List ℕ → ℕ → ℕ → ℕ → Option (List Size) → Result Callee RowFault
sized_callee text top pointer address None = Err (fault_at UnknownParameters text)
sized_callee text top pointer address (Some sizes)
    = Ok (record { address = address; sizes = sizes; top = top; pointer = pointer })

abbrev pub pointed_callee : List ℕ → ℕ → SeenFunction → Option ℕ → Result Callee RowFault
pointed_callee text top function None = Err (fault_at NoRuntimeName text)
pointed_callee text top function (Some pointer)
    = sized_callee text top pointer function.address function.sizes

abbrev pub placed_callee : Definitions → List ℕ → SeenFunction → Option ℕ → Result Callee RowFault
placed_callee names text function None = Err (fault_at NoStack text)
placed_callee names text function (Some top)
    = pointed_callee text top function (pointer_in names)

abbrev pub found_callee : Definitions → Option ℕ → List ℕ → Option SeenFunction
    → Result Callee RowFault
found_callee names stack text None = Err (fault_at NoFunction text)
found_callee names stack text (Some function) = placed_callee names text function stack

-- What the call of the function needs whose name stands at the front of a text.
unfoldable pub callee_of : Definitions → SeenProgram → List ℕ → Result Callee RowFault
callee_of names program text
    = found_callee names program.stack text (find_function (word_of text) program.functions)

-- ---- as the code keeps them

abbrev pub function_view : Function → SeenFunction
function_view function = record {
  name = function.name.items;
  address = function.address;
  sizes = option_map (λ sizes. sizes.items) function.sizes;
}

abbrev pub program_view : CProgram → SeenProgram
program_view program = record {
  stack = program.stack;
  functions = map function_view program.functions.items;
}

abbrev pub callee_view : HeldCallee → Callee
callee_view callee = record {
  address = callee.address;
  sizes = callee.sizes.now;
  top = callee.top;
  pointer = callee.pointer;
}

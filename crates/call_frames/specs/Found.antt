-- What the names and the functions of a program say of its routines, its functions and its software
-- stack pointer. Source: cc65 2.19; mos65 for names that stand twice.
use Rattle.std.specs.Prelude.{ℕ, ◌+◌, ◌==◌, ◌&&◌, nat_le, nat_lt, Bool, true, false, codes, find, if◌then◌else◌, List, [], ◌∷◌, map, Option, Some, None}
use Rattle.std.specs.List.{flat_map}
use Rattle.std.specs.Option.{option_or}
use Rattle.c_frames.specs.Names.{effect_named}
use Rattle.c_frames.specs.declared.locals.Auto.{Auto}
use Rattle.c_frames.specs.declared.programs.Function.{Function}
use Rattle.c_frames.specs.declared.routines.Effect.{Effect}
use Rattle.c_frames.specs.declared.routines.Routine.{Routine}
use Rattle.source_map.specs.Functions.{FunctionView, LocalView}
use Rattle.source_map.specs.Names.{Named, has_text}

-- ---- routines of the runtime

abbrev pub routine_by : ℕ → Option Effect → List Routine
routine_by address None = []
routine_by address (Some effect) = record { address = address; effect = effect } ∷ []

abbrev pub begins_function : List FunctionView → ℕ → Bool
begins_function [] address = false
begins_function (function ∷ functions) address = if function.start == address then true
    else begins_function functions address

-- Where a function of C begins, the name is its own, whatever the library has by this name.
abbrev pub routine_of : List FunctionView → Named → List Routine
routine_of functions name = if begins_function functions name.address then []
    else routine_by name.address (effect_named name.text)

-- The routines that names have, in their order.
abbrev pub routines_in : List FunctionView → List Named → List Routine
routines_in functions names = flat_map (routine_of functions) names

-- ---- functions of C

abbrev pub range_of : FunctionView → Function
range_of function = record { start = function.start; size = function.size }

abbrev pub functions_in : List FunctionView → List Function
functions_in functions = map range_of functions

abbrev pub auto_of : LocalView → Auto
auto_of local = record { offset = local.offset; follows_register = local.follows_register }

abbrev pub autos_of : List LocalView → List Auto
autos_of locals = map auto_of locals

abbrev pub has_byte : ℕ → FunctionView → Bool
has_byte address function
    = nat_le function.start address && nat_lt address (function.start + function.size)

-- The first function that has the byte at an address.
abbrev pub function_at : List FunctionView → ℕ → Option FunctionView
function_at functions address = find (has_byte address) functions

-- ---- the software stack pointer

abbrev pub address_if : List ℕ → Named → List ℕ
address_if text name = if has_text text name then name.address ∷ [] else []

abbrev pub addresses_named : List ℕ → List Named → List ℕ
addresses_named text names = flat_map (address_if text) names

abbrev pub are_all : ℕ → List ℕ → Bool
are_all address [] = true
are_all address (other ∷ others) = if other == address then are_all address others else false

-- The address that some have in common, if two bytes of the zero page stand there.
abbrev pub common : List ℕ → Option ℕ
common [] = None
common (first ∷ others) = if nat_lt first 255 && are_all first others then Some first else None

-- Where the software stack pointer is: cc65 after 2.19 calls it `c_sp`. Where two names differ it
-- is not known.
abbrev pub pointer_in : List Named → Option ℕ
pointer_in names = option_or (common (addresses_named (codes "sp") names))
    (common (addresses_named (codes "c_sp") names))

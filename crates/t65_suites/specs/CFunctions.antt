-- The functions of C that rows can call, and the sizes of their parameters, which are known without
-- types: a parameter reaches to the one before it, and all together are what the function takes off
-- the software stack at its end. Source: cc65 2.19; mos65 for what is not known.
use Rattle.std.specs.Prelude.{◌≡◌, ℕ, ◌+◌, ◌-◌, ◌==◌, ◌&&◌, nat_le, nat_lt, Bool, false, if◌then◌else◌, List, [], ◌∷◌, ◌++◌, map, Option, Some, None}
use Rattle.call_frames.specs.Tables.{AreTablesIn, TablesView, parameters_of}
use Rattle.call_frames.specs.declared.tables.Parameters.{Parameters}
use Rattle.model.specs.Event.{start}
use Rattle.model.specs.State.{Map}
use Rattle.source_map.specs.Functions.{FunctionView, LocalView}
use Rattle.source_map.specs.Lines.{PlacesView}
use Rattle.clap.specs.Words.{Text}
use Rattle.t65_reader.specs.CPrograms.{SeenFunction, SeenProgram, no_program}
use Rattle.t65_reader.specs.declared.c_program.Size.{Size}
use Rattle.t65_reader.specs.declared.c_program.Size.TheVariants.{Byte, Word, Long}
use Rattle.t65_suites.specs.declared.c_functions.Sizing.{Sizing as HeldSizing}

abbrev pub size_of : ℕ → Option Size
size_of count =
    if count == 1 then Some Byte
    else if count == 2 then Some Word
    else if count == 4 then Some Long
    else None

-- The sizes of the first parameters, the offset of the last one of them, if all have such a size,
-- and how many bytes it has.
pub record Sizing : Type 0 where
  pub sizes : List Size
  pub bound : Option ℕ
  pub last : ℕ

abbrev pub sized : List Size → ℕ → ℕ → Option Size → Sizing
sized sizes offset count None = record { sizes = sizes; bound = None; last = count }
sized sizes offset count (Some size)
    = record { sizes = sizes ++ size ∷ []; bound = Some offset; last = count }

-- The parameter before one that follows a register variable is that, and has no offset.
abbrev pub known_size : Bool → ℕ → Option Size
known_size follows_register count = if follows_register then None else size_of count

-- A parameter has an offset that is not below 0, and other locals have one that is.
abbrev pub with_offset : Sizing → ℕ → Bool → Option ℕ → Sizing
with_offset sizing offset follows_register None = sizing
with_offset sizing offset follows_register (Some bound) = if nat_lt 32767 offset then sizing
    else sized sizing.sizes offset (bound - offset) (known_size follows_register (bound - offset))

abbrev pub with_locals : Sizing → List LocalView → Sizing
with_locals sizing [] = sizing
with_locals sizing (local ∷ locals)
    = with_locals (with_offset sizing local.offset local.follows_register sizing.bound) locals

abbrev pub no_size : ℕ → Sizing
no_size count = record { sizes = []; bound = Some count; last = 0 }

abbrev pub is_start : Option ℕ → Bool
is_start None = false
is_start (Some offset) = offset == 0

-- The last parameter stands at offset 0, and the function pushes it first of all.
abbrev pub known_sizes : ℕ → Sizing → Option (List Size)
known_sizes last sizing = if is_start sizing.bound && (sizing.last == last) then Some sizing.sizes
    else None

-- The code of cc65 reaches 256 bytes of parameters.
abbrev pub sizes_by : ℕ → ℕ → List LocalView → Option (List Size)
sizes_by stacked last locals = if nat_le (stacked + last) 256
    then known_sizes last (with_locals (no_size (stacked + last)) locals) else None

abbrev pub sizes_with : Option Parameters → List LocalView → Option (List Size)
sizes_with None locals = None
sizes_with (Some parameters) locals = sizes_by parameters.stacked parameters.last locals

abbrev pub parameters_in : Option TablesView → ℕ → Option Parameters
parameters_in None address = None
parameters_in (Some tables) address = parameters_of tables address

-- A function as rows call it.
abbrev pub called_function : Option TablesView → FunctionView → SeenFunction
called_function tables function = record {
  name = function.name;
  address = function.start;
  sizes = sizes_with (parameters_in tables function.start) function.locals;
}

-- The functions that debug information tells of, by what the code does that stands in memory at the
-- machine's start; and where the C stack begins.
pub record IsCProgram (bus_map : Map) (image : List (Option ℕ)) (stack : Option ℕ)
    (places : PlacesView) (program : SeenProgram) : Type 0 where
  pub tables : Option TablesView
  pub are : AreTablesIn (start bus_map image).bus.memory places tables
  pub stack_is : program.stack ≡ stack
  pub functions_are : program.functions ≡ map (called_function tables) places.functions

-- Without debug information no function is known.
abbrev pub AreFunctions : Option Text → Map → List (Option ℕ) → Option ℕ → PlacesView
    → SeenProgram → Type 0
AreFunctions None bus_map image stack places program = program ≡ no_program
AreFunctions (Some file) bus_map image stack places program
    = IsCProgram bus_map image stack places program

-- Sizes as the code keeps them.
abbrev pub sizing_view : HeldSizing → Sizing
sizing_view sizing
    = record { sizes = sizing.sizes.items; bound = sizing.bound; last = sizing.last }

-- What is found by following the code of a state, and what it says of frames, locals and
-- parameters. Source: mos65; c_frames has the rules.
use Rattle.std.specs.Prelude.{◌≡◌, ◌≢◌, ◌⊎◌, ℕ, ◌==◌, if◌then◌else◌, List, [], length, map, Option, Some, None}
use Rattle.std.specs.Option.{option_and_then}
use Rattle.c_frames.specs.Closures.{AreDepths, AreRests, depth_at}
use Rattle.c_frames.specs.Frames.{frames_from, known, pushed_first}
use Rattle.c_frames.specs.Locals.{local_at}
use Rattle.c_frames.specs.Programs.{Program}
use Rattle.c_frames.specs.Ways.{word_at}
use Rattle.c_frames.specs.declared.locals.Auto.{Auto}
use Rattle.c_frames.specs.declared.locals.Local.{Local}
use Rattle.c_frames.specs.declared.rises.Depth.{Depth}
use Rattle.c_frames.specs.declared.rises.Rise.{Rise}
use Rattle.c_frames.specs.declared.walk.Frame.{Frame}
use Rattle.c_frames.specs.declared.walk.Standing.{Standing}
use Rattle.model.specs.declared.registers.Regs.{Regs}
use Rattle.source_map.specs.Functions.{FunctionView}
use Rattle.source_map.specs.Lines.{PlacesView}
use Rattle.call_frames.specs.Found.{autos_of, functions_in, pointer_in, routines_in}
use Rattle.call_frames.specs.declared.tables.Parameters.{Parameters}

-- ---- the program

pub record TablesView : Type 0 where
  pub program : Program
  pub rests : List Depth
  pub depths : List Depth

-- The program in a memory, where the software stack pointer is at an address.
abbrev pub program_of : List ℕ → PlacesView → ℕ → Program
program_of memory places pointer = record {
  memory = memory;
  routines = routines_in places.functions places.names;
  functions = functions_in places.functions;
  pointer = pointer;
}

-- A program was followed.
pub record IsFollowed (p : Program) (tables : TablesView) : Type 0 where
  pub program : tables.program ≡ p
  pub rests : AreRests p tables.rests
  pub depths : AreDepths p tables.rests tables.depths

-- Functions of C and the software stack pointer are known, and the program was followed.
pub record AreTables (memory : List ℕ) (places : PlacesView) (tables : TablesView) : Type 0 where
  pub pointer : ℕ
  pub some : length places.functions ≢ 0
  pub found : pointer_in places.names ≡ Some pointer
  pub followed : IsFollowed (program_of memory places pointer) tables

abbrev pub AreTablesIn : List ℕ → PlacesView → Option TablesView → Type 0
AreTablesIn memory places None = (length places.functions ≡ 0) ⊎ (pointer_in places.names ≡ None)
AreTablesIn memory places (Some tables) = AreTables memory places tables

-- ---- frames

abbrev pub standing : Program → Regs → Standing
standing p regs = record { pc = regs.pc; s = regs.s; sp = word_at p.memory p.pointer }

-- The frames at registers, 128 at most.
unfoldable pub frames_of : Program → List Depth → Regs → List Frame
frames_of p depths regs = frames_from p depths p.memory 128 (Some (standing p regs))

abbrev pub frames_at : TablesView → Regs → List Frame
frames_at t regs = frames_of t.program t.depths regs

-- ---- locals

-- Where each local of a function is in a frame.
unfoldable pub local_in : TablesView → Frame → List Auto → Auto → Option Local
local_in t frame autos auto = local_at t.program t.rests frame autos auto

abbrev pub locals_at : TablesView → Frame → FunctionView → List (Option Local)
locals_at t frame function
    = let autos = autos_of function.locals in map (local_in t frame autos) autos

-- ---- parameters

-- A function that returns takes off as many bytes as were pushed for it.
abbrev pub parameters_by : ℕ → Rise → Option Parameters
parameters_by last rise = if rise.s == 0 then Some (record { stacked = rise.sp; last = last }) else None

abbrev pub parameters_of : TablesView → ℕ → Option Parameters
parameters_of t start = option_and_then (parameters_by (pushed_first t.program start))
    (known (depth_at t.rests start))

-- A program that cc65 made, as it was loaded. Source: mos65.
use Rattle.std.specs.Prelude.{ℕ, List}
use Rattle.c_frames.specs.declared.programs.Function.{Function}
use Rattle.c_frames.specs.declared.programs.Program.{Program as HeldProgram}
use Rattle.c_frames.specs.declared.routines.Routine.{Routine}

pub record Program : Type 0 where
  pub memory : List ℕ
  pub routines : List Routine
  pub functions : List Function
  pub pointer : ℕ

abbrev pub program_view : HeldProgram → Program
program_view program = record {
  memory = program.memory.now;
  routines = program.routines.now;
  functions = program.functions.now;
  pointer = program.pointer;
}

-- The functions of C of a program at its machine's start.
use Rattle.std.proofs.Common.{◌≡◌, ℕ, List, Option, map, subst}
use Rattle.call_frames.specs.Tables.{AreTablesIn, TablesView}
use Rattle.model.specs.Event.{start}
use Rattle.model.specs.Session.{Session, new_session}
use Rattle.model.specs.State.{Map}
use Rattle.source_map.specs.Lines.{PlacesView}
use Rattle.t65_reader.specs.CPrograms.{SeenProgram}
use Rattle.t65_suites.specs.CFunctions.{IsCProgram, called_function}

pub made : (bus_map : Map) (image : List (Option ℕ)) (stack : Option ℕ) (places : PlacesView) (program : SeenProgram) (session : Session)
    (tables : Option TablesView)
    → session ≡ new_session 0 (start bus_map image) → AreTablesIn session.current.bus.memory places tables
    → program.stack ≡ stack → program.functions ≡ map (called_function tables) places.functions
    → IsCProgram bus_map image stack places program
made bus_map image stack places program session tables begun are stack_is functions_are = record {
  tables = tables;
  are = subst (λ s. AreTablesIn s.current.bus.memory places tables) begun are;
  stack_is = stack_is;
  functions_are = functions_are;
}

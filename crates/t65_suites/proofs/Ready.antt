-- What was prepared.
use Rattle.std.proofs.Common.{◌≡◌, ℕ, List, map, refl, subst, sym, ap}
use Rattle.std.specs.Prelude.{Ok}
use Rattle.assembler.specs.Assembly.{AssemblyView}
use Rattle.model.specs.State.{Map}
use Rattle.model.specs.TextLines.{lines_of}
use Rattle.source_map.specs.Lines.{PlacesView}
use Rattle.t65_suites.specs.HeadText.{SeenHead, head_from}
use Rattle.t65_reader.specs.RowText.{SeenLine, line_view, rows_from}
use Rattle.t65_reader.specs.declared.row.Part.TheVariants.{Setup, Teardown}
use Rattle.t65_suites.specs.Programs.{IsProgram, file_asked}
use Rattle.t65_suites.specs.Suites.{SuiteAsked, asking_of}
use Rattle.t65_runner.specs.Parts.{rows_of}
use Rattle.t65_reader.specs.CPrograms.{SeenProgram}
use Rattle.t65_suites.specs.CFunctions.{AreFunctions}
use Rattle.t65_suites.specs.Prepared.{ArePlaces, Ground, IsPrepared, map_of, path_of}
use Rattle.t65_suites.specs.declared.prepared.Prepared.{Prepared}

abbrev ground_at : Map → AssemblyView → PlacesView → List SeenLine → Ground
ground_at bus_map assembly places rows = record {
  bus_map = bus_map;
  image = assembly.image;
  places = places;
  names = assembly.names;
  before = rows_of Setup rows;
  after = rows_of Teardown rows;
}

pub ready : (prepared : Prepared) (steps : ℕ) (suite : SuiteAsked) (text : List ℕ) (head : SeenHead) (next : ℕ) (lines : List (List ℕ)) (path : List ℕ)
    (c_program : SeenProgram)
    → head_from 1 (lines_of text) ≡ Ok (head, next, lines) → text ≡ prepared.text.items
    → prepared.map ≡ map_of head → path ≡ path_of suite head.source
    → IsProgram (file_asked suite.reading head path) suite.reading.symbols prepared.assembly
    → ArePlaces suite.reading.debug head.profile path prepared.assembly prepared.places
    → AreFunctions suite.reading.debug prepared.map prepared.assembly.image head.stack prepared.places c_program
    → rows_from (asking_of steps suite.reading) prepared.assembly.names c_program next lines ≡ Ok (map line_view prepared.rows.items)
    → prepared.form ≡ suite.reading.form → IsPrepared steps suite prepared
ready prepared steps suite text head next lines path c_program headed same mapped named program placed called read form = record {
  file = record {
    text = text;
    head = head;
    next = next;
    lines = lines;
    headed = headed;
    path = path;
    path_is = named;
    assembly = prepared.assembly;
    program = program;
    places = prepared.places;
    placed = placed;
    c_program = c_program;
    called = subst (λ (m : Map). AreFunctions suite.reading.debug m prepared.assembly.image head.stack prepared.places c_program) mapped called;
    rows = map line_view prepared.rows.items;
    read = read;
  };
  text_is = same;
  ground_is = ap (λ (m : Map). ground_at m prepared.assembly prepared.places (map line_view prepared.rows.items)) (sym mapped);
  rows_are = refl;
  form_is = form;
}

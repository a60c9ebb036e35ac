-- What the rows of a suite are run on: a source that is assembled, or an image. Source: mos65.
use Rattle.std.specs.Prelude.{◌≡◌, false, [], Option, None, Some}
use Rattle.arguments.specs.Asked.{FileAsked, map_of}
use Rattle.arguments.specs.Values.{base_of}
use Rattle.arguments.specs.declared.file_options.FileForm.TheVariants.{Source}
use Rattle.assembler.specs.Assembly.{AssemblyView}
use Rattle.clap.specs.Words.{Text}
use Rattle.loading.specs.Loads.{AreImageNames, EndsFile, EndsSource}
use Rattle.loading.specs.Named.{IsNamed}
use Rattle.loading.specs.declared.named.NamedFault.{NamedFault}
use Rattle.loading.specs.declared.named.NamedFault.TheVariants.{HasSource, OfFile, OfNames}
use Rattle.model.specs.State.{Map, has_port_byte}
use Rattle.t65_suites.specs.HeadText.{SeenHead}
use Rattle.t65_suites.specs.Suites.{ReadingAsked}

-- The file of a path, read as the words say, on the map that a head asks for. No fill is left out.
abbrev pub file_asked : ReadingAsked → SeenHead → Text → FileAsked
file_asked reading head path = record {
  file = path;
  form = reading.form;
  port = base_of head.port;
  rom = head.rom;
  profile = head.profile;
  omits_fill = false;
}

-- An assembly without a name and without a line.
pub record IsBare (a : AssemblyView) : Type 0 where
  pub names : a.names ≡ []
  pub source : a.source ≡ []
  pub places : a.places ≡ []

-- What is loaded, as an assembly: that of a source; that of an image with the names of a file,
-- which has no line; or one without a name and a line, where an image has no names.
abbrev pub IsShownAs : Option AssemblyView → AssemblyView → Type 0
IsShownAs None a = IsBare a
IsShownAs (Some loaded) a = a ≡ loaded

-- A file was loaded, with the names of another one where that is named, as every word loads one; it
-- has no byte at the port.
pub record IsProgram (asked : FileAsked) (symbols : Option Text) (a : AssemblyView) : Type 0 where
  pub loaded : Option AssemblyView
  pub named : IsNamed asked symbols None a.image loaded
  pub shown : IsShownAs loaded a
  pub spared : has_port_byte (map_of asked) a.image ≡ false

-- Why there is no program on a map: the file is not loaded, the file of names is not read, or the
-- file is a source, which has its own names.
abbrev pub EndsProgram : FileAsked → Option Text → NamedFault → Type 0
EndsProgram asked symbols (OfFile fault) = EndsFile asked.form (map_of asked) asked.file fault
EndsProgram asked (Some path) (OfNames fault) = EndsSource (map_of asked) fault
EndsProgram asked None (OfNames fault) = ⊥
EndsProgram asked (Some path) HasSource = asked.form ≡ Source
EndsProgram asked None HasSource = ⊥

-- Which names an image is given.
abbrev pub AreNames : Map → Option Text → AssemblyView → Type 0
AreNames bus_map None names = names.names ≡ []
AreNames bus_map (Some path) names = AreImageNames bus_map names

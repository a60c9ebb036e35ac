-- What is known of the names and the lines of a program that runs: by its source, or by debug
-- information. Source: mos65.
use Rattle.std.specs.Prelude.{◌≡◌, ℕ, Bool, List, ◌++◌, Option, None, Some}
use Rattle.std.specs.Option.{option_map}
use Rattle.assembler.specs.Assembly.{AssemblyView}
use Rattle.debug_files.specs.Loaded.{ArePlacesOf}
use Rattle.model.specs.State.{State}
use Rattle.source_map.specs.Lines.{PlacesView, places_of}
use Rattle.source_map.specs.Names.{names_in}
use Rattle.word_run.specs.declared.known.Known.{Known}

-- By debug information, or otherwise by a source in a file.
abbrev pub known_by : List ℕ → Option AssemblyView → Option PlacesView → Option PlacesView
known_by file assembly (Some places) = Some places
known_by file assembly None = option_map (places_of file) assembly

abbrev pub known_view : Known → Option PlacesView
known_view known = known_by known.file.now (option_map (λ a. a.now) known.assembly)
    (option_map (λ p. p.now) known.debug)

-- Behind the names of debug information stand those of a file of names, if there is one.
abbrev pub with_names_of : Option AssemblyView → PlacesView → PlacesView
with_names_of None places = places
with_names_of (Some names) places = record places { names = places.names ++ names_in names }

-- The places by debug information, if a file of it is named, with the names of `names`. The bytes of
-- the program are those of a state's memory at the addresses that are marked.
abbrev pub AreDebugged : Option (List ℕ) → State → List Bool → Option AssemblyView
    → Option PlacesView → Type 0
AreDebugged None state loaded names debug = debug ≡ None
AreDebugged (Some path) state loaded names None = ⊥
AreDebugged (Some path) state loaded names (Some debug) = (lines : PlacesView)
    × ArePlacesOf state loaded lines × (debug ≡ with_names_of names lines)

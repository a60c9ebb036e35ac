-- How a session begins: the state, and what is known of its file. Source: mos65.
use Rattle.std.specs.Prelude.{◌≡◌, ◌⊎◌, ℕ, Bool, List, [], ◌++◌, Option, Some, None}
use Rattle.accesses.specs.Writing.{bytes_in}
use Rattle.assembler.specs.Assembly.{AssemblyView, IsAssembled}
use Rattle.arguments.specs.Asked.{FileAsked, map_of}
use Rattle.arguments.specs.declared.refusal.Refusal.{Refusal}
use Rattle.arguments.specs.declared.refusal.Refusal.TheVariants.{OutOfMemory}
use Rattle.arguments_play.specs.Mon.{MonAsked}
use Rattle.clap.specs.Words.{Text}
use Rattle.debug_files.specs.Changed.{TellsChanged}
use Rattle.debug_files.specs.Loaded.{ArePlacesOf, EndsDebugInfo}
use Rattle.loading.specs.Loads.{AreOfFile, EndsNames}
use Rattle.loading.specs.Machine.{AreLoaded}
use Rattle.loading.specs.Warned.{TellsWarnings}
use Rattle.loading.specs.declared.loaded.ImageNames.{ImageNames}
use Rattle.model.specs.Event.{start}
use Rattle.model.specs.Session.{Session, new_session}
use Rattle.model.specs.State.{Map}
use Rattle.mon_session.specs.declared.mon_state.MonState.{MonState}
use Rattle.source_map.specs.Lines.{PlacesView, no_places, places_of}
use Rattle.source_map.specs.Names.{names_in, other_names}
use Rattle.word_mon.specs.declared.starting.StartFault.{StartFault}
use Rattle.word_mon.specs.declared.starting.StartFault.TheVariants.{OfDebug, OfNames}

-- Why a file of names is not assembled, if one is named.
abbrev pub EndsNamed : Option Text → FileAsked → Refusal → Type 0
EndsNamed None file fault = ⊥
EndsNamed (Some path) file fault = EndsNames file fault

-- The names and the lines of a file: of a source those of its assembly, of a tape none.
abbrev pub places_in : Text → Option AssemblyView → PlacesView
places_in file None = no_places
places_in file (Some assembly) = places_of file assembly

-- With the names of a file of names, if there is one: those of its source, and those that cannot
-- stand in one.
abbrev pub with_names : Option ImageNames → PlacesView → PlacesView
with_names None places = places
with_names (Some names) places = record places {
  names = (places.names ++ names_in names.assembly) ++ other_names names.others;
}

-- A file of names is read if one is named.
abbrev pub AreNamed : Option Text → FileAsked → Option ImageNames → Type 0
AreNamed None file names = names ≡ None
AreNamed (Some path) file None = ⊥
AreNamed (Some path) file (Some names) = IsAssembled (map_of file) names.assembly
    × AreOfFile file.profile names.assembly names.others

-- What stands where: by the file of debug information that is named, with the bytes that were
-- loaded; otherwise the names and the lines of a source.
abbrev pub ArePlaces : Option Text → Text → Session → Option AssemblyView → List Bool → PlacesView
    → Type 0
ArePlaces None file session assembly loaded places = places ≡ places_in file assembly
ArePlaces (Some path) file session assembly loaded places
    = ArePlacesOf session.current loaded places

-- The line that tells how many warnings a source has on a map, or that fill at the port was left
-- out of an image, and the one that tells which sources have changed since debug information was made,
-- as `run` writes them; nothing where there is none of these, and nothing or a beginning where memory
-- runs out.
abbrev pub IsWarningLine : Map → Option AssemblyView → Option ℕ → Option Text → List ℕ → Type 0
IsWarningLine bus_map assembly fill debug line = (first : List ℕ)
    × TellsWarnings bus_map assembly 0 fill (record { held = Some []; now = Some first })
    × TellsChanged debug (Some first) (Some line)

-- Why a session does not begin on what was loaded.
abbrev pub EndsStart : Option Text → Option Text → FileAsked → StartFault → Type 0
EndsStart symbols debug file (OfNames refusal)
    = (refusal ≡ OutOfMemory) ⊎ EndsNamed symbols file refusal
EndsStart symbols debug file (OfDebug fault) = EndsDebugInfo debug fault

-- A state of `mon` at which no line was served: no event has happened, and no break and no watch is
-- set.
pub record IsNewState (begun : Session) (history : ℕ) (known : PlacesView) (mon : MonState)
    : Type 0 where
  pub session : mon.session ≡ begun
  pub events : mon.events ≡ record { made = []; undone = []; room = history }
  pub breaks : mon.stops.breaks.items ≡ []
  pub watches : mon.stops.watches.items ≡ []
  pub changes : mon.stops.changes.items ≡ []
  pub displays : mon.displays.items ≡ []
  pub places : mon.places ≡ known
  pub text : mon.text.items ≡ []

-- A state of `mon` with a session at the start of an image that the file can have, with the names
-- and lines of its source or of its debug information and the names of a file of names; the
-- addresses at which the image has a byte; and the line that tells of the warnings of its source,
-- or of fill that was left out.
abbrev pub StartsMon : MonAsked → MonState → List Bool → List ℕ → Type 0
StartsMon asked mon loaded warning_line = (image : List (Option ℕ))
    × (assembly : Option AssemblyView)
    × (fill : Option ℕ) × AreLoaded asked.file asked.others fill image assembly
    × (loaded ≡ bytes_in image)
    × (places : PlacesView)
    × ArePlaces asked.debug_info asked.file.file
    (new_session asked.history (start (map_of asked.file) image)) assembly loaded places
    × (names : Option ImageNames) × AreNamed asked.symbols asked.file names
    × IsNewState (new_session asked.history (start (map_of asked.file) image)) asked.history
    (with_names names places) mon
    × IsWarningLine (map_of asked.file) assembly fill asked.debug_info warning_line

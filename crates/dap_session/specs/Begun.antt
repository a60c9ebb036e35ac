-- A session at which no request was served. Source: mos65.
use Rattle.std.specs.Prelude.{ℕ, ◌≡◌, Bool, false, is_none, List, [], ◌++◌, map, Option, Some, None}
use Rattle.accesses.specs.Writing.{bytes_in}
use Rattle.arguments.specs.Asked.{FileAsked, map_of}
use Rattle.arguments_play.specs.Debug.{debug_asked}
use Rattle.assembler.specs.Assembly.{AssemblyView, IsAssembled}
use Rattle.dap_messages.specs.Seen.{SeenLaunch, launch_view}
use Rattle.dap_session.specs.Options.{file_at, history_of}
use Rattle.dap_session.specs.Paths.{path_of, paths_of}
use Rattle.dap_session.specs.declared.client.Client.{Client}
use Rattle.debug_files.specs.Loaded.{ArePlacesOf}
use Rattle.loading.specs.Loads.{AreOfFile, IsLoaded}
use Rattle.loading.specs.declared.loaded.ImageNames.{ImageNames}
use Rattle.model.specs.Event.{start}
use Rattle.model.specs.Session.{Session, new_session}
use Rattle.source_map.specs.Lines.{PlacesView, no_places, places_of}
use Rattle.source_map.specs.Names.{names_in, other_names}

-- ---- the places of a program

-- The names and the lines of a source; of an image there are none.
abbrev pub places_in : List ℕ → Option AssemblyView → PlacesView
places_in file None = no_places
places_in file (Some assembly) = places_of file assembly

-- With the names of a file of names: those of its source, and those that cannot stand in one.
abbrev pub with_names : ImageNames → PlacesView → PlacesView
with_names names places = record places {
  names = (places.names ++ names_in names.assembly) ++ other_names names.others;
}

-- A file of names is read and its names are added, if one is named.
abbrev pub AddsNames : Option (List ℕ) → FileAsked → PlacesView → PlacesView → Type 0
AddsNames None file old new = new ≡ old
AddsNames (Some path) file old new = (names : ImageNames)
    × IsAssembled (map_of file) names.assembly
    × AreOfFile file.profile names.assembly names.others × (new ≡ with_names names old)

-- What stands where: by the file of debug information that is named, with the bytes that were
-- loaded; otherwise the names and the lines of a source.
abbrev pub ArePlaces : Option (List ℕ) → List ℕ → Session → Option AssemblyView → List Bool → PlacesView
    → Type 0
ArePlaces None file session assembly loaded places = places ≡ places_in file assembly
ArePlaces (Some path) file session assembly loaded places
    = ArePlacesOf session.current loaded places

-- With the names of a file of names.
abbrev pub HasPlaces : SeenLaunch → FileAsked → Session → Option AssemblyView → List Bool → PlacesView
    → Type 0
HasPlaces launch file session assembly loaded known = (own : PlacesView)
    × ArePlaces launch.debug_info file.file session assembly loaded own
    × AddsNames launch.symbols file own known

-- ---- sessions

-- A client with this launch and this session, for which no event was made, no stop is set, and
-- nothing was told.
pub record IsNewClient (asked : SeenLaunch) (begun : Session) (known : PlacesView)
    (client : Client) : Type 0 where
  pub launch : launch_view client.launch ≡ asked
  pub session : client.mon.session ≡ begun
  pub files : map path_of client.files.items ≡ paths_of asked known.sources
  pub places : client.mon.places ≡ known
  pub events : client.mon.events ≡ record { made = []; undone = []; room = history_of asked }
  pub breaks : client.mon.stops.breaks.items ≡ []
  pub watches : client.mon.stops.watches.items ≡ []
  pub changes : client.mon.stops.changes.items ≡ []
  pub displays : client.mon.displays.items ≡ []
  pub text : client.mon.text.items ≡ []
  pub lines : client.listed.lines.items ≡ []
  pub addresses : client.listed.addresses.items ≡ []
  pub functions : client.listed.functions.items ≡ []
  pub last_lines : client.listed.last_lines.items ≡ []
  pub told : client.told.count ≡ 0
  pub lasts : client.told.is_over ≡ false

-- A client at the start of an image that a file can have, with the names and lines of its source or
-- of its debug information, and the names of the file of names that the launch names.
abbrev pub IsBegun : FileAsked → SeenLaunch → Client → Type 0
IsBegun file launch client = (image : List (Option ℕ)) × (assembly : Option AssemblyView)
    × (fill : Option ℕ) × IsLoaded file fill image assembly × (known : PlacesView)
    × HasPlaces launch file (new_session (history_of launch) (start (map_of file) image)) assembly
    (bytes_in image) known
    × IsNewClient launch (new_session (history_of launch) (start (map_of file) image)) known client

-- A client at the start of the program that a launch names. Debug information is that of an image.
unfoldable pub IsLaunched : SeenLaunch → Client → Type 0
IsLaunched launch client = (file : FileAsked) × (file_at launch ≡ Some file)
    × (is_none (debug_asked file.form launch.debug_info) ≡ false) × IsBegun file launch client

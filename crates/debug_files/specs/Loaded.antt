-- What stands where in a program that was loaded, by the debug information of a file. Source: mos65.
use Rattle.std.specs.Prelude.{◌≡◌, ◌<◌, ℕ, Bool, true, false, List, Option, Some, None, slice_index}
use Rattle.accesses.specs.Writing.{is_written}
use Rattle.arguments.specs.FaultLines.{load_text}
use Rattle.arguments.specs.Statuses.{status_of_load}
use Rattle.arguments.specs.declared.load_fault.LoadFault.{LoadFault}
use Rattle.debug_files.specs.Loads.{AreDebugPlaces, EndsDebug}
use Rattle.model.specs.Image.{cell_at}
use Rattle.model.specs.State.{State}
use Rattle.model.specs.Writers.{AppendsFront}
use Rattle.source_map.specs.Lines.{PlacesView}

-- The bytes of an image are those of a state's memory at the addresses that are marked.
abbrev pub byte_where : Bool → ℕ → Option ℕ
byte_where true byte = Some byte
byte_where false byte = None

pub record HasBytesOf (state : State) (marks : List Bool) (image : List (Option ℕ)) : Type 0 where
  pub bytes : (address : ℕ) → address < 65536 → cell_at image address
      ≡ byte_where (is_written marks address) (slice_index state.bus.memory address)

-- The places of a program are those of some debug file, with the bytes that were loaded: those of a
-- state's memory at the addresses that are marked.
abbrev pub ArePlacesOf : State → List Bool → PlacesView → Type 0
ArePlacesOf state loaded places = (image : List (Option ℕ)) × HasBytesOf state loaded image
    × AreDebugPlaces (record { profile = state.bus.map.profile; image = image }) places

-- Why debug information is not read, if a file of it is named.
abbrev pub EndsDebugInfo : Option (List ℕ) → LoadFault → Type 0
EndsDebugInfo None fault = ⊥
EndsDebugInfo (Some path) fault = EndsDebug fault

-- The file of debug information was not loaded, the error stream got why, and the others were left
-- alone, `Alone`.
abbrev pub IsUndebugged : Option (List ℕ) → Option (List ℕ) → Option (List ℕ) → ℕ → Type 0 → Type 0
IsUndebugged None held now status Alone = ⊥
IsUndebugged (Some path) held now status Alone = (fault : LoadFault) × EndsDebug fault
    × (status ≡ status_of_load fault) × AppendsFront held now (load_text fault path) × Alone

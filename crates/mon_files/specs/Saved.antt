-- The bytes that `save` writes. Source: mos65.
use Rattle.std.specs.Prelude.{◌≡◌, ◌<◌, ℕ, ◌+◌, ◌-◌, ◌==◌, ◌&&◌, ◌||◌, not, Bool, true, false, if◌then◌else◌, List, length, slice_index, slice_set, Option, Some, None, unwrap_or}
use Rattle.accesses.specs.Writing.{is_written}
use Rattle.arguments.specs.FileNames.{form_of_ending}
use Rattle.arguments.specs.declared.file_names.FormName.{FormName}
use Rattle.arguments.specs.declared.file_names.FormName.TheVariants.{Bin, Prg, Tape}
use Rattle.image_files.specs.Ends.{AreEnds}
use Rattle.image_files.specs.Written.{ReadsAs}
use Rattle.model.specs.Image.{cell_at}
use Rattle.model.specs.State.{Bus, is_port}
use Rattle.mon_lines.specs.declared.command.Stretch.{Stretch}
use Rattle.mon_runs.specs.Stops.{is_within}

-- Without addresses, each byte that the file has, and each other that is not 0.
abbrev pub is_asked : List Bool → List ℕ → Option Stretch → ℕ → Bool
is_asked loaded memory None address
    = is_written loaded address || not (slice_index memory address == 0)
is_asked loaded memory (Some stretch) address = is_within stretch address

-- No byte of the console's port is saved.
abbrev pub is_saved : Bus → List Bool → Option Stretch → ℕ → Bool
is_saved bus loaded stretch address
    = is_asked loaded bus.memory stretch address && not (is_port bus.map address)

abbrev pub saved_at : Bus → List Bool → Option Stretch → ℕ → Option ℕ
saved_at bus loaded stretch address = if is_saved bus loaded stretch address
    then Some (slice_index bus.memory address) else None

abbrev pub with_saved : Bus → List Bool → Option Stretch → ℕ → List (Option ℕ) → List (Option ℕ)
with_saved bus loaded stretch address image = if is_saved bus loaded stretch address
    then slice_set image address (Some (slice_index bus.memory address)) else image

-- An image has these bytes and no others.
abbrev pub IsSaved : Bus → List Bool → Option Stretch → List (Option ℕ) → Type 0
IsSaved bus loaded stretch image = (length image ≡ 65536)
    × ((address : ℕ) → address < 65536 → cell_at image address ≡ saved_at bus loaded stretch address)

-- ---- the file

-- The form of the file: that of its ending, or a tape where it tells none.
abbrev pub save_form : List ℕ → FormName
save_form file = unwrap_or (form_of_ending file) Tape

-- A text is read as an image in a form, from its first byte to its last. Without a byte both are 0.
abbrev pub IsTextBetween : FormName → Option (ℕ × ℕ) → List (Option ℕ) → List ℕ → Type 0
IsTextBetween form None image text = ReadsAs form 0 0 image text
IsTextBetween form (Some ends) image text = ReadsAs form ends.0 ends.1 image text

abbrev pub IsSavedAs : FormName → List (Option ℕ) → List ℕ → Type 0
IsSavedAs form image text = (ends : Option (ℕ × ℕ)) × AreEnds image ends
    × IsTextBetween form ends image text

-- ---- what fills gaps

-- Raw bytes and a PRG file have no address for each byte, so something stands between two that are not
-- neighbours.
abbrev pub has_addresses : FormName → Bool
has_addresses Bin = false
has_addresses Prg = false
has_addresses form = true

-- The addresses from the first to the last, less those that have bytes.
abbrev pub gaps_between : Option (ℕ × ℕ) → ℕ → ℕ
gaps_between None count = 0
gaps_between (Some ends) count = ends.1 + 1 - ends.0 - count

abbrev pub AreGaps : FormName → List (Option ℕ) → ℕ → ℕ → Type 0
AreGaps form image count gaps = (ends : Option (ℕ × ℕ)) × AreEnds image ends
    × (gaps ≡ (if has_addresses form then 0 else gaps_between ends count))

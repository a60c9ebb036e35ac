-- Faults of the lines between a chip and its reader, and which of them explain an image.
-- Source: mos65.
use Rattle.std.specs.Prelude.{◌≡◌, ⊤, ℕ, zero, suc, ◌-◌, ◌<◌, ◌==◌, ◌&&◌, nat_le, nat_lt, Bool, true, false, if◌then◌else◌, List, [], ◌∷◌, ◌++◌, is_some, length, Option, Some, None}
use Rattle.std.specs.List.{count_by}
use Rattle.model.specs.Image.{cell_at}
use Rattle.dump_faults.specs.Lines.{exchanged, with_line}
use Rattle.dump_faults.specs.declared.faults.Bus.{Bus}
use Rattle.dump_faults.specs.declared.faults.Bus.TheVariants.{Address, Data}
use Rattle.dump_faults.specs.declared.faults.Fault.{Fault}
use Rattle.dump_faults.specs.declared.faults.Fault.TheVariants.{Exchanged, Inverted, Stuck as stuck_at}
use Rattle.dump_faults.specs.declared.faults.Stuck.{Stuck}

-- ---- what is read with a fault

-- How many lines there are.
abbrev pub lines_of : Bus → ℕ
lines_of Data = 8
lines_of Address = 16

-- A fault is of lines that are there.
abbrev pub IsFault : Fault → Type 0
IsFault (stuck_at stuck) = stuck.line < lines_of stuck.bus
IsFault (Exchanged bus one other) = (one < lines_of bus) × (other < lines_of bus)
IsFault Inverted = ⊤

-- The address and the byte with a line of a bus at a value.
abbrev pub address_at : Bus → ℕ → Bool → ℕ → ℕ
address_at Data line value address = address
address_at Address line value address = with_line line value address

abbrev pub byte_at : Bus → ℕ → Bool → ℕ → ℕ
byte_at Data line value byte = with_line line value byte
byte_at Address line value byte = byte

-- The address that reaches the chip.
abbrev pub address_by : Fault → ℕ → ℕ
address_by (stuck_at stuck) address = address_at stuck.bus stuck.line stuck.value address
address_by (Exchanged Data one other) address = address
address_by (Exchanged Address one other) address = exchanged one other address
address_by Inverted address = address

-- The byte that is read.
abbrev pub byte_by : Fault → ℕ → ℕ
byte_by (stuck_at stuck) byte = byte_at stuck.bus stuck.line stuck.value byte
byte_by (Exchanged Data one other) byte = exchanged one other byte
byte_by (Exchanged Address one other) byte = byte
byte_by Inverted byte = 255 - byte

abbrev pub cell_by : Fault → Option ℕ → Option ℕ
cell_by fault None = None
cell_by fault (Some byte) = Some (byte_by fault byte)

-- ---- an image that is read with a fault

-- Whether two cells are the same: both nothing, or the same byte.
abbrev pub same_cell : Option ℕ → Option ℕ → Bool
same_cell None None = true
same_cell (Some a) (Some b) = a == b
same_cell one other = false

-- Whether a dump has at an address what is read there of a good image with a fault.
unfoldable pub is_right_at : Fault → List (Option ℕ) → List (Option ℕ) → ℕ → Bool
is_right_at fault dump good address = same_cell (cell_at dump address)
    (cell_by fault (cell_at good (address_by fault address)))

-- Whether something holds of each number below a bound.
unfoldable pub holds_below : (ℕ → Bool) → ℕ → Bool
holds_below test zero = true
holds_below test (suc n) = holds_below test n && test n

-- Whether a dump is, at all addresses, what is read of a good image with a fault.
abbrev pub is_read_with : Fault → List (Option ℕ) → List (Option ℕ) → Bool
is_read_with fault dump good = holds_below (is_right_at fault dump good) 65536

-- The same in words of each address.
abbrev pub IsReadWith : Fault → List (Option ℕ) → List (Option ℕ) → Type 0
IsReadWith fault dump good = (address : ℕ) → address < 65536
    → cell_at dump address ≡ cell_by fault (cell_at good (address_by fault address))

-- ---- the faults that explain a dump

-- A fault, if the dump is what is read of the good image with it.
unfoldable pub explained : List (Option ℕ) → List (Option ℕ) → Fault → List Fault
explained dump good fault = if is_read_with fault dump good then fault ∷ [] else []

-- The same of a line that always has one value.
unfoldable pub explained_line : List (Option ℕ) → List (Option ℕ) → Stuck → List Stuck
explained_line dump good stuck = if is_read_with (stuck_at stuck) dump good then stuck ∷ [] else []

-- What each number below a bound adds.
unfoldable pub joined_below : {X : Type 0} → (ℕ → List X) → ℕ → List X
joined_below add zero = []
joined_below add (suc n) = joined_below add n ++ add n

abbrev pub line_at : Bus → ℕ → Bool → Stuck
line_at bus line value = record { bus = bus; line = line; value = value }

-- The lines of a bus that explain a dump if they always have one value.
abbrev pub stuck_at_both : List (Option ℕ) → List (Option ℕ) → Bus → ℕ → List Stuck
stuck_at_both dump good bus line = explained_line dump good (line_at bus line false)
    ++ explained_line dump good (line_at bus line true)

unfoldable pub stuck_of : List (Option ℕ) → List (Option ℕ) → Bus → List Stuck
stuck_of dump good bus = joined_below (stuck_at_both dump good bus) (lines_of bus)

-- The pairs of lines of a bus that explain a dump if they are exchanged.
abbrev pub exchanged_at : List (Option ℕ) → List (Option ℕ) → Bus → ℕ → ℕ → List Fault
exchanged_at dump good bus other one = explained dump good (Exchanged bus one other)

unfoldable pub exchanged_with : List (Option ℕ) → List (Option ℕ) → Bus → ℕ → List Fault
exchanged_with dump good bus other = joined_below (exchanged_at dump good bus other) other

unfoldable pub exchanged_of : List (Option ℕ) → List (Option ℕ) → Bus → List Fault
exchanged_of dump good bus = joined_below (exchanged_with dump good bus) (lines_of bus)

-- ---- what is told

-- Whether the bytes of an image are not all the same: not all data lines have one value.
abbrev pub is_varied : List (Option ℕ) → Bool
is_varied cells = nat_lt (length (stuck_of cells cells Data)) 8

-- Whether an image is judged: it has at least the bytes of a page, and these are not all the same.
unfoldable pub is_dump : List (Option ℕ) → Bool
is_dump cells = nat_le 256 (count_by is_some cells) && is_varied cells

-- The lines that explain all bytes of a dump by a good image if they always have one value.
unfoldable pub stuck_between : List (Option ℕ) → List (Option ℕ) → List Stuck
stuck_between dump good = if is_dump dump && is_dump good
    then stuck_of dump good Data ++ stuck_of dump good Address else []

-- The lines exchanged or inverted that explain all bytes of one image by another.
unfoldable pub faults_between : List (Option ℕ) → List (Option ℕ) → List Fault
faults_between one other = if is_dump one && is_dump other
    then exchanged_of one other Data ++ explained one other Inverted
    ++ exchanged_of one other Address
    else []

-- The address lines without effect on an image: those that could as well be at 0.
abbrev pub without_effect_at : List (Option ℕ) → ℕ → List Stuck
without_effect_at cells line = explained_line cells cells (line_at Address line false)

unfoldable pub without_effect : List (Option ℕ) → List Stuck
without_effect cells = joined_below (without_effect_at cells) 16

-- The data lines that have one value in all bytes of an image, and the address lines without
-- effect.
unfoldable pub stuck_lines : List (Option ℕ) → List Stuck
stuck_lines cells = if is_dump cells then stuck_of cells cells Data ++ without_effect cells else []

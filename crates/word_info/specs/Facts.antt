-- What `info` tells of an image. Source: mos65; the vectors are those of the MCS6500 manual.
use Rattle.std.specs.Prelude.{ℕ, ◌+◌, ◌*◌, ◌-◌, ◌%◌, ◌==◌, nat_lt, if◌then◌else◌, List, [], ◌∷◌, length, map, take, drop, Option, Some, None, is_some}
use Rattle.std.specs.List.{count_by, fold}
use Rattle.model.specs.Image.{cell_at}
use Rattle.model.specs.TapeText.{Stretch, runs}
use Rattle.word_info.specs.Crc.{crc_32}
use Rattle.word_info.specs.declared.checksum.Sums.{Sums}
use Rattle.word_info.specs.declared.ranges.Range.{Range}
use Rattle.word_info.specs.declared.gaps.Gap.{Gap}

-- ---- ranges

-- The addresses of a run of bytes: its first, and its last.
abbrev pub range_of_run : Stretch → Range
range_of_run run = record { first = run.0; last = run.0 + length run.1 - 1 }

-- The ranges of an image: the addresses of its maximal runs of bytes, in rising order.
unfoldable pub ranges_of : List (Option ℕ) → List Range
ranges_of cells = map range_of_run (runs 0 cells)

-- The bytes of memory at the addresses of a range.
abbrev pub bytes_of : List ℕ → Range → List ℕ
bytes_of memory range = take (range.last + 1 - range.first) (drop range.first memory)

-- The sum of some bytes, modulo 65,536.
abbrev pub add_16 : ℕ → ℕ → ℕ
add_16 total byte = (total + byte) % 65536

abbrev pub sum_16 : List ℕ → ℕ
sum_16 bytes = fold add_16 0 bytes

abbrev pub sums_of : List ℕ → Sums
sums_of bytes = record { crc_32 = crc_32 bytes; sum_16 = sum_16 bytes }

-- The check sums of each range: those of the image's bytes there.
unfoldable pub checksums_of : List ℕ → List Range → List Sums
checksums_of memory ranges = map (λ range. sums_of (bytes_of memory range)) ranges

-- How many bytes an image has from an address on, among so many addresses.
unfoldable pub bytes_among : List (Option ℕ) → ℕ → ℕ → ℕ
bytes_among cells first count = count_by is_some (take count (drop first cells))

-- ---- gaps

-- A gap lies between two ranges: it is kept by the last address before it and the first after it.
abbrev pub gap_between : ℕ → Range → Gap
gap_between last high = record { after = last; before = high.first }

-- How many addresses lie in a gap.
abbrev pub gap_size : Gap → ℕ
gap_size gap = gap.before - gap.after - 1

-- The larger of two gaps, and the first of two that are equal.
abbrev pub larger_gap : Option Gap → Gap → Option Gap
larger_gap None gap = Some gap
larger_gap (Some best) gap = if nat_lt (gap_size best) (gap_size gap) then Some gap else Some best

-- The gaps before ranges and between them, where the range before them ends at an address.
abbrev pub gaps_after : ℕ → List Range → List Gap
gaps_after last [] = []
gaps_after last (high ∷ ranges) = gap_between last high ∷ gaps_after high.last ranges

-- The gaps between ranges.
abbrev pub gaps_of : List Range → List Gap
gaps_of [] = []
gaps_of (low ∷ ranges) = gaps_after low.last ranges

-- The first of the largest gaps; none where there are fewer than two ranges.
unfoldable pub largest_gap : List Range → Option Gap
largest_gap ranges = fold larger_gap None (gaps_of ranges)

-- ---- vectors

-- Two bytes as an address, the low byte first, if both are there.
abbrev pub address_in : Option ℕ → Option ℕ → Option ℕ
address_in (Some low) (Some high) = Some (low + 256 * high)
address_in low high = None

-- The address in a vector.
abbrev pub vector_at : List (Option ℕ) → ℕ → Option ℕ
vector_at cells address = address_in (cell_at cells address) (cell_at cells (address + 1))

-- ---- records

-- How many data records a right tape has: one fewer than it has `;`, of which the end record has
-- the last.
unfoldable pub data_records : List ℕ → ℕ
data_records text = count_by (λ b. b == 59) text - 1

-- Which files have the bytes of a program by its debug file, and where each stands. A file of ld65
-- has segments one behind another. A read-only segment runs where it is loaded; another one may be
-- copied before it runs. Sources: the documentation of ld65 (`load`, `run`, `--dbgfile`); mos65 for
-- the rule.
use Rattle.std.specs.Prelude.{ℕ, ◌+◌, ◌-◌, ◌==◌, ◌&&◌, ◌||◌, nat_le, nat_lt, Bool, true, false, is_some, if◌then◌else◌, List, [], ◌∷◌, ◌++◌, Option, Some, None}
use Rattle.std.specs.Str.{bytes_eq}
use Rattle.debug_images.specs.declared.bases.Base.{Base}
use Rattle.debug_images.specs.declared.bases.Base.TheVariants.{Unknown, At, Several}
use Rattle.debug_images.specs.declared.parts.Part.{Part as HeldPart}
use Rattle.debug_records.specs.Info.{Table}
use Rattle.debug_records.specs.Records.{Output, Segment}

-- ---- where a file stands: where its first byte would be

-- Segments agree on it, or do not.
abbrev pub with_other : Base → ℕ → Base
with_other Unknown base = At base
with_other (At other) base = if other == base then At other else Several
with_other Several base = Several

abbrev pub with_base : Base → ℕ → ℕ → Base
with_base so_far start offset = if nat_lt start offset then Several
    else with_other so_far (start - offset)

abbrev pub is_in : List ℕ → Option Output → Bool
is_in file None = false
is_in file (Some output) = bytes_eq output.name file

-- A segment tells where its file stands if it has bytes: a read-only one, or any.
abbrev pub tells : Bool → List ℕ → Segment → Bool
tells any file segment = nat_lt 0 segment.size && (any || segment.is_read_only)
    && is_in file segment.output

abbrev pub with_output : Base → ℕ → Option Output → Base
with_output so_far start None = so_far
with_output so_far start (Some output) = with_base so_far start output.offset

abbrev pub with_segment : Bool → List ℕ → Base → Option Segment → Base
with_segment any file so_far None = so_far
with_segment any file so_far (Some segment) = if tells any file segment
    then with_output so_far segment.start segment.output else so_far

abbrev pub base_by : Bool → List ℕ → Base → Table Segment → Base
base_by any file so_far [] = so_far
base_by any file so_far (segment ∷ segments)
    = base_by any file (with_segment any file so_far segment) segments

-- Read-only segments tell it, if the file has some; otherwise all.
abbrev pub or_any : Base → List ℕ → Table Segment → Base
or_any Unknown file segments = base_by true file Unknown segments
or_any (At base) file segments = At base
or_any Several file segments = Several

abbrev pub base_of : List ℕ → Table Segment → Base
base_of file segments = or_any (base_by false file Unknown segments) file segments

-- ---- the files, in the order of the segments

pub record Part : Type 0 where
  pub file : List ℕ
  pub base : Base

abbrev pub part_view : HeldPart → Part
part_view part = record { file = part.file.now; base = part.base }

abbrev pub has_file : List ℕ → List Part → Bool
has_file file [] = false
has_file file (part ∷ parts) = if bytes_eq part.file file then true else has_file file parts

abbrev pub with_file : Table Segment → List Part → List ℕ → List Part
with_file segments parts file = if has_file file parts then parts
    else parts ++ record { file = file; base = base_of file segments } ∷ []

-- A segment has bytes in a file.
abbrev pub with_file_if : Table Segment → List Part → ℕ → Option Output → List Part
with_file_if segments parts size None = parts
with_file_if segments parts size (Some output) = if nat_lt 0 size
    then with_file segments parts output.name else parts

abbrev pub with_record : Table Segment → List Part → Option Segment → List Part
with_record segments parts None = parts
with_record segments parts (Some segment)
    = with_file_if segments parts segment.size segment.output

abbrev pub parts_by : Table Segment → List Part → Table Segment → List Part
parts_by segments parts [] = parts
parts_by segments parts (segment ∷ rest)
    = parts_by segments (with_record segments parts segment) rest

abbrev pub parts_of : Table Segment → List Part
parts_of segments = parts_by segments [] segments

-- How many bytes a file has at least, by its segments.
abbrev pub larger : ℕ → ℕ → ℕ
larger so_far end = if nat_lt so_far end then end else so_far

abbrev pub end_with : ℕ → ℕ → Option Output → ℕ
end_with so_far size None = so_far
end_with so_far size (Some output) = larger so_far (output.offset + size)

abbrev pub with_end : List ℕ → ℕ → Option Segment → ℕ
with_end file so_far None = so_far
with_end file so_far (Some segment) = if tells true file segment
    then end_with so_far segment.size segment.output else so_far

abbrev pub end_by : List ℕ → ℕ → Table Segment → ℕ
end_by file so_far [] = so_far
end_by file so_far (segment ∷ segments) = end_by file (with_end file so_far segment) segments

-- ---- where they stand

abbrev pub address_of : Base → Option ℕ
address_of Unknown = None
address_of (At base) = if nat_le base 65535 then Some base else None
address_of Several = None

-- The first file of which it is not known where it stands.
abbrev pub first_unplaced : List Part → Option (List ℕ)
first_unplaced [] = None
first_unplaced (part ∷ parts) = if is_some (address_of part.base) then first_unplaced parts
    else Some part.file

-- What stands where in a program that another tool built, by its debug information. The program has
-- its bytes where it runs. Source: mos65.
use Rattle.std.specs.Prelude.{ℕ, zero, suc, ◌+◌, ◌-◌, ◌==◌, ◌&&◌, nat_le, nat_lt, not, min, Bool, false, if◌then◌else◌, List, [], ◌++◌, Option, None, Some}
use Rattle.std.specs.List.{filter_map}
use Rattle.std.specs.Option.{option_to_list}
use Rattle.debug_records.specs.Info.{Info}
use Rattle.debug_records.specs.Rows.{begun_at, clear_rows, rows_of, shown_at, size_of}
use Rattle.debug_records.specs.declared.row.Row.{Row as DebugRow}
use Rattle.model.specs.Image.{cell_at}
use Rattle.model.specs.OpcodeTable.{row_at as opcode_row}
use Rattle.model.specs.declared.instruction.Profile.{Profile}
use Rattle.model.specs.declared.instruction.Row.{Row as OpcodeRow}
use Rattle.source_map.specs.DebugNames.{debug_names}
use Rattle.source_map.specs.Functions.{functions_of}
use Rattle.source_map.specs.Lines.{PlacesView, SourceView, bytes_in}
use Rattle.source_map.specs.declared.rows.Row.{Row}
use Rattle.source_map.specs.declared.rows.Site.{Site}

-- ---- by address

-- The program and the processor that reads it.
pub record Program : Type 0 where
  pub profile : Profile
  pub image : List (Option ℕ)

abbrev pub has_size : Option OpcodeRow → ℕ → Bool
has_size None size = false
has_size (Some row) size = row.len == size

-- Whether an instruction can have so many bytes: that of the opcode there; or any, where the program
-- has no byte before it puts one there.
abbrev pub can_have : Profile → Option ℕ → ℕ → Bool
can_have profile None size = nat_le size 3
can_have profile (Some opcode) size = has_size (opcode_row profile opcode) size

-- Bytes are an instruction if they are not said to be data, and are as many as that instruction has.
abbrev pub is_code : Program → ℕ → DebugRow → Bool
is_code program address begun = not begun.is_data
    && can_have program.profile (cell_at program.image address) (size_of begun)

-- Whether two rows are of one line, and have the same bytes.
abbrev pub is_same_row : DebugRow → DebugRow → Bool
is_same_row one other = one.file == other.file && one.line == other.line
    && one.start == other.start && one.end == other.end

-- The bytes of the row that begins at an address, and the line of the row that is shown there.
abbrev pub piece : Program → ℕ → DebugRow → DebugRow → Row
piece program address begun shown = record {
  address = address;
  file = shown.file;
  line = shown.line;
  kind = shown.kind;
  depth = shown.depth;
  count = min (size_of begun) (65536 - address);
  bytes = bytes_in program.image address;
  is_instruction = is_code program address begun;
  is_whole_line = is_same_row begun shown;
  begins_line = shown.start == address;
}

abbrev pub piece_of : Program → ℕ → Option DebugRow → Option DebugRow → Option Row
piece_of program address None shown = None
piece_of program address (Some begun) None = None
piece_of program address (Some begun) (Some shown) = Some (piece program address begun shown)

-- What stands at an address by all rows: the narrowest one that begins there, and the one that is
-- shown there.
unfoldable pub piece_at : Program → List DebugRow → ℕ → Option Row
piece_at program rows address
    = piece_of program address (begun_at rows address) (shown_at rows address)

-- The same of so many addresses, one after another.
unfoldable pub pieces_from : Program → List DebugRow → ℕ → ℕ → List Row
pieces_from program rows address zero = []
pieces_from program rows address (suc count) = option_to_list (piece_at program rows address)
    ++ pieces_from program rows (address + 1) count

abbrev pub pieces_of : Program → List DebugRow → List Row
pieces_of program rows = pieces_from program rows 0 65536

-- ---- by line

-- Where a row begins and ends, if it has a byte.
abbrev pub site_in : DebugRow → Option Site
site_in row = if nat_lt row.start row.end && nat_le row.start 65535
    then Some (record { file = row.file; line = row.line; address = row.start; end = row.end })
    else None

abbrev pub sites_in : List DebugRow → List Site
sites_in rows = filter_map site_in rows

-- ---- the whole

-- What stands where in a program by debug information, with these files: by its names, by the rows
-- that are told apart from others, and by its functions of C.
abbrev pub places_by : Program → Info → List DebugRow → List SourceView → PlacesView
places_by program info rows sources = record {
  names = debug_names program.image info.symbols;
  lines = pieces_of program rows;
  sites = sites_in rows;
  sources = sources;
  is_whole = false;
  functions = functions_of info;
}

abbrev pub debug_places : Program → Info → List SourceView → PlacesView
debug_places program info sources
    = places_by program info (clear_rows info (rows_of info)) sources

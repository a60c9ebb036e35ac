-- Rows of bytes with the lines of a source that are shown for them, by address; where bytes of each
-- line begin, by line; and the files of the source. Source: mos65.
use Rattle.std.specs.Prelude.{ℕ, zero, suc, ◌+◌, ◌-◌, ◌%◌, ◌==◌, ◌&&◌, ◌||◌, Bool, true, false, not, nat_le, nat_lt, if◌then◌else◌, List, [], ◌∷◌, ◌++◌, codes, decimal, filter, find, get_or, length, map, Option, None, Some, slice_get, unwrap_or}
use Rattle.std.specs.List.{flat_map, insert, list_any, prefix_len}
use Rattle.std.specs.Option.{option_map}
use Rattle.std.specs.Global.{Vec}
use Rattle.arguments.specs.Shown.{shown_bytes}
use Rattle.model.specs.Image.{cell_at}
use Rattle.assembler.specs.Assembly.{AssemblyView, source_lines}
use Rattle.assembler.specs.Lines.{LineView}
use Rattle.debug_records.specs.declared.record.LineKind.TheVariants.{Assembler}
use Rattle.source_map.specs.Functions.{FunctionView}
use Rattle.source_map.specs.Names.{Named, names_in}
use Rattle.source_map.specs.declared.rows.Row.{Row}
use Rattle.source_map.specs.declared.rows.Site.{Site}
use Rattle.source_map.specs.declared.source_files.SourceFile.{SourceFile}

-- The byte of a program at an address, 0 where it has none.
abbrev pub byte_in : List (Option ℕ) → ℕ → ℕ
byte_in image address = unwrap_or (cell_at image address) 0

-- The byte of a program at an address and the two behind it. $0000 comes after $FFFF.
abbrev pub bytes_in : List (Option ℕ) → ℕ → List ℕ
bytes_in image address = byte_in image address ∷ byte_in image ((address + 1) % 65536)
    ∷ byte_in image ((address + 2) % 65536) ∷ []

-- ---- an assembly

-- The row of a line, if the line has bytes.
abbrev pub row_of : List (Option ℕ) → LineView → List Row
row_of image line = if nat_lt 0 line.count && nat_le line.address 65535 then record {
  address = line.address;
  file = 0;
  line = line.number;
  kind = Assembler;
  depth = 0;
  count = line.count;
  bytes = bytes_in image line.address;
  is_instruction = line.is_instruction;
  is_whole_line = true;
  begins_line = true;
} ∷ [] else []

-- The rows of the lines that have bytes, in their order.
abbrev pub rows_of : List (Option ℕ) → List LineView → List Row
rows_of image lines = flat_map (row_of image) lines

-- Where rows begin and end.
abbrev pub site_of : Row → Site
site_of row = record {
  file = row.file;
  line = row.line;
  address = row.address;
  end = row.address + row.count;
}

abbrev pub sites_of : List Row → List Site
sites_of rows = map site_of rows

-- The texts of lines, each without its end.
abbrev pub texts_of : List LineView → List (List ℕ)
texts_of lines = map (λ line. line.text) lines

-- What texts hold.
abbrev pub items_of : List (Vec ℕ) → List (List ℕ)
items_of texts = map (λ text. text.items) texts

-- ---- files

-- A file of a source: its name, and the texts of all its lines, each without its end.
pub record SourceView : Type 0 where
  pub name : List ℕ
  pub texts : List (List ℕ)

abbrev pub source_view : SourceFile → SourceView
source_view source = record { name = source.name.items; texts = items_of source.texts.items }

abbrev pub name_of_file : Option SourceView → List ℕ
name_of_file None = []
name_of_file (Some source) = source.name

abbrev pub texts_of_file : Option SourceView → List (List ℕ)
texts_of_file None = []
texts_of_file (Some source) = source.texts

-- The name and the texts of the file of a number: none if there is no such file.
abbrev pub file_name : List SourceView → ℕ → List ℕ
file_name sources file = name_of_file (slice_get sources file)

abbrev pub texts_at : List SourceView → ℕ → List (List ℕ)
texts_at sources file = texts_of_file (slice_get sources file)

-- The text of a line, counted from 1.
abbrev pub text_of : List (List ℕ) → ℕ → Option (List ℕ)
text_of texts zero = None
text_of texts (suc index) = slice_get texts index

-- ---- names and lines

-- Names; what stands at addresses, with the lines that are shown for it; where bytes of each line
-- begin and end; the files; whether each byte of the program is one of a line; and the functions of C.
pub record PlacesView : Type 0 where
  pub names : List Named
  pub lines : List Row
  pub sites : List Site
  pub sources : List SourceView
  pub is_whole : Bool
  pub functions : List FunctionView

-- What stands where in a program of which nothing is known.
abbrev pub no_places : PlacesView
no_places = record {
  names = [];
  lines = [];
  sites = [];
  sources = [];
  is_whole = false;
  functions = [];
}

-- What stands where in a source, which is one file.
abbrev pub places_of : List ℕ → AssemblyView → PlacesView
places_of file assembly = record {
  names = names_in assembly;
  lines = rows_of assembly.image (source_lines assembly);
  sites = sites_of (rows_of assembly.image (source_lines assembly));
  sources = record { name = file; texts = texts_of (source_lines assembly) } ∷ [];
  is_whole = true;
  functions = [];
}

-- ---- by address

-- The first row whose first byte stands at an address.
abbrev pub row_at : List Row → ℕ → Option Row
row_at lines address = find (λ row. row.address == address) lines

-- The line of the first row whose first byte stands at an address.
abbrev pub line_at : List Row → ℕ → Option ℕ
line_at lines address = option_map (λ row. row.line) (row_at lines address)

-- A line with its file, as it is shown: `hunt.a65:8`.
abbrev pub site_words : List SourceView → Row → List ℕ
site_words sources row
    = shown_bytes (file_name sources row.file) ++ (codes ":" ++ decimal row.line)

-- The same in a text, if there is one: `, hunt.a65:8`.
abbrev pub line_words : List SourceView → Option Row → List ℕ
line_words sources None = []
line_words sources (Some row) = codes ", " ++ site_words sources row

-- ---- by line

-- Whether a site has a lower line than another one, or a lower address in the same line.
abbrev pub is_before : Site → Option Site → Bool
is_before site None = true
is_before site (Some other) = nat_lt site.line other.line
    || (site.line == other.line && nat_lt site.address other.address)

abbrev pub with_site : ℕ → ℕ → Option Site → Site → Option Site
with_site file line best site = if site.file == file && nat_le line site.line && is_before site best
    then Some site else best

-- Of the sites of a file at a line or behind it the one of the lowest line, and of these of the
-- lowest address. Lines are counted from 1.
abbrev pub site_from : ℕ → ℕ → Option Site → List Site → Option Site
site_from file line best [] = best
site_from file line best (site ∷ sites) = site_from file line (with_site file line best site) sites

-- The address of a line of a file, or of the next one that has bytes.
abbrev pub address_from : List Site → ℕ → ℕ → Option ℕ
address_from sites file line = option_map (λ site. site.address) (site_from file line None sites)

-- The line itself, or that next one.
abbrev pub line_from : List Site → ℕ → ℕ → Option ℕ
line_from sites file line = option_map (λ site. site.line) (site_from file line None sites)

-- ---- all addresses of a line

-- Whether two sites are of one line.
abbrev pub is_of_line : Site → Site → Bool
is_of_line one other = other.file == one.file && other.line == one.line

-- Whether the bytes of a site are among those of another one, which begins before it.
abbrev pub is_within : Site → Site → Bool
is_within site other = nat_lt other.address site.address && nat_le site.end other.end

abbrev pub is_inner : List Site → Site → Bool
is_inner sites site = list_any (is_within site) sites

abbrev pub outermost : List Site → List Site
outermost sites = filter (λ site. not (is_inner sites site)) sites

-- An address stands behind those that are lower, once.
abbrev pub lower_in : ℕ → List ℕ → ℕ
lower_in address found = prefix_len (λ other. nat_lt other address) found

abbrev pub is_there : ℕ → List ℕ → Bool
is_there address found = nat_lt (lower_in address found) (length found)
    && get_or found (lower_in address found) 0 == address

abbrev pub with_address : ℕ → List ℕ → List ℕ
with_address address found
    = if is_there address found then found else insert found (lower_in address found) address

abbrev pub in_order : List ℕ → List Site → List ℕ
in_order found [] = found
in_order found (site ∷ sites) = in_order (with_address site.address found) sites

abbrev pub addresses_from : List Site → Option Site → List ℕ
addresses_from sites None = []
addresses_from sites (Some first) = in_order [] (outermost (filter (is_of_line first) sites))

-- The addresses at which bytes of a line of a file begin, or of the next one that has bytes, but for
-- those that are among others of the line. They ascend.
abbrev pub addresses_of_line : List Site → ℕ → ℕ → List ℕ
addresses_of_line sites file line = addresses_from sites (site_from file line None sites)

-- ---- data

-- How many bytes of a row are left from an address on: none if it does not stand there.
abbrev pub left_in : ℕ → Row → ℕ
left_in address row = if nat_le row.address address then row.count - (address - row.address) else 0

-- Whether a row is no instruction and has a byte at an address.
abbrev pub is_data_at : ℕ → Row → Bool
is_data_at address row = not row.is_instruction && nat_lt 0 (left_in address row)

-- How many bytes the first row of data that stands at an address has from there on: none if no
-- such row does.
abbrev pub data_left : List Row → ℕ → ℕ
data_left [] address = 0
data_left (row ∷ rows) address
    = if is_data_at address row then left_in address row else data_left rows address

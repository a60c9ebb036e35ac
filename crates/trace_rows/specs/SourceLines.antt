-- The lines that are shown for the bytes of a program: of its source, or by places. Source: mos65.
use Rattle.std.specs.Prelude.{ℕ, ◌==◌, ◌&&◌, min, nat_le, nat_lt, not, Bool, false, if◌then◌else◌, List, [], ◌∷◌, Option, None, Some, unwrap_or}
use Rattle.std.specs.List.{flat_map}
use Rattle.arguments.specs.Shown.{shown_bytes}
use Rattle.assembler.specs.Assembly.{AssemblyView, source_lines}
use Rattle.assembler.specs.Lines.{LineView}
use Rattle.source_map.specs.Lines.{PlacesView, SourceView, file_name, text_of, texts_at}
use Rattle.source_map.specs.declared.rows.Row.{Row}
use Rattle.trace_rows.specs.declared.lines.SourceLine.{SourceLine}

-- A line as it is kept: with the name of its file as it is shown, if it is.
pub record Listed : Type 0 where
  pub file : List ℕ
  pub number : ℕ
  pub address : ℕ
  pub count : ℕ
  pub text : List ℕ
  pub is_instruction : Bool
  pub continues : Bool

abbrev pub listed : SourceLine → Listed
listed line = record {
  file = line.file.items;
  number = line.number;
  address = line.address;
  count = line.len;
  text = line.text.items;
  is_instruction = line.is_instruction;
  continues = line.continues;
}

-- ---- of a source, which is one file

-- A line, if it has bytes, with three of them at most.
abbrev pub line_of : LineView → List Listed
line_of line = if nat_lt 0 line.count && nat_le line.address 65535 then record {
  file = [];
  number = line.number;
  address = line.address;
  count = min line.count 3;
  text = line.text;
  is_instruction = line.is_instruction;
  continues = false;
} ∷ [] else []

-- The lines of an assembled source that have bytes, in their order.
unfoldable pub lines_of : List LineView → List Listed
lines_of lines = flat_map line_of lines

abbrev pub lines_in : AssemblyView → List Listed
lines_in assembly = lines_of (source_lines assembly)

-- ---- by places

-- Whether a row has further bytes of the line that is shown for the row before it.
abbrev pub continues : Option Row → Row → Bool
continues None row = false
continues (Some before) row
    = before.file == row.file && before.line == row.line && not row.begins_line

-- The line that is shown for bytes, with three of them at most, and the text that its file has there.
abbrev pub line_by : List SourceView → Option Row → Row → Listed
line_by sources before row = record {
  file = shown_bytes (file_name sources row.file);
  number = row.line;
  address = row.address;
  count = min row.count 3;
  text = unwrap_or (text_of (texts_at sources row.file) row.line) [];
  is_instruction = row.is_instruction;
  continues = continues before row;
}

-- The lines of rows, behind a row.
unfoldable pub lines_behind : List SourceView → Option Row → List Row → List Listed
lines_behind sources before [] = []
lines_behind sources before (row ∷ rows)
    = line_by sources before row ∷ lines_behind sources (Some row) rows

-- The lines of all rows, in their order.
abbrev pub lines_by : PlacesView → List Listed
lines_by places = lines_behind places.sources None places.lines

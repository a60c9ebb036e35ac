-- A source with its lines and its names, and places in it. Source: Language Server Protocol 3.17,
-- "Position", "Range"; the limit of a source, mos65.
use Rattle.std.specs.Prelude.{ℕ, ◌+◌, ◌-◌, ◌&&◌, nat_lt, min, if◌then◌else◌, List, [], length, Option, Some, None, option_and_then}
use Rattle.std.specs.List.{find}
use Rattle.lsp_answers.specs.declared.source_text.Text.{Text}
use Rattle.lsp_messages.specs.Columns.{column_of, most, units_before}
use Rattle.lsp_messages.specs.Values.{range_data}
use Rattle.model.specs.TextLines.{lines_of}
use Rattle.model.specs.declared.instruction.Profile.{Profile}
use Rattle.name_uses.specs.Places.{covers}
use Rattle.name_uses.specs.Uses.{Use, uses_of}
use Rattle.name_uses.specs.Views.{use_views}
use Rattle.serde_json.specs.Data.{Data}
use Rattle.source_notes.specs.Lines.{line_of, line_or_none, texts_of}

pub record TextView : Type 0 where
  pub profile : Profile
  pub source : List ℕ
  pub lines : List (List ℕ)
  pub uses : List Use

-- A source in a profile. One of more than 1,048,576 bytes has neither lines nor names.
abbrev pub text_of : Profile → List ℕ → TextView
text_of profile source = record {
  profile = profile;
  source = source;
  lines = if nat_lt 1048576 (length source) then [] else lines_of source;
  uses = if nat_lt 1048576 (length source) then [] else uses_of profile source;
}

-- A text without where it lies in memory.
abbrev pub text_view : Text → TextView
text_view t = record {
  profile = t.profile;
  source = t.source.now;
  lines = texts_of t.lines.items;
  uses = use_views t.uses.items;
}

-- ---- places

-- A line of a text, counted from 1; empty where there is none.
abbrev pub line_at : TextView → ℕ → List ℕ
line_at t number = line_or_none (line_of t.lines number)

-- The number of a line that the protocol counts from 0, if there is such a line.
abbrev pub number_in : TextView → ℕ → Option ℕ
number_in t line
    = if nat_lt line (length t.lines) && nat_lt line 4294967295 then Some (line + 1) else None

-- The range of so many bytes from a column of a line on, in units of UTF-16.
abbrev pub range_in : TextView → ℕ → ℕ → ℕ → Data
range_in t number start width = range_data (number - 1) (units_before start (line_at t number))
    (units_before (min (start + width) most) (line_at t number))

abbrev pub use_range : TextView → Use → Data
use_range t u = range_in t u.line u.start (length u.text)

-- The name at a place, if one stands there.
abbrev pub name_on : TextView → ℕ → ℕ → Option Use
name_on t character number
    = find (covers number (column_of character (line_at t number))) t.uses

abbrev pub name_at : TextView → ℕ → ℕ → Option Use
name_at t line character = option_and_then (name_on t character) (number_in t line)

-- Fields and records without where they lie in memory.
use Rattle.std.specs.Prelude.{ℕ, List, map, Option}
use Rattle.std.specs.Borrow.{Bor}
use Rattle.std.specs.Option.{option_map}
use Rattle.debug_records.specs.Fields.{Field, Said}
use Rattle.debug_records.specs.Info.{Info}
use Rattle.debug_records.specs.Reading.{Reading}
use Rattle.debug_records.specs.Records.{CSymbol, File, Output, Scope, Segment, Symbol}
use Rattle.debug_records.specs.declared.fields.Field.{Field as HeldField}
use Rattle.debug_records.specs.declared.fields.Said.{Said as HeldSaid}
use Rattle.debug_records.specs.declared.info.DebugInfo.{DebugInfo}
use Rattle.debug_records.specs.declared.reading.Reading.{Reading as HeldReading}
use Rattle.debug_records.specs.declared.record.CSymbol.{CSymbol as HeldCSymbol}
use Rattle.debug_records.specs.declared.record.File.{File as HeldFile}
use Rattle.debug_records.specs.declared.record.Output.{Output as HeldOutput}
use Rattle.debug_records.specs.declared.record.Scope.{Scope as HeldScope}
use Rattle.debug_records.specs.declared.record.Segment.{Segment as HeldSegment}
use Rattle.debug_records.specs.declared.record.Symbol.{Symbol as HeldSymbol}

abbrev pub field_view : HeldField → Field
field_view field = record {
  name = field.name.now;
  value = field.value.now;
  is_text = field.is_text;
  left = field.left;
}

abbrev pub said_view : HeldSaid → Said
said_view said = record { word = said.word.now; fields = map field_view said.fields.items }

abbrev pub file_view : HeldFile → File
file_view file = record { name = file.name.now; size = file.size }

abbrev pub output_view : HeldOutput → Output
output_view output = record { name = output.name.now; offset = output.offset }

abbrev pub segment_view : HeldSegment → Segment
segment_view segment = record {
  name = segment.name.now;
  start = segment.start;
  size = segment.size;
  is_read_only = segment.is_read_only;
  output = option_map output_view segment.output;
}

abbrev pub symbol_view : HeldSymbol → Symbol
symbol_view symbol = record {
  name = symbol.name.now;
  value = symbol.value;
  is_label = symbol.is_label;
}

abbrev pub scope_view : HeldScope → Scope
scope_view scope = record { name = scope.name.now; size = scope.size; symbol = scope.symbol }

abbrev pub c_symbol_view : HeldCSymbol → CSymbol
c_symbol_view name = record {
  name = name.name.now;
  scope = name.scope;
  storage = name.storage;
  offset = name.offset;
  symbol = name.symbol;
}

abbrev pub info_view : DebugInfo → Info
info_view info = record {
  files = map (option_map file_view) info.files.items;
  segments = map (option_map segment_view) info.segments.items;
  symbols = map (option_map symbol_view) info.symbols.items;
  spans = info.spans.items;
  lines = info.lines.items;
  modules = info.modules.items;
  scopes = map (option_map scope_view) info.scopes.items;
  c_symbols = map (option_map c_symbol_view) info.c_symbols.items;
  uses = info.uses.items;
}

abbrev pub reading_view : HeldReading → Reading
reading_view reading = record {
  is_versioned = reading.is_versioned;
  info = info_view reading.info;
  references = reading.references.items;
}

-- A field, and the text behind it.
abbrev pub read_view : HeldField × Bor (List ℕ) → Field × List ℕ
read_view read = (field_view read.0, read.1.now)

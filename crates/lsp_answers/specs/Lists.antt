-- The names of a source. Source: Language Server Protocol 3.17, "Document Symbols Request".
use Rattle.std.specs.Prelude.{Bool, List, map}
use Rattle.std.specs.List.{filter}
use Rattle.std.specs.Str.Lossy.{utf8_lossy}
use Rattle.lsp_answers.specs.Named.{symbol_kind}
use Rattle.lsp_answers.specs.Texts.{TextView, use_range}
use Rattle.json_messages.specs.Values.{list_of}
use Rattle.lsp_messages.specs.Values.{symbol_data}
use Rattle.name_uses.specs.Uses.{Use}
use Rattle.serde_json.specs.Data.{Data}

-- Where names are defined, among some uses.
abbrev pub is_defined : Use → Bool
is_defined u = u.defines

abbrev pub defined : List Use → List Use
defined uses = filter is_defined uses

abbrev pub symbol_of : TextView → Use → Data
symbol_of t u
    = symbol_data (symbol_kind t u) (utf8_lossy u.text) (use_range t u) (use_range t u)

-- The names that a source defines, each where it is defined.
abbrev pub symbols_of : TextView → Data
symbols_of t = list_of (map (symbol_of t) (defined t.uses))

-- A word that may be written. Source: Language Server Protocol 3.17, "CompletionItem".
use Rattle.std.specs.Prelude.{ℕ, List, ◌++◌}
use Rattle.std.specs.Str.Lossy.{utf8_lossy}
use Rattle.lsp_messages.specs.Values.{item_data}
use Rattle.serde_json.specs.Data.{Data}

-- A word of a kind, with what it is, behind those of the groups before its own.
abbrev pub item_of : List ℕ → ℕ → List ℕ → List ℕ → Data
item_of name kind told group
    = item_data (utf8_lossy name) kind (utf8_lossy told) (utf8_lossy (group ++ name))

-- Names by letters. Source: Language Server Protocol 3.17, "Workspace Symbols Request".
use Rattle.std.specs.Prelude.{ℕ, ◌==◌, ◌&&◌, Bool, if◌then◌else◌, List, [], ◌∷◌, length}
use Rattle.std.specs.Char.{to_ascii_lowercase}
use Rattle.std.specs.Str.Lossy.{utf8_lossy}
use Rattle.lsp_answers.specs.Named.{symbol_kind}
use Rattle.lsp_answers.specs.Texts.{TextView, use_range}
use Rattle.lsp_messages.specs.Values.{found_symbol_data, location_data}
use Rattle.name_uses.specs.Uses.{Use}
use Rattle.serde_json.specs.Data.{Data}

-- What is left of a query behind a letter, in either letter case.
abbrev pub without_letter : List ℕ → ℕ → List ℕ
without_letter [] b = []
without_letter (q ∷ query) b
    = if to_ascii_lowercase q == to_ascii_lowercase b then query else q ∷ query

-- What is left of it behind a name.
unfoldable pub left_of : List ℕ → List ℕ → List ℕ
left_of query [] = query
left_of query (b ∷ name) = left_of (without_letter query b) name

-- The letters of a query stand in a name in their order.
abbrev pub has_letters : List ℕ → List ℕ → Bool
has_letters query name = length (left_of query name) == 0

abbrev pub is_found : List ℕ → Use → Bool
is_found query u = u.defines && has_letters query u.text

-- A name of a document where it is defined.
abbrev pub located : List ℕ → TextView → Use → Data
located uri t u = found_symbol_data (symbol_kind t u) (utf8_lossy u.text)
    (location_data uri (use_range t u))

-- A use that defines a name with the letters of a query.
abbrev pub found_of : List ℕ → TextView → List ℕ → Use → List Data
found_of uri t query u = if is_found query u then located uri t u ∷ [] else []

-- The kinds of names. Source: Language Server Protocol 3.17, "SymbolKind", "CompletionItemKind"; of
-- which kind a name is, mos65.
use Rattle.std.specs.Prelude.{ℕ, ◌==◌, if◌then◌else◌, Bool, false, List, [], ◌∷◌, drop, length}
use Rattle.lsp_answers.specs.Texts.{TextView, line_at}
use Rattle.name_uses.specs.Uses.{Use}
use Rattle.source_notes.specs.Lines.{without_blanks}

abbrev pub is_equals : List ℕ → Bool
is_equals [] = false
is_equals (b ∷ bytes) = b == 61

-- A name is given its number where `=` stands behind it; otherwise it is a label.
abbrev pub is_given : TextView → Use → Bool
is_given t u
    = is_equals (without_blanks (drop (length u.text) (drop u.start (line_at t u.line))))

-- A name that may be written: a constant, which is the number 21, or a function, which is 3.
abbrev pub item_kind : TextView → Use → ℕ
item_kind t u = if is_given t u then 21 else 3

-- A name of a document: a constant, which is the number 14, or a function, which is 12.
abbrev pub symbol_kind : TextView → Use → ℕ
symbol_kind t u = if is_given t u then 14 else 12

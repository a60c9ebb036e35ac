-- What is painted of a source. Source: Language Server Protocol 3.17, "Semantic Tokens"; mos65.
use Rattle.std.specs.Prelude.{ℕ, ◌+◌, ◌-◌, ◌==◌, ◌||◌, nat_lt, Bool, true, false, if◌then◌else◌, List, [], ◌∷◌, ◌++◌, length, codes, Option, Some, None}
use Rattle.lsp_hints.specs.Colours.{colour_of, modifiers_of, type_of}
use Rattle.lsp_hints.specs.Hints.{is_between}
use Rattle.lsp_hints.specs.Operations.{blanks_after}
use Rattle.lsp_hints.specs.declared.colour.Colour.{Colour}
use Rattle.lsp_hints.specs.declared.colour.Colour.TheVariants.{Comment}
use Rattle.lsp_hints.specs.declared.paint.Paint.{Paint}
use Rattle.json_messages.specs.Values.{count, list_of, object_of}
use Rattle.model.specs.Token.{Lexeme, tokens_of}
use Rattle.model.specs.declared.instruction.Profile.{Profile}
use Rattle.serde_json.specs.Data.{Data}
use Rattle.source_notes.specs.Operands.{is_symbol_text}

-- ---- a line

-- A token is this symbol.
abbrev pub is_mark : ℕ → Lexeme → Bool
is_mark symbol t = is_symbol_text t.kind t.text symbol

-- A line defines the name that it begins with, where `:` or `=` stands behind it.
abbrev pub starts_definition : List Lexeme → Bool
starts_definition [] = false
starts_definition (t ∷ []) = false
starts_definition (t ∷ mark ∷ ts) = is_mark 58 mark || is_mark 61 mark

abbrev pub paint_by : ℕ → Lexeme → Option Colour → List Paint
paint_by line t None = []
paint_by line t (Some colour) = record {
  line = line;
  start = t.start;
  width = length t.text;
  colour = colour;
} ∷ []

abbrev pub token_paints : Profile → ℕ → Bool → Lexeme → List Paint
token_paints profile line defines t = paint_by line t (colour_of profile defines t)

-- The tokens of a line, of which the first one is defined there, or none is.
unfoldable pub tokens_paints : Profile → ℕ → Bool → List Lexeme → List Paint
tokens_paints profile line defines [] = []
tokens_paints profile line defines (t ∷ ts)
    = token_paints profile line defines t ++ tokens_paints profile line false ts

-- Where the last token ends, or this place without tokens.
unfoldable pub code_end : ℕ → List Lexeme → ℕ
code_end place [] = place
code_end place (t ∷ ts) = code_end (t.start + length t.text) ts

abbrev pub rest_paints : ℕ → List ℕ → ℕ → List Paint
rest_paints line text start = if nat_lt start (length text) then record {
  line = line;
  start = start;
  width = length text - start;
  colour = Comment;
} ∷ [] else []

-- The comment of a line is what stands behind the last token and blanks.
abbrev pub comment_paints : ℕ → List ℕ → ℕ → List Paint
comment_paints line text end = rest_paints line text (blanks_after text end)

abbrev pub paints_by : Profile → ℕ → List ℕ → Option (List Lexeme) → List Paint
paints_by profile line text None = []
paints_by profile line text (Some ts) = tokens_paints profile line (starts_definition ts) ts
    ++ comment_paints line text (code_end 0 ts)

-- What is painted of a line; nothing of one that is not made of tokens. A line of tokens is ASCII,
-- so that its bytes are its units of UTF-16.
unfoldable pub line_paints : Profile → ℕ → List ℕ → List Paint
line_paints profile line text = paints_by profile line text (tokens_of text)

-- ---- all lines, or those between two

abbrev pub is_asked : Option (ℕ × ℕ) → ℕ → Bool
is_asked None line = true
is_asked (Some between) line = is_between between line

abbrev pub asked_paints : Profile → Option (ℕ × ℕ) → ℕ → List ℕ → List Paint
asked_paints profile between line text
    = if is_asked between line then line_paints profile line text else []

unfoldable pub paints_from : Profile → Option (ℕ × ℕ) → ℕ → List (List ℕ) → List Paint
paints_from profile between line [] = []
paints_from profile between line (text ∷ texts)
    = asked_paints profile between line text ++ paints_from profile between (line + 1) texts

abbrev pub paints_of : Profile → Option (ℕ × ℕ) → List (List ℕ) → List Paint
paints_of profile between texts = paints_from profile between 0 texts

-- ---- numbers

-- How far behind a start: behind one in the same line, or else from the line's beginning on.
abbrev pub further : ℕ → ℕ → Paint → ℕ
further line start p = if p.line == line then p.start - start else p.start

-- Five numbers: how many lines and how far behind the one before, the width, type and modifiers.
abbrev pub paint_counts : ℕ → ℕ → Paint → List Data
paint_counts line start p = count (p.line - line) ∷ count (further line start p) ∷ count p.width
    ∷ count (type_of p.colour) ∷ count (modifiers_of p.colour) ∷ []

unfoldable pub counted : ℕ → ℕ → List Paint → List Data
counted line start [] = []
counted line start (p ∷ ps) = paint_counts line start p ++ counted p.line p.start ps

abbrev pub data_of : Data → Data
data_of counts = object_of ((codes "data", counts) ∷ [])

-- What is painted of the lines of a source, or of those between two.
abbrev pub painted : Profile → Option (ℕ × ℕ) → List (List ℕ) → Data
painted profile between lines = data_of (list_of (counted 0 0 (paints_of profile between lines)))

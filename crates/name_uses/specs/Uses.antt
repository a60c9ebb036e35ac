-- The names of a source where they stand. Source: mos65.
use Rattle.std.specs.Prelude.{ℕ, ◌+◌, Bool, true, false, not, ◌&&◌, if◌then◌else◌, List, [], ◌∷◌, ◌++◌, Option, Some, None, Result, Ok, Err}
use Rattle.std.specs.Str.{bytes_eq}
use Rattle.model.specs.Source.{read_lines}
use Rattle.model.specs.SourceLine.{Line, labelled, definition, is_reserved, read_line}
use Rattle.model.specs.Token.{Lexeme, tokens_of}
use Rattle.model.specs.declared.expression.TokenKind.{TokenKind}
use Rattle.model.specs.declared.expression.TokenKind.TheVariants.{Word, Directive, Number, Char, Str, Symbol}
use Rattle.model.specs.declared.instruction.Profile.{Profile}
use Rattle.model.specs.declared.source_fault.AsmFaultKind.{AsmFaultKind}

-- A name where it stands: its line, counted from 1, its start in the line, counted from 0, its bytes,
-- and whether the line defines it there.
pub record Use : Type 0 where
  pub line : ℕ
  pub start : ℕ
  pub text : List ℕ
  pub defines : Bool

-- Whether a token is a name: a word that is no reserved word.
abbrev pub is_name_in : Profile → TokenKind → List ℕ → Bool
is_name_in profile Word text = not (is_reserved profile text)
is_name_in profile Directive text = false
is_name_in profile Number text = false
is_name_in profile Char text = false
is_name_in profile Str text = false
is_name_in profile Symbol text = false

abbrev pub is_name_token : Profile → Lexeme → Bool
is_name_token profile t = is_name_in profile t.kind t.text

-- Whether the tokens of a text are one that is a name and all of the text.
abbrev pub is_name_alone : Profile → List ℕ → List Lexeme → Bool
is_name_alone profile text [] = false
is_name_alone profile text (t ∷ []) = is_name_token profile t && bytes_eq t.text text
is_name_alone profile text (t ∷ u ∷ ts) = false

abbrev pub is_name_by : Profile → List ℕ → Option (List Lexeme) → Bool
is_name_by profile text None = false
is_name_by profile text (Some ts) = is_name_alone profile text ts

-- Whether a text is a name.
unfoldable pub is_name : Profile → List ℕ → Bool
is_name profile text = is_name_by profile text (tokens_of text)

abbrev pub use_of : ℕ → Bool → Lexeme → Use
use_of number defines t = record {
  line = number;
  start = t.start;
  text = t.text;
  defines = defines;
}

-- The names among the tokens of a line. The line defines the first one, or none of them.
unfoldable pub uses_in : Profile → ℕ → Bool → List Lexeme → List Use
uses_in profile number defines [] = []
uses_in profile number defines (t ∷ ts) = if is_name_token profile t
    then use_of number defines t ∷ uses_in profile number false ts
    else uses_in profile number defines ts

-- Whether a line defines the name with which it begins.
abbrev pub defines_first : Line → Bool
defines_first (labelled None s) = false
defines_first (labelled (Some name) s) = true
defines_first (definition name e) = true

abbrev pub uses_by : Profile → ℕ → Result Line AsmFaultKind → Option (List Lexeme) → List Use
uses_by profile number (Ok l) (Some ts) = uses_in profile number (defines_first l) ts
uses_by profile number (Ok l) None = []
uses_by profile number (Err kind) ts = []

-- The names of a line; none of a line whose text has a fault.
unfoldable pub line_uses : Profile → ℕ → List ℕ → List Use
line_uses profile number line = uses_by profile number (read_line profile line) (tokens_of line)

-- Those of lines, the first of which has this number.
unfoldable pub uses_from : Profile → ℕ → List (List ℕ) → List Use
uses_from profile number [] = []
uses_from profile number (line ∷ lines)
    = line_uses profile number line ++ uses_from profile (number + 1) lines

-- The names of a source, up to its end.
unfoldable pub uses_of : Profile → List ℕ → List Use
uses_of profile source = uses_from profile 1 (read_lines profile source)

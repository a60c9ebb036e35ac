-- What the tokens of a line's operation are about. Source: mos65.
use Rattle.std.specs.Prelude.{ℕ, ◌+◌, ◌-◌, ◌^◌, ◌==◌, min, if◌then◌else◌, Bool, false, List, [], ◌∷◌, length, slice_get, Option, Some}
use Rattle.std.specs.List.{prefix_len}
use Rattle.model.specs.Token.{is_blank}
use Rattle.line_parts.specs.declared.token.Token.{Token}
use Rattle.model.specs.declared.expression.TokenKind.{TokenKind}
use Rattle.model.specs.declared.expression.TokenKind.TheVariants.{Symbol}

abbrev pub is_symbol_text : TokenKind → List ℕ → ℕ → Bool
is_symbol_text Symbol (byte ∷ []) symbol = byte == symbol
is_symbol_text kind text symbol = false

-- A token is this symbol.
abbrev pub is_symbol : Token → ℕ → Bool
is_symbol token symbol = is_symbol_text token.kind token.text.now symbol

-- The tokens after a label and its `:`, all where there is none.
abbrev pub after_label : List Token → List Token
after_label (label ∷ colon ∷ rest) = if is_symbol colon 58 then rest else label ∷ colon ∷ rest
after_label tokens = tokens

abbrev pub after_first : List Token → List Token
after_first [] = []
after_first (first ∷ []) = []
after_first (first ∷ equals ∷ value) = if is_symbol equals 61 then value else equals ∷ value

-- The tokens after the first one of an operation, or after the `=` of a definition.
abbrev pub operand_of : List Token → List Token
operand_of tokens = after_first (after_label tokens)

-- Where a token ends, as far as an index goes.
abbrev pub end_of : Token → ℕ
end_of token = min (token.start + length token.text.now) (2 ^ 64 - 1)

-- From one token to another: where it starts, and how many bytes it has. Where there is none it is
-- the first byte after the blanks of a line.
abbrev pub place_by : List ℕ → Option Token → Option Token → ℕ × ℕ
place_by line (Some first) (Some last) = (first.start, end_of last - first.start)
place_by line first last = (prefix_len is_blank line, 1)

-- What is meant by words about some tokens of a line: all from the first to the last.
abbrev pub meant_by : List ℕ → List Token → ℕ × ℕ
meant_by line tokens = place_by line (slice_get tokens 0) (slice_get tokens (length tokens - 1))

-- The operand of a line, or all of it where it has none.
abbrev pub operand_or_all : List Token → List Token → List Token
operand_or_all [] all = all
operand_or_all (first ∷ rest) all = first ∷ rest

abbrev pub operand_place : List ℕ → List Token → ℕ × ℕ
operand_place line tokens = meant_by line (operand_or_all (operand_of tokens) (after_label tokens))

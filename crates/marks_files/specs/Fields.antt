-- A line of a file of marks, cut into its word, its value and the rest. Source: mos65.
use Rattle.std.specs.Prelude.{ℕ, ◌+◌, ◌-◌, ◌==◌, ◌||◌, Bool, true, List, [], ◌∷◌, length, drop}
use Rattle.lexer.specs.Front.{field_length, first_field, without_blanks}

abbrev pub behind_word : List ℕ → List ℕ
behind_word text = without_blanks (drop (field_length text) text)

-- The column in which the end of a line begins, counted from 1.
abbrev pub column_of : List ℕ → List ℕ → ℕ
column_of line end = length line - length end + 1

-- The word that says what a line marks, its value, and what stands behind that, each with its column.
pub record Fields : Type 0 where
  pub word : List ℕ
  pub word_column : ℕ
  pub value : List ℕ
  pub value_column : ℕ
  pub rest : List ℕ
  pub rest_column : ℕ

-- The fields of a line, of which the word begins here.
abbrev pub fields_from : List ℕ → List ℕ → Fields
fields_from line text = record {
  word = first_field text;
  word_column = column_of line text;
  value = first_field (behind_word text);
  value_column = column_of line (behind_word text);
  rest = behind_word (behind_word text);
  rest_column = column_of line (behind_word (behind_word text));
}

-- The fields of a line.
unfoldable pub fields_of : List ℕ → Fields
fields_of line = fields_from line (without_blanks line)

-- Nothing is said where a text ends, or a comment begins: `;` or `#`.
abbrev pub is_nothing : List ℕ → Bool
is_nothing [] = true
is_nothing (b ∷ bytes) = b == 59 || b == 35

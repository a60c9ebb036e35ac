-- The names that the grammar reads in a line, and that the names by its tokens are these. Source:
-- mos65.
use Rattle.std.specs.Prelude.{◌≡◌, ℕ, List, [], ◌∷◌, ◌++◌, Some, None, Ok, map}
use Rattle.std.specs.List.{flat_map}
use Rattle.model.specs.Expression.{Term, literal, name, here, negated, binary, low, high}
use Rattle.model.specs.SourceLine.{Operand, absent, accumulator, immediate, direct, pointer, pointer_by_x, pointer_by_y, Item, value, string, Statement, nothing, origin, bytes, words, words_high_first, reserve, finish, instruction, Line, labelled, definition, read_line}
use Rattle.model.specs.declared.instruction.Profile.{Profile}
use Rattle.name_uses.specs.Uses.{line_uses}

-- The names of an expression, in their order.
abbrev pub names_in : Term → List (List ℕ)
names_in (literal v) = []
names_in (name text) = text ∷ []
names_in here = []
names_in (negated e) = names_in e
names_in (binary op a b) = names_in a ++ names_in b
names_in (low e) = names_in e
names_in (high e) = names_in e

abbrev pub names_in_operand : Operand → List (List ℕ)
names_in_operand absent = []
names_in_operand accumulator = []
names_in_operand (immediate e) = names_in e
names_in_operand (direct marked e by) = names_in e
names_in_operand (pointer e) = names_in e
names_in_operand (pointer_by_x e) = names_in e
names_in_operand (pointer_by_y e) = names_in e

abbrev pub names_in_item : Item → List (List ℕ)
names_in_item (value e) = names_in e
names_in_item (string text) = []

abbrev pub names_in_statement : Statement → List (List ℕ)
names_in_statement nothing = []
names_in_statement (origin e) = names_in e
names_in_statement (bytes items) = flat_map names_in_item items
names_in_statement (words es) = flat_map names_in es
names_in_statement (words_high_first es) = flat_map names_in es
names_in_statement (reserve e) = names_in e
names_in_statement finish = []
names_in_statement (instruction m operand) = names_in_operand operand

-- A label or a defined name comes first.
abbrev pub names_in_line : Line → List (List ℕ)
names_in_line (labelled None s) = names_in_statement s
names_in_line (labelled (Some label) s) = label ∷ names_in_statement s
names_in_line (definition defined e) = defined ∷ names_in e

-- The names that are found in a line are those of what the line says.
abbrev pub NamesAreTheGrammars : Type 0
NamesAreTheGrammars = (profile : Profile) (number : ℕ) (line : List ℕ) (l : Line)
    → read_line profile line ≡ Ok l
    → map (λ u. u.text) (line_uses profile number line) ≡ names_in_line l

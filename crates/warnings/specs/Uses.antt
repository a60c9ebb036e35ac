-- The names that the expressions of lines use. Source: mos65.
use Rattle.std.specs.Prelude.{ℕ, true, List, [], ◌∷◌, Option, Some, None}
use Rattle.model.specs.AllFaults.{with_word}
use Rattle.model.specs.Expression.{Term, literal, name, here, negated, binary, low, high}
use Rattle.model.specs.Layout.{term_of}
use Rattle.model.specs.Names.{Definitions}
use Rattle.model.specs.SourceLine.{Item, value, string, Statement, nothing, origin, bytes, words, words_high_first, reserve, finish, instruction, Line, labelled, definition}
use Rattle.warnings.specs.Placed.{Placed}

-- Names, and those that an expression uses: each once, in the order of their first use. The number
-- of each is 0 and says nothing.
abbrev pub used_in : Term → Definitions → Definitions
used_in (literal v) names = names
used_in (name text) names = with_word true text names
used_in here names = names
used_in (negated e) names = used_in e names
used_in (binary op a b) names = used_in b (used_in a names)
used_in (low e) names = used_in e names
used_in (high e) names = used_in e names

abbrev pub used_in_terms : List Term → Definitions → Definitions
used_in_terms [] names = names
used_in_terms (e ∷ es) names = used_in_terms es (used_in e names)

abbrev pub used_in_item : Item → Definitions → Definitions
used_in_item (value e) names = used_in e names
used_in_item (string text) names = names

abbrev pub used_in_items : List Item → Definitions → Definitions
used_in_items [] names = names
used_in_items (i ∷ is) names = used_in_items is (used_in_item i names)

abbrev pub used_in_operand : Option Term → Definitions → Definitions
used_in_operand None names = names
used_in_operand (Some e) names = used_in e names

abbrev pub used_in_statement : Statement → Definitions → Definitions
used_in_statement nothing names = names
used_in_statement (origin e) names = used_in e names
used_in_statement (bytes items) names = used_in_items items names
used_in_statement (words es) names = used_in_terms es names
used_in_statement (words_high_first es) names = used_in_terms es names
used_in_statement (reserve e) names = used_in e names
used_in_statement finish names = names
used_in_statement (instruction m operand) names = used_in_operand (term_of operand) names

abbrev pub used_in_line : Option Line → Definitions → Definitions
used_in_line None names = names
used_in_line (Some (labelled label s)) names = used_in_statement s names
used_in_line (Some (definition word e)) names = used_in e names

-- Names, and those that lines use.
abbrev pub used_by : List Placed → Definitions → Definitions
used_by [] names = names
used_by (p ∷ ps) names = used_by ps (used_in_line p.line names)

-- Lines without where they lie in memory.
use Rattle.std.specs.Prelude.{◌≡◌, ℕ, ⊤, List, map, Option, Some, None, Result, Ok, Err}
use Rattle.std.specs.Borrow.{Bor}
use Rattle.std.specs.Option.{option_map}
use Rattle.line_parts.specs.Lexemes.{lexemes}
use Rattle.line_parts.specs.declared.token.Token.{Token}
use Rattle.line_parts.specs.TermViews.{term_view}
use Rattle.line_parts.specs.declared.tree.Expr.{Expr}
use Rattle.line_parts.specs.declared.statement.Operand.{Operand}
use Rattle.line_parts.specs.declared.statement.Operand.TheVariants as operands
use Rattle.line_parts.specs.declared.statement.Item.{Item}
use Rattle.line_parts.specs.declared.statement.Item.TheVariants as items
use Rattle.line_parts.specs.declared.statement.Statement.{Statement}
use Rattle.line_parts.specs.declared.statement.Statement.TheVariants as statements
use Rattle.line_parts.specs.declared.statement.Line.{Line}
use Rattle.line_parts.specs.declared.statement.Line.TheVariants as lines
use Rattle.model.specs.Expression.{Term}
use Rattle.model.specs.SourceLine as line
use Rattle.model.specs.SourceLine.{absent, accumulator, immediate, direct, pointer, pointer_by_x, pointer_by_y, value, string, nothing, origin, bytes, words, words_high_first, reserve, finish, instruction, labelled, definition}
use Rattle.model.specs.Token.{Lexeme}
use Rattle.model.specs.declared.expression.LineFault.{LineFault}
use Rattle.model.specs.declared.expression.LineFault.TheVariants as faults
use Rattle.model.specs.declared.source_fault.AsmFaultKind.{AsmFaultKind}
use Rattle.model.specs.declared.source_fault.AsmFaultKind.TheVariants as kinds
use Rattle.line_parts.specs.declared.fault.LineError.{LineError}
use Rattle.line_parts.specs.declared.fault.LineError.TheVariants as errors

abbrev pub operand_view : Operand → line.Operand
operand_view operands.Absent = absent
operand_view operands.Accumulator = accumulator
operand_view (operands.Immediate e) = immediate (term_view e)
operand_view (operands.Direct marked e by) = direct marked (term_view e) by
operand_view (operands.Pointer e) = pointer (term_view e)
operand_view (operands.PointerByX e) = pointer_by_x (term_view e)
operand_view (operands.PointerByY e) = pointer_by_y (term_view e)

abbrev pub item_view : Item → line.Item
item_view (items.Value e) = value (term_view e)
item_view (items.Text text) = string text.now

abbrev pub statement_view : Statement → line.Statement
statement_view statements.Nothing = nothing
statement_view (statements.Origin e) = origin (term_view e)
statement_view (statements.Bytes is) = bytes (map item_view is.items)
statement_view (statements.Words es) = words (map term_view es.items)
statement_view (statements.WordsHighFirst es) = words_high_first (map term_view es.items)
statement_view (statements.Reserve e) = reserve (term_view e)
statement_view statements.Finish = finish
statement_view (statements.Instruction m operand) = instruction m (operand_view operand)

abbrev pub name_view : Option (Bor (List ℕ)) → Option (List ℕ)
name_view name = option_map (λ n. n.now) name

abbrev pub line_view : Line → line.Line
line_view (lines.Labelled name s) = labelled (name_view name) (statement_view s)
line_view (lines.Definition name e) = definition name.now (term_view e)

-- The result is what a definition gives, unless memory runs out.
abbrev pub Gives : {A B : Type 0} → (A → B) → Result A LineError → Result B AsmFaultKind → Type 0
Gives shown (Ok a) given = given ≡ Ok (shown a)
Gives shown (Err errors.Memory) given = ⊤
Gives shown (Err (errors.Kind kind)) given = given ≡ Err kind

-- An expression, and the tokens after it.
abbrev pub term_view_after : Expr × Bor (List Token) → Term × List Lexeme
term_view_after p = (term_view p.0, lexemes p.1.now)

-- An item, and the tokens after it.
abbrev pub item_view_after : Item × Bor (List Token) → line.Item × List Lexeme
item_view_after p = (item_view p.0, lexemes p.1.now)

-- What was read is what a definition finds, unless memory runs out.
abbrev pub Reads : {A B : Type 0} → (A → B) → Result A LineFault → Option B → Type 0
Reads shown (Ok a) found = found ≡ Some (shown a)
Reads shown (Err faults.OutOfMemory) found = ⊤
Reads shown (Err faults.Syntax) found = found ≡ None

-- A line whose tokens or expressions are not in the grammar has the fault Syntax.
abbrev pub error_of : LineFault → LineError
error_of faults.Syntax = errors.Kind kinds.Syntax
error_of faults.OutOfMemory = errors.Memory

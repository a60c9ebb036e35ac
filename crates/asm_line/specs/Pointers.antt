-- Operands in round brackets.
use Rattle.model.specs.declared.line.Index.{Index}
use Rattle.model.specs.declared.line.Index.TheVariants.{Unindexed, X, Y}
use Rattle.model.specs.Expression.{Term}
use Rattle.model.specs.SourceLine.{Operand, pointer, pointer_by_x, pointer_by_y}

-- the operand by the register that stands with its expression
abbrev pub pointer_by : Term → Index → Operand
pointer_by value Unindexed = pointer value
pointer_by value X = pointer_by_x value
pointer_by value Y = pointer_by_y value

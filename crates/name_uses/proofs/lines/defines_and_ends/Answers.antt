use Rattle.std.proofs.Common.{◌≡◌, Some, None, refl, ◌∙◌}
use Rattle.std.specs.Option.{is_some}
use Rattle.line_parts.specs.LineViews.{line_view}
use Rattle.line_parts.specs.declared.statement.Line.TheVariants.{Labelled}
use Rattle.line_parts.specs.declared.statement.Statement.{Statement}
use Rattle.name_uses.specs.Uses.{defines_first}
use Rattle.name_uses.proofs.lines.defines_and_ends.Goals as goal

label_defines : (label : _) (s : Statement) → is_some label ≡ defines_first (line_view (Labelled label s))
label_defines None s = refl
label_defines (Some name) s = refl

pub returns-in-Labelled-clause-defines : goal.returns-in-Labelled-clause-defines
returns-in-Labelled-clause-defines c = rw c.in-Labelled.is (c.is_some-in-Labelled.ensures ∙ label_defines c.in-Labelled.label c.in-Labelled.field-1)

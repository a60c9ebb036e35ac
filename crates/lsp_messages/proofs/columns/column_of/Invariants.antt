use Rattle.std.proofs.Common.{◌≡◌, ◌+◌, drop}
use Rattle.lsp_messages.specs.Columns.{column_of}
use Rattle.lsp_messages.proofs.columns.column_of.Given as goal

abbrev pub invariant-loop-index : goal.invariant-loop-index
invariant-loop-index l = column_of l.character l.line ≡ l.index + column_of l.left (drop l.index l.line)

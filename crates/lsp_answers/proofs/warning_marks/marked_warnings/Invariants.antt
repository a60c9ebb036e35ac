use Rattle.std.proofs.Common.{IfOk, take}
use Rattle.warning_notes.specs.Blocks.{warning_blocks}
use Rattle.lsp_answers.specs.Diagnostics.{AreMarked, warning_kind}
use Rattle.model.specs.TextLines.{lines_of}
use Rattle.source_notes.specs.Lines.{names_of}
use Rattle.lsp_answers.proofs.warning_marks.marked_warnings.Given as goal

abbrev pub invariant-loop-warning : goal.invariant-loop-warning
invariant-loop-warning l = IfOk l.found (λ ds. AreMarked (warning_blocks (names_of (lines_of l.source))) warning_kind (lines_of l.source)
    (take l.warning-index l.warnings) ds.items)

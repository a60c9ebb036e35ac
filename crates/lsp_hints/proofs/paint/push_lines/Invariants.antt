use Rattle.std.proofs.Common.{◌≡◌, ◌++◌}
use Rattle.lsp_hints.proofs.PaintSteps.{lines_left}
use Rattle.lsp_hints.specs.Painted.{paints_of}
use Rattle.source_notes.specs.Lines.{texts_of}
use Rattle.lsp_hints.proofs.paint.push_lines.Given as goal

abbrev pub invariant-loop-index : goal.invariant-loop-index
invariant-loop-index l = l.paints.items ++ lines_left l.profile l.between l.lines l.index
    ≡ l.fn.paints.items ++ paints_of l.profile l.between (texts_of l.lines)

use Rattle.std.proofs.Common.{◌≡◌, ◌++◌, None}
use Rattle.lsp_hints.proofs.FoldSteps.{labels_left}
use Rattle.lsp_hints.specs.Folds.{label_folds}
use Rattle.source_notes.specs.Lines.{texts_of}
use Rattle.lsp_hints.proofs.folds.push_labels.Given as goal

abbrev pub invariant-loop-index : goal.invariant-loop-index
invariant-loop-index l = l.folds.items ++ labels_left l.profile l.from l.lines l.index ≡ l.fn.folds.items ++ label_folds l.profile 0 None (texts_of l.lines)

use Rattle.std.proofs.Common.{◌≡◌, ◌++◌, None}
use Rattle.lsp_hints.proofs.FoldSteps.{comments_left}
use Rattle.lsp_hints.specs.Folds.{comment_folds}
use Rattle.source_notes.specs.Lines.{texts_of}
use Rattle.lsp_hints.proofs.folds.push_comments.Given as goal

abbrev pub invariant-loop-index : goal.invariant-loop-index
invariant-loop-index l = l.folds.items ++ comments_left l.from l.lines l.index ≡ l.fn.folds.items ++ comment_folds 0 None (texts_of l.lines)

use Rattle.std.proofs.Common.{◌≡◌}
use Rattle.lsp_answers.specs.Above.{above}
use Rattle.source_notes.specs.Lines.{texts_of}
use Rattle.lsp_answers.proofs.above.above.Given as goal

abbrev pub decreases-loop-first : goal.decreases-loop-first
decreases-loop-first l = l.first

abbrev pub invariant-loop-first : goal.invariant-loop-first
invariant-loop-first l = above (texts_of l.lines) l.first ≡ above (texts_of l.lines) l.before

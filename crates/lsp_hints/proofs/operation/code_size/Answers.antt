use Rattle.std.proofs.Common.{◌∙◌, ap, List, sym, ℕ}
use Rattle.lsp_hints.proofs.CodeSteps.{passed, reached}
use Rattle.lsp_hints.specs.Operations.{covered_then}
use Rattle.lsp_hints.proofs.operation.code_size.Goals as goal

pub returns-then-begins_comment : goal.returns-then-begins_comment
returns-then-begins_comment c =
    reached c.loop-index.covered c.args.line.now c.loop-index.index _ c.loop-index-test.true
    (sym c.begins_comment.ensures ∙ c.if-begins_comment.true) c.loop-index.invariant

pub loop-index-preserved : goal.loop-index-preserved
loop-index-preserved c =
    passed c.loop-index.covered c.args.line.now c.loop-index.index _ _ c.loop-index-test.true
    (sym c.begins_comment.ensures ∙ c.if-begins_comment.false)
    (c.covered_then-covered.ensures ∙ ap (λ (bytes : List ℕ). covered_then c.loop-index.covered bytes) c.after.ensures) c.loop-index.invariant

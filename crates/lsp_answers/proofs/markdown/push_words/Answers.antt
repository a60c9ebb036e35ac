use Rattle.std.proofs.Common.{arith}
use Rattle.lsp_answers.proofs.FlatSteps.{all_made, one_made}
use Rattle.lsp_answers.specs.Markdown.{marked}
use Rattle.lsp_answers.proofs.markdown.push_words.Goals as goal

pub loop-byte-preserved : goal.loop-byte-preserved
loop-byte-preserved c = one_made marked c.args.words.now c.loop-byte.byte-index _ c.loop-byte.text.items _ _ (omega (arith, c.loop-byte-test.true))
    c.in_ok-push_marked.ensures c.loop-byte.invariant

pub returns : goal.returns
returns c = all_made marked c.args.words.now c.loop-byte.byte-index c.loop-byte.text.items _ (omega (arith, c.loop-byte-test.false)) c.loop-byte.invariant

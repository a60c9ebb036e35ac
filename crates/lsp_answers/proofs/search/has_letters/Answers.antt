use Rattle.std.proofs.Common.{arith}
use Rattle.lsp_answers.proofs.SearchSteps.{letter_more, letters_end}
use Rattle.lsp_answers.proofs.search.has_letters.Goals as goal

pub loop-byte-preserved : goal.loop-byte-preserved
loop-byte-preserved c = letter_more c.loop-byte.left.now c.args.name.now c.loop-byte.byte-index _ _ _ (omega (arith, c.loop-byte-test.true))
    c.without_letter-left.ensures c.loop-byte.invariant

pub returns : goal.returns
returns c = letters_end c.loop-byte.left.now c.args.name.now c.loop-byte.byte-index _ _ (omega (arith, c.loop-byte-test.false)) c.is_empty.ensures
    c.loop-byte.invariant

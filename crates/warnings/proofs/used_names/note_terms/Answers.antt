use Rattle.std.proofs.Common.{arith}
use Rattle.warnings.proofs.Using.{terms_done, terms_on}
use Rattle.warnings.proofs.used_names.note_terms.Goals as goal

pub loop-term-preserved : goal.loop-term-preserved
loop-term-preserved c = terms_on c.args.terms.now c.loop-term.term-index c.term-item.result c.loop-term.names c.note_term.new.names _
    c.loop-term-test.true c.term-item.is c.in_ok-note_term.ensures c.loop-term.invariant

pub returns : goal.returns
returns c = terms_done c.args.terms.now c.loop-term.term-index c.loop-term.names _ (omega (arith, c.loop-term-test.false)) c.loop-term.invariant

use Rattle.std.proofs.Common.{refl}
use Rattle.word_trace.specs.Gathered.{gathered}
use Rattle.word_trace.proofs.Counting.{passes_nothing}
use Rattle.word_trace.proofs.turns.take_unnoted_turn.Goals as goal

pub returns-clause-passed : goal.returns-clause-passed
returns-clause-passed c = λ made.
    passes_nothing (gathered c.args.tracer.now) c.args.session.now.current c.take_plain_turn.new.session.current
    (c.if-not-touches_no_other.ensures refl) (c.take_plain_turn.ensures.entry made)

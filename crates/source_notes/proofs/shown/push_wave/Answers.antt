use Rattle.std.proofs.Common.{◌∙◌, ◌-◌, ◌+◌, arith}
use Rattle.source_notes.proofs.MarkSteps.{wave_more, wave_end}
use Rattle.source_notes.proofs.shown.push_wave.Goals as goal

pub loop-preserved : goal.loop-preserved
loop-preserved c = wave_more (c.args.count - c.loop.counter) (c.args.count - (c.loop.counter + 1)) _ _ (omega arith) c.in_ok-push.ensures.items
    ∙ c.loop.invariant

pub returns : goal.returns
returns c = wave_end (c.args.count - c.loop.counter) _ _ (omega arith) c.loop.invariant

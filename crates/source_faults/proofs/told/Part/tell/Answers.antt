use Rattle.std.proofs.Common.{arith}
use Rattle.source_faults.specs.Views.{rule_of}
use Rattle.source_faults.proofs.Telling.{done_second}
use Rattle.source_faults.proofs.told.Part.tell.Goals as goal

pub returns-then-at-second : goal.returns-then-at-second
returns-then-at-second c =
    done_second (rule_of c.args.self) c.loop-one.faults.items c.loop-one.one-index c.args.first.now c.args.second.now _
    (omega (arith, c.loop-one.invariant.count, c.if-at-second.true)) c.loop-one.invariant.exact

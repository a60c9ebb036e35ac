use Rattle.std.proofs.Common.{refl}
use Rattle.reached.proofs.Searching.{none_unset, more_unset}
use Rattle.reached.proofs.search.no_flags.Goals as goal

pub loop-init : goal.loop-init
loop-init c = none_unset c.in_ok-flags.flags.items 0 c.in_ok-flags.ensures.items refl

pub loop-preserved : goal.loop-preserved
loop-preserved c = more_unset c.loop.flags.items c.push.new.self.items c.loop.counter c.loop.invariant c.in_ok-push.ensures.items

use Rattle.std.proofs.Common.{◌≡◌}
use Rattle.word_cmp.specs.Differences.{differences_below}
use Rattle.word_cmp.proofs.comparing.differences.Given as goal

abbrev pub invariant-loop-address : goal.invariant-loop-address
invariant-loop-address l = l.found.items ≡ differences_below l.one l.other l.address

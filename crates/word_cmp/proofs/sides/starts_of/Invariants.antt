use Rattle.std.proofs.Common.{◌≡◌}
use Rattle.word_cmp.specs.DifferenceRows.{read_below, starts_below}
use Rattle.word_cmp.proofs.sides.starts_of.Given as goal

abbrev pub invariant-loop-address : goal.invariant-loop-address
invariant-loop-address l = record {
  list : l.starts.items ≡ starts_below l.profile l.image l.address;
  start : l.start ≡ (read_below l.profile l.image l.address).start;
  left : l.left ≡ (read_below l.profile l.image l.address).left;
}

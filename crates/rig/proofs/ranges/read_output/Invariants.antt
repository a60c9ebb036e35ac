use Rattle.std.proofs.Common.{◌≡◌, length, take, drop}
use Rattle.rig.proofs.ranges.read_output.Given as goal

abbrev pub invariant-loop-i : goal.invariant-loop-i
invariant-loop-i l = record {
  size : length l.out ≡ length l.fn.out;
  front : take l.i l.out ≡ take l.i (drop l.from l.session.current.bus.out);
}

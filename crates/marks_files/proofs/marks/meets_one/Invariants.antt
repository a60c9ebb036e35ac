use Rattle.std.proofs.Common.{◌≡◌, drop}
use Rattle.marks_files.specs.Marks.{meets_one}
use Rattle.marks_files.proofs.marks.meets_one.Given as goal

abbrev pub invariant-loop-other : goal.invariant-loop-other
invariant-loop-other l = meets_one (drop l.other-index l.ranges) l.range ≡ meets_one l.ranges l.range

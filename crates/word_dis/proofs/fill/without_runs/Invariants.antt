use Rattle.std.proofs.Common.{Some}
use Rattle.word_dis.specs.Fill.{IsKept}
use Rattle.word_dis.proofs.Between.{IsBegun}
use Rattle.word_dis.proofs.fill.without_runs.Given as goal

abbrev pub invariant-loop-address : goal.invariant-loop-address
invariant-loop-address l = IsBegun (IsKept l.image (Some l.fill)) l.part l.address

use Rattle.std.proofs.Common.{◌≡◌, []}
use Rattle.warnings.proofs.Using.{lines_left}
use Rattle.warnings.proofs.used_names.used_by.Given as goal

abbrev pub invariant-loop-one : goal.invariant-loop-one
invariant-loop-one l = lines_left l.lines l.one-index l.names ≡ lines_left l.lines 0 []

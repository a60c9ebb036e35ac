use Rattle.std.proofs.Common.{◌≡◌, ◌++◌, drop}
use Rattle.dap_desk.specs.Onward.{row_starts}
use Rattle.dap_desk.proofs.onward.row_starts.Given as goal

abbrev pub invariant-loop-row : goal.invariant-loop-row
invariant-loop-row l = l.starts.items ++ row_starts (drop l.row-index l.rows) ≡ row_starts l.rows

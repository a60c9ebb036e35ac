use Rattle.std.proofs.Common.{◌≡◌, ◌++◌, ◌≤◌}
use Rattle.model.specs.Disassembly.{rows_in}
use Rattle.disasm.proofs.rows.push_rows.Given as goal

abbrev pub invariant-loop-left : goal.invariant-loop-left
invariant-loop-left l = record {
  written : l.out.items ++ rows_in l.profile l.memory l.last l.address l.left ≡ l.fn.out.items ++ rows_in l.profile l.memory l.last l.first l.count;
  within : l.address ≤ 65536;
}

abbrev pub decreases-loop-left : goal.decreases-loop-left
decreases-loop-left l = l.left

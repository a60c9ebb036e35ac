use Rattle.std.proofs.Common.{◌≡◌, ◌++◌, ◌-◌}
use Rattle.mon_screen.specs.Cells.{beside, written}
use Rattle.mon_screen.proofs.cells.push_beside.Given as goal

abbrev pub invariant-loop : goal.invariant-loop
invariant-loop l = l.text.items ++ written (beside (l.count - l.counter) l.left l.right l.first l.second) ≡ l.initial.text.items
    ++ written (beside l.count l.left l.right l.one l.other)

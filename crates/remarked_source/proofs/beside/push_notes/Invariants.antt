use Rattle.std.proofs.Common.{◌≡◌, ◌++◌, true, drop}
use Rattle.remarked_source.specs.Rows.{notes}
use Rattle.remarked_source.proofs.beside.push_notes.Given as goal

abbrev pub invariant-loop-remark : goal.invariant-loop-remark
invariant-loop-remark l = l.out.items ++ notes l.texts l.low l.high l.first (drop l.remark-index l.remarks) ≡ l.fn.out.items
    ++ notes l.texts l.low l.high true l.remarks

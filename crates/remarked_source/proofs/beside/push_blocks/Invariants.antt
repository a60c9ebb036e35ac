use Rattle.std.proofs.Common.{◌≡◌, ◌++◌, drop}
use Rattle.remarked_source.specs.Rows.{blocks}
use Rattle.remarked_source.proofs.beside.push_blocks.Given as goal

abbrev pub invariant-loop-remark : goal.invariant-loop-remark
invariant-loop-remark l = l.out.items ++ blocks l.texts l.low l.high (drop l.remark-index l.remarks) ≡ l.fn.out.items ++ blocks l.texts l.low l.high l.remarks

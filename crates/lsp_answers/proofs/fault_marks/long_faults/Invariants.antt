use Rattle.std.proofs.Common.{[], IfOk, take}
use Rattle.fault_notes.specs.Blocks.{fault_blocks, means_first}
use Rattle.lsp_answers.specs.Diagnostics.{AreMarked, fault_kind}
use Rattle.lsp_answers.proofs.fault_marks.long_faults.Given as goal

abbrev pub invariant-loop-fault : goal.invariant-loop-fault
invariant-loop-fault l = IfOk l.found (λ ds. AreMarked (fault_blocks means_first) fault_kind [] (take l.fault-index l.faults) ds.items)

use Rattle.std.proofs.Common.{IfOk, take}
use Rattle.fault_notes.specs.Blocks.{fault_blocks}
use Rattle.fault_notes.specs.Marks.{IsMeant, known_of}
use Rattle.lsp_answers.specs.Diagnostics.{AreMarked, fault_kind}
use Rattle.source_notes.specs.Lines.{texts_of}
use Rattle.lsp_answers.proofs.fault_marks.line_faults.Given as goal

abbrev pub invariant-loop-fault : goal.invariant-loop-fault
invariant-loop-fault l = IfOk l.found (λ ds. AreMarked (fault_blocks (IsMeant (known_of l.context))) fault_kind (texts_of l.lines)
    (take l.fault-index l.faults) ds.items)

use Rattle.std.proofs.Common.{None, [], IfOk, arith, refl, rules}
use Rattle.fault_notes.specs.Blocks.{fault_blocks, means_first}
use Rattle.fault_notes.specs.Marks.{IsPlain}
use Rattle.lsp_answers.specs.Diagnostics.{fault_kind}
use Rattle.lsp_answers.proofs.Marking.{all_put, none_yet, put_more}
use Rattle.lsp_answers.proofs.fault_marks.long_faults.Goals.{in-Ok, in-Err}
use Rattle.lsp_answers.proofs.fault_marks.long_faults.Goals as goal

pub loop-fault-init : goal.loop-fault-init
loop-fault-init c = none_yet (fault_blocks means_first) fault_kind [] c.args.faults.now c.new.result.items c.new.ensures.items

pub loop-fault-preserved : goal.loop-fault-preserved
loop-fault-preserved c =
    let fits : IfOk c.match-phrase.note (IsPlain (0, 1)) = elim c.match-phrase.branch [
      | in-Ok w ↦ rw w.note-is (search rules)
      | in-Err w ↦ rw w.note-is tt
    ] in
    put_more (fault_blocks means_first) fault_kind [] c.args.faults.now c.loop-fault.fault-index _ c.loop-fault.found c.with_note-found.result _ _ _
    None [] (omega (arith, c.loop-fault-test.true)) c.loop-fault.invariant refl refl refl refl fits c.with_note-found.ensures

pub returns : goal.returns
returns c = all_put (fault_blocks means_first) fault_kind [] c.args.faults.now c.loop-fault.fault-index c.loop-fault.found
    (omega (arith, c.loop-fault-test.false)) c.loop-fault.invariant

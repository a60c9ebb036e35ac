use Rattle.std.proofs.Common.{arith}
use Rattle.remarked_source.proofs.Notes.{none_left, one_more}
use Rattle.remarked_source.proofs.beside.push_notes.Goals as goal

pub loop-remark-preserved : goal.loop-remark-preserved
loop-remark-preserved c = one_more c.args.texts.now c.args.low c.args.high c.loop-remark.first c.in_ok-first.first c.args.remarks.now
    c.loop-remark.remark-index _ c.loop-remark.out.items c.push_note.new.out.items _
    (omega arith) c.in_ok-first.ensures c.loop-remark.invariant

pub returns : goal.returns
returns c = none_left c.args.texts.now c.args.low c.args.high c.loop-remark.first c.args.remarks.now c.loop-remark.remark-index
    c.loop-remark.out.items _ (omega arith) c.loop-remark.invariant

use Rattle.std.proofs.Common.{arith}
use Rattle.word_cmp.specs.AlignedRows.{row_text}
use Rattle.word_cmp.specs.Sides.{side_view}
use Rattle.word_cmp.proofs.TextOfRows.{all_texts, one_text}
use Rattle.word_cmp.proofs.aligned_rows.aligned_rows.Goals as goal

pub loop-row-preserved : goal.loop-row-preserved
loop-row-preserved c = one_text (row_text (side_view c.args.one.now) (side_view c.args.other.now)) c.args.rows.now c.loop-row.row-index _ _ _
    (omega arith) c.loop-row.invariant c.in_ok-push_aligned.ensures

pub returns : goal.returns
returns c = all_texts (row_text (side_view c.args.one.now) (side_view c.args.other.now)) c.args.rows.now c.loop-row.row-index _ (omega arith)
    c.loop-row.invariant

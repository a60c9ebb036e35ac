use Rattle.std.proofs.Common.{◌∙◌, sym, arith}
use Rattle.word_cmp.specs.Sides.{side_view}
use Rattle.word_cmp.proofs.DifferenceRows.{range_stops, range_more, range_done}
use Rattle.word_cmp.proofs.row_text.range_end.Goals as goal

pub returns-then-not-goes_on : goal.returns-then-not-goes_on
returns-then-not-goes_on c = sym (range_stops (side_view c.args.side.now) (side_view c.args.other.now) c.loop-next.last c.loop-next.next-index
    c.args.more.now (omega arith) (sym c.goes_on.ensures ∙ c.if-not-goes_on.true)) ∙ c.loop-next.invariant

pub loop-next-preserved : goal.loop-next-preserved
loop-next-preserved c = sym (range_more (side_view c.args.side.now) (side_view c.args.other.now) c.loop-next.last c.loop-next.next-index
    c.args.more.now (omega arith) (sym c.goes_on.ensures ∙ c.if-not-goes_on.false)) ∙ c.loop-next.invariant

pub returns : goal.returns
returns c = sym (range_done (side_view c.args.side.now) (side_view c.args.other.now) c.loop-next.last c.loop-next.next-index c.args.more.now
    (omega arith)) ∙ c.loop-next.invariant

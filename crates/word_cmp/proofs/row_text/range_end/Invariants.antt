use Rattle.std.proofs.Common.{◌≡◌, drop}
use Rattle.word_cmp.specs.DifferenceRows.{range_end}
use Rattle.word_cmp.specs.Sides.{side_view}
use Rattle.word_cmp.proofs.row_text.range_end.Given as goal

abbrev pub invariant-loop-next : goal.invariant-loop-next
invariant-loop-next l = range_end (side_view l.side) (side_view l.other) l.last (drop l.next-index l.more)
    ≡ range_end (side_view l.side) (side_view l.other) l.first l.more

use Rattle.std.proofs.Common.{◌≡◌, ◌++◌}
use Rattle.model.specs.TextLines.{lines_of}
use Rattle.listing.proofs.RowsLeft.{rows_left}
use Rattle.listing.proofs.listed.push_lines.Given as goal

abbrev pub invariant-loop-span : goal.invariant-loop-span
invariant-loop-span l = l.out.items ++ rows_left l.cells (lines_of l.rest) l.spans l.span-index ≡ l.fn.out.items
    ++ rows_left l.cells (lines_of l.source) l.spans 0

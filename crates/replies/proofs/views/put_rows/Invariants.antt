use Rattle.std.specs.Io.KnownBytes.{Appends}
use Rattle.replies.proofs.Rows.{parts_to, row_of}
use Rattle.replies.proofs.views.put_rows.Given as goal

abbrev pub invariant-loop-row : goal.invariant-loop-row
invariant-loop-row g l = Appends (g.W.Write.contents l.fn.writer) (g.W.Write.contents l.writer)
    (parts_to (row_of l.session.current.bus.memory l.first l.last) l.row)

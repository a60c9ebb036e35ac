use Rattle.std.proofs.Common.{◌≡◌, ◌+◌, ◌≤◌, length}
use Rattle.model.specs.TextLines.{lines_of}
use Rattle.t65_reports.proofs.Walks.{walked}
use Rattle.t65_reports.proofs.row_lines.RowLines.walk_to.Given as goal

abbrev pub invariant-loop : goal.invariant-loop
invariant-loop l = record {
  left : length l.self.rest.now + l.counter ≤ length l.initial.self.rest.now;
  found : walked l.number l.self.next (lines_of l.self.rest.now) ≡ walked l.number l.initial.self.next (lines_of l.initial.self.rest.now);
}

use Rattle.std.proofs.Common.{◌≡◌, ◌+◌, ◌*◌, ◌≤◌, ◌++◌, length}
use Rattle.model.specs.AllFaults.{fixed_by, found_lines}
use Rattle.model.specs.Source.{first_context, read_lines}
use Rattle.source_faults.proofs.LayoutOfLines.{lines_left}
use Rattle.source_faults.specs.Views.{AreNumbered, before_line, found_all, mending_of}
use Rattle.source_faults.proofs.laying.lay_out.Given as goal

abbrev pub invariant-loop-rest : goal.invariant-loop-rest
invariant-loop-rest l = record {
  found : found_all l.found.items ++ found_lines (mending_of l.mending) (before_line l.profile l.address l.symbols) (lines_left l.profile l.rest)
      ≡ found_lines (mending_of l.mending) (first_context l.profile) (read_lines l.profile l.source);
  fixed : fixed_by (mending_of l.mending) (before_line l.profile l.address l.symbols) (lines_left l.profile l.rest)
      ≡ fixed_by (mending_of l.mending) (first_context l.profile) (read_lines l.profile l.source);
  numbered : AreNumbered 1 l.found.items;
  count : length l.found.items + 1 ≡ l.number;
  room : l.number + length l.rest ≤ 1048577;
  near : l.address + 510 * length l.rest ≤ 534839296;
}

abbrev pub decreases-loop-rest : goal.decreases-loop-rest
decreases-loop-rest l = length l.rest

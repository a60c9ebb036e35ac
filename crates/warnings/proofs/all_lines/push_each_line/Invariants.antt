use Rattle.std.proofs.Common.{◌≡◌, ◌++◌}
use Rattle.warnings.specs.Views.{placed_views}
use Rattle.warnings.specs.Warnings.{known, lines_warnings}
use Rattle.warnings.proofs.Looking.{so_on}
use Rattle.warnings.proofs.all_lines.push_each_line.Given as goal

abbrev pub invariant-loop-one : goal.invariant-loop-one
invariant-loop-one l = record {
  exact : so_on (known l.profile l.names l.used l.reaches (placed_views l.lines)) l.warnings.items l.one-index l.capitals l.lines
      ≡ l.fn.warnings.items ++ lines_warnings (known l.profile l.names l.used l.reaches (placed_views l.lines)) 1 l.fn.capitals (placed_views l.lines);
  count : l.number ≡ l.one-index;
}

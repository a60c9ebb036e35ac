use Rattle.std.proofs.Common.{◌≡◌, ◌+◌, ◌≤◌, length}
use Rattle.model.specs.TextLines.{lines_of}
use Rattle.names_files.proofs.Lines.{lines_left}
use Rattle.names_files.specs.NamesFile.{more_lines, nothing_taken}
use Rattle.names_files.specs.Views.{taken_view}
use Rattle.names_files.proofs.names.taken.Given as goal

abbrev pub invariant-loop-rest : goal.invariant-loop-rest
invariant-loop-rest l = record {
  found : lines_left l.form l.profile l.rest (taken_view l.lines) ≡ more_lines l.form l.profile (lines_of l.fn.file) nothing_taken;
  room : l.lines.left_out + length l.rest ≤ length l.fn.file;
  told : l.lines.told + length l.rest ≤ length l.fn.file;
}

abbrev pub decreases-loop-rest : goal.decreases-loop-rest
decreases-loop-rest l = length l.rest

use Rattle.std.proofs.Common.{◌≡◌, ◌+◌, ◌≤◌, length}
use Rattle.marks_files.specs.MarksFile.{marks_file}
use Rattle.marks_files.specs.Views.{marks_view}
use Rattle.marks_files.proofs.Lines.{lines_left}
use Rattle.marks_files.proofs.file.marks_of_file.Given as goal

abbrev pub invariant-loop-rest : goal.invariant-loop-rest
invariant-loop-rest l = record {
  found : lines_left l.profile l.number l.rest (marks_view l.marks) ≡ marks_file l.profile (marks_view l.fn.given) l.fn.file;
  room : l.number + length l.rest ≤ length l.fn.file + 1;
}

abbrev pub decreases-loop-rest : goal.decreases-loop-rest
decreases-loop-rest l = length l.rest

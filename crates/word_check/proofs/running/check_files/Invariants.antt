use Rattle.std.proofs.Common.{◌≡◌, ◌≤◌, length, take}
use Rattle.arguments.specs.Words.{texts}
use Rattle.word_check.specs.CommandLine.{check_view}
use Rattle.word_check.specs.Files.{AreTried}
use Rattle.word_check.proofs.running.check_files.Given as goal

abbrev pub invariant-loop-index : goal.invariant-loop-index
invariant-loop-index g l = record {
  tried : AreTried (check_view l.words) (texts (take l.index l.files)) (g.O.Write.contents l.fn.output) (g.O.Write.contents l.output)
      (l.output ≡ l.fn.output) l.worst;
  within : l.worst ≤ 4;
  quiet : l.worst ≤ 1 → l.errors ≡ l.fn.errors;
}

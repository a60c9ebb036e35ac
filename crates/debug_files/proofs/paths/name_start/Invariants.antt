use Rattle.std.proofs.Common.{◌≡◌, ◌≤◌, drop, length}
use Rattle.debug_files.specs.Paths.{name_start}
use Rattle.debug_files.proofs.paths.name_start.Given as goal

abbrev pub invariant-loop-at : goal.invariant-loop-at
invariant-loop-at l = record {
  whole : name_start 0 0 l.path ≡ name_start l.at l.start (drop l.at l.path);
  within : l.start ≤ l.at;
  inside : l.at ≤ length l.path;
}

use Rattle.std.proofs.Common.{◌≡◌, ◌++◌, drop}
use Rattle.debug_files.specs.Paths.{slashed}
use Rattle.debug_files.proofs.paths.slashed.Given as goal

abbrev pub invariant-loop-byte : goal.invariant-loop-byte
invariant-loop-byte l = l.made.items ++ slashed (drop l.byte-index l.name) ≡ slashed l.name

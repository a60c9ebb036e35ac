use Rattle.std.proofs.Common.{◌≡◌, length}
use Rattle.debug_facts.proofs.files.states_of.Given as goal

abbrev pub invariant-loop-file : goal.invariant-loop-file
invariant-loop-file g l = record {
  each : length l.states.items ≡ l.file-index;
}

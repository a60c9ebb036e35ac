use Rattle.std.proofs.Common.{◌≡◌, length}
use Rattle.names_files.specs.Labels.{behind_key}
use Rattle.names_files.proofs.label.behind_key.Given as goal

abbrev pub invariant-loop-rest : goal.invariant-loop-rest
invariant-loop-rest l = behind_key l.key l.rest ≡ behind_key l.fn.key l.fn.text

abbrev pub decreases-loop-rest : goal.decreases-loop-rest
decreases-loop-rest l = length l.rest

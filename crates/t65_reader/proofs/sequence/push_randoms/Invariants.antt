use Rattle.std.proofs.Common.{◌≡◌, ◌+◌, ◌-◌, ◌++◌}
use Rattle.t65_reader.specs.Sequences.{random_values}
use Rattle.t65_reader.proofs.sequence.push_randoms.Given as goal

abbrev pub invariant-loop-i : goal.invariant-loop-i
invariant-loop-i l = record {
  rest : l.found.items ++ random_values (l.first + l.i) (l.count - l.i) ≡ l.fn.found.items ++ random_values l.first l.count;
}

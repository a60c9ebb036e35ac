use Rattle.std.proofs.Common.{length, take, ◌≤◌}
use Rattle.std.specs.Io.KnownBytes.{Appends}
use Rattle.arguments.proofs.output.put.Given as goal

abbrev pub invariant-loop : goal.invariant-loop
invariant-loop g l = record {
  within : l.done ≤ length l.text;
  written : Appends (g.O.Write.contents l.fn.output) (g.O.Write.contents l.output) (take l.done l.text);
}

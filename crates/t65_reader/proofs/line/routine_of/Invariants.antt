use Rattle.std.proofs.Common.{◌≡◌, ◌-◌, length}
use Rattle.t65_reader.specs.RowText.{routine_in}
use Rattle.t65_reader.proofs.line.routine_of.Given as goal

abbrev pub invariant-loop : goal.invariant-loop
invariant-loop l = record {
  found : routine_in (length l.line) l.line ≡ routine_in (l.end - l.counter) l.rest;
}

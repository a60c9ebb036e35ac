use Rattle.std.proofs.Common.{◌≡◌, ◌-◌}
use Rattle.mon_lines.specs.Parts.{tests_within}
use Rattle.mon_lines.proofs.tests.tests_within.Given as goal

abbrev pub invariant-loop : goal.invariant-loop
invariant-loop l = record {
  read : tests_within 5 l.places l.pc l.fn.found.items l.text ≡ tests_within (5 - l.counter) l.places l.pc l.found.items l.rest;
}

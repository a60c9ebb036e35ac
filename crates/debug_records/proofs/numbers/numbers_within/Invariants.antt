use Rattle.std.proofs.Common.{◌≡◌, ◌-◌, [], length}
use Rattle.debug_records.specs.Numbers.{numbers_within}
use Rattle.debug_records.proofs.numbers.numbers_within.Given as goal

abbrev pub invariant-loop : goal.invariant-loop
invariant-loop l = record {
  read : numbers_within (length l.text) [] l.first l.text ≡ numbers_within (l.end - l.counter) l.numbers.items l.left l.rest;
}

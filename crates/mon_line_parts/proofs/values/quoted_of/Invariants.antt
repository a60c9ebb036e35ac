use Rattle.std.proofs.Common.{◌≡◌, ◌-◌, length}
use Rattle.mon_line_parts.specs.Values.{quoted_of}
use Rattle.mon_line_parts.proofs.values.quoted_of.Given as goal

abbrev pub invariant-loop : goal.invariant-loop
invariant-loop l = record {
  read : quoted_of (length l.text) l.fn.found.items l.text ≡ quoted_of (l.end - l.counter) l.found.items l.rest;
}

use Rattle.std.proofs.Common.{◌≡◌, ◌-◌, ◌+◌, length}
use Rattle.mon_line_parts.specs.Values.{pieces_of}
use Rattle.mon_line_parts.proofs.values.pieces_of.Given as goal

abbrev pub invariant-loop : goal.invariant-loop
invariant-loop l = record {
  read : pieces_of (length l.text + 1) l.places l.fn.found.items l.text ≡ pieces_of (l.end - l.counter) l.places l.found.items l.rest;
}

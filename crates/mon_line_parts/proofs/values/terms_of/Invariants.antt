use Rattle.std.proofs.Common.{◌≡◌, ◌-◌, length}
use Rattle.mon_line_parts.specs.Values.{terms_of}
use Rattle.mon_line_parts.proofs.values.terms_of.Given as goal

abbrev pub invariant-loop : goal.invariant-loop
invariant-loop l = record {
  read : terms_of (length l.text) l.places l.kind l.first l.text ≡ terms_of (l.end - l.counter) l.places l.kind l.total l.rest;
}

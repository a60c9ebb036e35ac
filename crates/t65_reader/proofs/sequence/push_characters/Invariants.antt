use Rattle.std.proofs.Common.{◌≡◌, ◌-◌, length}
use Rattle.t65_reader.specs.Sequences.{characters_of}
use Rattle.t65_reader.proofs.sequence.push_characters.Given as goal

abbrev pub invariant-loop : goal.invariant-loop
invariant-loop l = record {
  read : characters_of (length l.text) l.fn.found.items l.text ≡ characters_of (l.end - l.counter) l.found.items l.rest;
}

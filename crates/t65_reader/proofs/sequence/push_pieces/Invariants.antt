use Rattle.std.proofs.Common.{◌≡◌, ◌-◌, length}
use Rattle.t65_reader.specs.Sequences.{pieces_after}
use Rattle.t65_reader.proofs.sequence.push_pieces.Given as goal

abbrev pub invariant-loop : goal.invariant-loop
invariant-loop l = record {
  read : pieces_after (l.end - l.counter) l.names.names l.letters l.start l.found.items l.rest
      ≡ pieces_after (length l.text) l.names.names l.letters l.start l.fn.found.items l.text;
}

use Rattle.std.proofs.Common.{◌≡◌, ◌<◌, drop}
use Rattle.debug_listings.specs.Lines.{are_bytes}
use Rattle.debug_listings.proofs.line.are_bytes.Given as goal

abbrev pub invariant-loop-sign : goal.invariant-loop-sign
invariant-loop-sign l = record {
  small : l.place < 3;
  rest : are_bytes 0 l.column ≡ are_bytes l.place (drop l.sign-index l.column);
}

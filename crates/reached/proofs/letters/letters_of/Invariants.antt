use Rattle.std.proofs.Common.{◌≡◌, length}
use Rattle.reached.specs.Reached.{letters_to}
use Rattle.reached.proofs.letters.letters_of.Given as goal

abbrev pub invariant-loop-address : goal.invariant-loop-address
invariant-loop-address l = record {
  so_far : l.letters.items ≡ letters_to l.profile l.cells l.marks l.routines l.flags l.address;
  size : length l.letters.items ≡ 65536;
}

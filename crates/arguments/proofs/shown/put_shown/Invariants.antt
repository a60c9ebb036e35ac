use Rattle.std.proofs.Common.{◌≤◌, length}
use Rattle.arguments.proofs.Names.{IsPart}
use Rattle.arguments.proofs.shown.put_shown.Given as goal

abbrev pub invariant-loop-character : goal.invariant-loop-character
invariant-loop-character g l = record {
  next : (goal.iterator-loop-character g).can_next l.character-iterator;
  finite : (goal.iterator-loop-character g).is_finite l.character-iterator;
  short : length l.text.items ≤ 64;
  written : IsPart (g.O.Write.contents l.fn.output) (g.O.Write.contents l.output) l.yielded l.text.items;
}

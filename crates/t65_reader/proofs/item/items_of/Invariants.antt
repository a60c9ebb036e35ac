use Rattle.std.proofs.Common.{◌≡◌, ◌-◌, length}
use Rattle.t65_reader.specs.RowText.{before, items_within}
use Rattle.t65_reader.proofs.item.items_of.Given as goal

abbrev pub invariant-loop : goal.invariant-loop
invariant-loop l = record {
  read : before l.found.items (items_within (l.end - l.counter) l.names.names l.letters l.side l.rest)
      ≡ items_within (length l.text) l.names.names l.letters l.side l.text;
}

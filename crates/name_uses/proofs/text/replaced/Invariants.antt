use Rattle.std.proofs.Common.{◌+◌, ◌≤◌, drop, length}
use Rattle.name_uses.specs.Views.{use_views}
use Rattle.name_uses.specs.Renaming.{replaced}
use Rattle.name_uses.proofs.Bytes.{IsWritten}
use Rattle.name_uses.proofs.text.replaced.Given as goal

abbrev pub invariant-loop-byte : goal.invariant-loop-byte
invariant-loop-byte l = record {
  written : IsWritten l.word l.source l.byte-index (use_views (drop l.next l.uses)) l.place.line l.place.column l.left l.text.items
      (replaced l.word (use_views l.uses) 1 0 0 l.source);
  lines : l.place.line ≤ l.byte-index + 1;
  columns : l.place.column ≤ l.byte-index;
  within : l.next ≤ length l.uses;
}

use Rattle.std.proofs.Common.{◌≡◌}
use Rattle.warnings.proofs.Using.{items_left}
use Rattle.warnings.proofs.used_names.note_items.Given as goal

abbrev pub invariant-loop-item : goal.invariant-loop-item
invariant-loop-item l = items_left l.items l.item-index l.names ≡ items_left l.items 0 l.fn.names

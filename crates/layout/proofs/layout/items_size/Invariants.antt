use Rattle.std.proofs.Common.{◌≡◌, ◌+◌, drop}
use Rattle.std.specs.Prelude.{map}
use Rattle.model.specs.Layout.{items_size}
use Rattle.line_parts.specs.LineViews.{item_view}
use Rattle.layout.proofs.layout.items_size.Given as goal

abbrev pub invariant-loop-item : goal.invariant-loop-item
invariant-loop-item l = l.size + items_size (map item_view (drop l.item-index l.items)) ≡ items_size (map item_view l.items)

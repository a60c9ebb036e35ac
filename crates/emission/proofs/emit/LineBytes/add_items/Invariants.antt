use Rattle.std.proofs.Common.{◌≡◌, drop, map}
use Rattle.emission.specs.Gathering.{with_pieces, item_pieces}
use Rattle.line_parts.specs.LineViews.{item_view}
use Rattle.model.specs.Names.{number_in}
use Rattle.emission.proofs.emit.LineBytes.add_items.Given as goal

abbrev pub invariant-loop-item : goal.invariant-loop-item
invariant-loop-item l = with_pieces l.self (item_pieces (number_in l.names) l.here (map item_view (drop l.item-index l.items)))
    ≡ with_pieces l.fn.self (item_pieces (number_in l.names) l.here (map item_view l.items))

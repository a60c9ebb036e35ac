use Rattle.std.proofs.Common.{◌≡◌, ◌++◌, drop}
use Rattle.std.specs.Prelude.{string_bytes}
use Rattle.std.specs.List.{flat_map}
use Rattle.t65_failures.specs.Failures.{drawn_item}
use Rattle.t65_failures.proofs.detail.push_drawn_items.Given as goal

abbrev pub invariant-loop-item : goal.invariant-loop-item
invariant-loop-item l = string_bytes l.text ++ flat_map (drawn_item l.values) (drop l.item-index l.items) ≡ string_bytes l.initial.text
    ++ flat_map (drawn_item l.values) l.items

-- How many bytes the items of a line have.
use Rattle.std.proofs.Common.{◌≡◌, ℕ, ◌+◌, ◌<◌, ◌≤◌, List, length, drop, get_or, drop-cons, add-one, refl}
use Rattle.std.specs.Prelude.{map}
use Rattle.std.proofs.lemmas.List.{drop_all}
use Rattle.line_parts.specs.declared.statement.Item.{Item}
use Rattle.line_parts.specs.LineViews.{item_view}
use Rattle.model.specs.Layout.{item_size, items_size}

-- the first of the items that are left, and the others
pub size_next : (is : List Item) (i : ℕ) (d : Item) → i < length is
    → items_size (map item_view (drop i is)) ≡ item_size (item_view (get_or is i d)) + items_size (map item_view (drop (i + 1) is))
size_next is i d below = rw (drop-cons is i d, add-one) refl

pub size_end : (is : List Item) (i : ℕ) → length is ≤ i → items_size (map item_view (drop i is)) ≡ 0
size_end is i past = rw (drop_all i is past) refl

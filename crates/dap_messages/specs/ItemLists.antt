-- A list of an answer that is made one item after another.
use Rattle.std.specs.Prelude.{◌≡◌, IfOk, List, map}
use Rattle.dap_messages.specs.SeenAnswers.{SeenItem, item_view}
use Rattle.dap_messages.specs.declared.item_list.ItemList.{ItemList}

-- It has these items, if memory did not run out.
abbrev pub HasItems : List SeenItem → ItemList → Type 0
HasItems ds list = IfOk list.built (λ items. map item_view items.items ≡ ds)

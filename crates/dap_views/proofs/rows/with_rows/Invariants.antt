use Rattle.std.proofs.Common.{◌≡◌, ◌++◌, ◌-◌, List}
use Rattle.dap_messages.specs.SeenAnswers.{SeenItem}
use Rattle.dap_views.specs.Rows.{rows}
use Rattle.dap_messages.specs.ItemLists.{HasItems}
use Rattle.dap_views.proofs.rows.with_rows.Given as goal

abbrev pub invariant-loop : goal.invariant-loop
invariant-loop l = (ds : List SeenItem) → HasItems ds l.initial.list → (found : List SeenItem) × HasItems found l.list
    × (found ++ rows l.mon l.source.files.now l.source.counting l.until (l.count - l.counter) l.address ≡ ds
    ++ rows l.mon l.source.files.now l.source.counting l.until l.count l.from)

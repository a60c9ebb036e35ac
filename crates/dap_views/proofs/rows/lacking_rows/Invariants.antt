use Rattle.std.proofs.Common.{◌≡◌, ◌++◌, ◌-◌, List}
use Rattle.dap_messages.specs.SeenAnswers.{SeenItem}
use Rattle.dap_views.specs.Rows.{lacking_rows}
use Rattle.dap_messages.specs.ItemLists.{HasItems}
use Rattle.dap_views.proofs.rows.lacking_rows.Given as goal

abbrev pub invariant-loop : goal.invariant-loop
invariant-loop l = (found : List SeenItem) × HasItems found l.list
    × (found ++ lacking_rows (l.count - l.counter) l.before ≡ lacking_rows l.count l.lacking)

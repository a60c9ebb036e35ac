use Rattle.std.proofs.Common.{◌≡◌, ◌++◌, List, drop}
use Rattle.dap_messages.specs.SeenAnswers.{SeenItem}
use Rattle.dap_views.specs.Locations.{locations_of}
use Rattle.dap_messages.specs.ItemLists.{HasItems}
use Rattle.dap_views.proofs.locations.locations_of.Given as goal

-- what was found, and what is still to come, is all
abbrev pub invariant-loop-row : goal.invariant-loop-row
invariant-loop-row l = (found : List SeenItem) × HasItems found l.list
    × (found ++ locations_of l.counting l.file l.first l.last (drop l.row-index l.rows)
    ≡ locations_of l.counting l.file l.first l.last l.rows)

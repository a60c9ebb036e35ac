use Rattle.std.proofs.Common.{map, take}
use Rattle.dap_views.specs.Watches.{told_of}
use Rattle.dap_messages.specs.ItemLists.{HasItems}
use Rattle.dap_views.proofs.watches.all_told.Given as goal

abbrev pub invariant-loop-wanted : goal.invariant-loop-wanted
invariant-loop-wanted l = HasItems (map (told_of l.stops.watches.items) (take l.wanted-index l.listed)) l.list

use Rattle.std.proofs.Common.{map, take}
use Rattle.dap_views.specs.Answered.{answer_elsewhere}
use Rattle.dap_messages.specs.ItemLists.{HasItems}
use Rattle.dap_views.proofs.listed.none_set.Given as goal

abbrev pub invariant-loop : goal.invariant-loop
invariant-loop l = HasItems (map answer_elsewhere (take l.index l.listed)) l.list

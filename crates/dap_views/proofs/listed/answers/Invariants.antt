use Rattle.std.proofs.Common.{◌≡◌, ◌++◌, List, drop}
use Rattle.dap_messages.specs.SeenAnswers.{SeenItem}
use Rattle.dap_views.specs.Answered.{answers_of}
use Rattle.dap_messages.specs.ItemLists.{HasItems}
use Rattle.dap_views.proofs.listed.answers.Given as goal

abbrev pub invariant-loop-wanted : goal.invariant-loop-wanted
invariant-loop-wanted l = (found : List SeenItem) × HasItems found l.list
    × (found ++ answers_of l.session l.counting l.id (drop l.wanted-index l.told) ≡ answers_of l.session l.counting l.first l.told)

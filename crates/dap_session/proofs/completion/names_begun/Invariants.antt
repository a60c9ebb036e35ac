use Rattle.std.proofs.Common.{◌≡◌, ◌++◌, List, map}
use Rattle.dap_messages.specs.SeenAnswers.{SeenItem}
use Rattle.dap_session.proofs.Begun.{coming}
use Rattle.dap_session.specs.Completions.{if_begun, names_begun}
use Rattle.dap_messages.specs.ItemLists.{HasItems}
use Rattle.source_map.specs.Names.{Named, named}
use Rattle.dap_session.proofs.completion.names_begun.Given as goal

abbrev pub invariant-loop-name : goal.invariant-loop-name
invariant-loop-name l = (found : List SeenItem) × HasItems found l.list
    × (found ++ coming (λ (n : Named). if_begun l.start l.typed n.text) named l.names l.name-index ≡ names_begun l.start l.typed (map named l.names))

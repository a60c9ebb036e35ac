use Rattle.std.proofs.Common.{List}
use Rattle.json_messages.specs.ValueLists.{HasValues}
use Rattle.lsp_answers.proofs.Behind.{AreBehind, directive_item}
use Rattle.serde_json.specs.Data.{Data}
use Rattle.lsp_answers.proofs.completing.with_directives.Given as goal

abbrev pub invariant-loop-directive : goal.invariant-loop-directive
invariant-loop-directive l = (ds : List Data) → HasValues ds l.fn.items → AreBehind directive_item ds l.directive-items l.directive-index l.all

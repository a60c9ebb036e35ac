use Rattle.std.proofs.Common.{List}
use Rattle.json_messages.specs.ValueLists.{HasValues}
use Rattle.lsp_answers.proofs.Behind.{AreBehind}
use Rattle.lsp_answers.specs.Completion.{mnemonic_item}
use Rattle.serde_json.specs.Data.{Data}
use Rattle.lsp_answers.proofs.completing.with_mnemonics.Given as goal

abbrev pub invariant-loop-mnemonic : goal.invariant-loop-mnemonic
invariant-loop-mnemonic l = (ds : List Data) → HasValues ds l.fn.items → AreBehind mnemonic_item ds l.mnemonic-items l.mnemonic-index l.all

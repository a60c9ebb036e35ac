use Rattle.std.proofs.Common.{map, take}
use Rattle.json_messages.specs.ValueLists.{HasValues}
use Rattle.lsp_hints.specs.Folds.{fold_data}
use Rattle.lsp_hints.proofs.folds.folded.Given as goal

abbrev pub invariant-loop-fold : goal.invariant-loop-fold
invariant-loop-fold l = HasValues (map fold_data (take l.fold-index l.fold-items)) l.values

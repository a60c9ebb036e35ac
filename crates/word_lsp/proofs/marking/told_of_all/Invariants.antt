use Rattle.std.proofs.Common.{◌++◌, List, drop, map}
use Rattle.serde_json.specs.Data.{Data}
use Rattle.serde_json.specs.View.{view}
use Rattle.word_lsp.specs.Messages.{AreToldOfAll}
use Rattle.word_lsp.specs.State.{document_view}
use Rattle.word_lsp.proofs.marking.told_of_all.Given as goal

-- what was told so far, and what is told of the other documents, is told of all
abbrev pub invariant-loop-document : goal.invariant-loop-document
invariant-loop-document l = (behind : List Data) → AreToldOfAll l.map (map document_view (drop l.document-index l.document-items)) behind
    → AreToldOfAll l.map (map document_view l.document-items) (map view l.told.items ++ behind)

use Rattle.std.proofs.Common.{map, take}
use Rattle.std.specs.List.{flat_map}
use Rattle.json_messages.specs.ValueLists.{HasValues}
use Rattle.word_lsp.specs.Searches.{found_in}
use Rattle.word_lsp.specs.State.{document_view}
use Rattle.word_lsp.proofs.searching.found_in_all.Given as goal

abbrev pub invariant-loop-document : goal.invariant-loop-document
invariant-loop-document l = HasValues (flat_map (found_in l.profile l.query) (map document_view (take l.document-index l.document-items))) l.found

use Rattle.std.proofs.Common.{◌≡◌, drop, map}
use Rattle.word_lsp.specs.State.{document_view, documents_view, text_in}
use Rattle.word_lsp.proofs.documents.Documents.text_of.Given as goal

abbrev pub invariant-loop-document : goal.invariant-loop-document
invariant-loop-document l = text_in (documents_view l.self) l.uri ≡ text_in (map document_view (drop l.document-index l.self.all.items)) l.uri

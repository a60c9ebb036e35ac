use Rattle.std.proofs.Common.{◌∙◌, ap, map, not, rules}
use Rattle.std.proofs.lemmas.Fn.{filter_same}
use Rattle.word_lsp.specs.State.{Opened, document_view, is_named}
use Rattle.word_lsp.specs.declared.documents.Document.{Document}
use Rattle.word_lsp.proofs.Filtered.{filter_mapped}
use Rattle.word_lsp.proofs.documents.Documents.close.Goals as goal

pub returns : goal.returns
returns c =
    let other = λ (d : Opened). not (is_named c.args.uri.now d) in
    ap (map document_view) (filter_same _ (λ (d : Document). other (document_view d)) _ (λ x b f t. search rules) c.args.self.now.all.items
    c.retain.new.self.items c.retain.ensures.filtered)
    ∙ filter_mapped document_view other c.args.self.now.all.items

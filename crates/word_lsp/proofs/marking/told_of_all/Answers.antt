use Rattle.std.proofs.Common.{◌++◌, ◌∷◌, [], List, append-nil, arith, map, subst, sym, ℕ}
use Rattle.std.specs.Prelude.{string_bytes}
use Rattle.serde_json.specs.Data.{Data}
use Rattle.serde_json.specs.View.{view}
use Rattle.serde_json.specs.declared.value.Value.{Value}
use Rattle.word_lsp.proofs.Told.{told_end, told_more, told_step}
use Rattle.word_lsp.specs.Messages.{AreToldOfAll, IsMarked}
use Rattle.word_lsp.specs.State.{document_view}
use Rattle.word_lsp.specs.declared.documents.Document.{Document}
use Rattle.word_lsp.proofs.marking.told_of_all.Goals as goal

pub loop-document-init : goal.loop-document-init
loop-document-init c behind rest =
    let docs = c.deref-document-items.result.now in
    subst (λ (vs : List Value). AreToldOfAll c.args.map.now (map document_view docs) (map view vs ++ behind)) (sym c.new-told.ensures.items) rest

pub loop-document-preserved : goal.loop-document-preserved
loop-document-preserved c behind rest =
    let docs = c.deref-document-items.result.now in
    let one = c.in_ok-one.one in
    let by_uri = subst (λ (uri : List ℕ). IsMarked c.args.map.now uri c.deref.result.now (view one)) c.as_str.ensures.value c.in_ok-one.ensures in
    let by_text = subst (λ (text : List ℕ). IsMarked c.args.map.now (string_bytes c.document-item.result.uri) text (view one)) c.deref.ensures.value by_uri in
    told_more c.args.map.now docs c.loop-document.told.items c.push.new.self.items one behind c.in_ok-push.ensures.items
    (c.loop-document.invariant (view one ∷ behind)
    (told_step c.args.map.now docs c.loop-document.document-index c.document-item.result (omega (arith, c.loop-document-test.true)) c.document-item.is
    (view one) behind by_text rest))

pub returns : goal.returns
returns c =
    let docs = c.deref-document-items.result.now in
    let told = map view c.loop-document.told.items in
    let all = c.loop-document.invariant [] (told_end c.args.map.now docs c.loop-document.document-index (omega (arith, c.loop-document-test.false))) in
    subst (λ (ds : List Document). AreToldOfAll c.args.map.now (map document_view ds) told) c.deref-document-items.ensures.value
    (subst (λ (vs : List Data). AreToldOfAll c.args.map.now (map document_view docs) vs) (append-nil told) all)

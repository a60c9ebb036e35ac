use Rattle.std.proofs.Common.{◌∙◌, ◌++◌, [], List, ap, arith, map, subst, take}
use Rattle.std.specs.List.{flat_map}
use Rattle.json_messages.specs.ValueLists.{HasValues}
use Rattle.lsp_answers.proofs.FlatSteps.{taken_all, taken_more}
use Rattle.serde_json.specs.Data.{Data}
use Rattle.word_lsp.specs.Searches.{found_in}
use Rattle.word_lsp.specs.State.{document_view}
use Rattle.word_lsp.specs.declared.documents.Document.{Document}
use Rattle.word_lsp.proofs.searching.found_in_all.Goals as goal

pub loop-document-init : goal.loop-document-init
loop-document-init c = c.new-found.ensures

pub loop-document-preserved : goal.loop-document-preserved
loop-document-preserved c =
    let f = found_in c.args.profile c.args.query.now in
    let before = flat_map f (map document_view (take c.loop-document.document-index c.deref-document-items.result.now)) in
    let item = ap (λ (d : Document). before ++ f (document_view d)) c.document-item.is in
    subst (λ (es : List Data). HasValues es c.in_ok-found.found)
    (item ∙ taken_more f document_view [] c.deref-document-items.result.now c.loop-document.document-index c.document-item.result
    (omega (arith, c.loop-document-test.true)))
    (c.in_ok-found.ensures _ c.loop-document.invariant)

pub returns : goal.returns
returns c =
    let f = found_in c.args.profile c.args.query.now in
    c.build.ensures _ (subst (λ (es : List Data). HasValues es c.loop-document.found)
    (taken_all f document_view [] c.deref-document-items.result.now c.loop-document.document-index (omega (arith, c.loop-document-test.false))
    ∙ ap (λ (ds : List Document). flat_map f (map document_view ds)) c.deref-document-items.ensures.value) c.loop-document.invariant)

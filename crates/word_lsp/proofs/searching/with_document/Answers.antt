use Rattle.std.proofs.Common.{◌∙◌, ◌++◌, ap, List, ℕ, subst}
use Rattle.std.specs.Prelude.{string_bytes}
use Rattle.clean_source.specs.Cleaned.{cleaned}
use Rattle.json_messages.specs.ValueLists.{HasValues}
use Rattle.lsp_answers.specs.Texts.{TextView, text_of, text_view}
use Rattle.serde_json.specs.Data.{Data}
use Rattle.word_lsp.specs.Searches.{found_by}
use Rattle.word_lsp.proofs.searching.with_document.Goals as goal

pub returns : goal.returns
returns c ds has =
    let read = c.in-Ok-read.ensures ∙ ap (λ (source : List ℕ). text_of c.args.profile source)
    (c.deref-2.ensures.value ∙ c.in-Ok.ensures.cleaned ∙ ap cleaned c.deref.ensures.value) in
    let by_uri = ap (λ (uri : List ℕ). found_by uri c.as_bytes.result.now (text_view c.in-Ok-read.text)) c.as_str.ensures.value in
    let by_query = ap (λ (query : List ℕ). found_by (string_bytes c.args.document.now.uri) query (text_view c.in-Ok-read.text)) c.as_bytes.ensures.value in
    let by_text = ap (λ (t : TextView). found_by (string_bytes c.args.document.now.uri) c.args.query.now t) read in
    subst (λ (es : List Data). HasValues es c.with_names.result) (ap (λ (es : List Data). ds ++ es) (by_uri ∙ by_query ∙ by_text)) (c.with_names.ensures ds has)

use Rattle.std.proofs.Common.{◌∙◌, ◌+◌, ◌++◌, [], List, ap, arith, drop, refl, subst, sym}
use Rattle.std.proofs.lemmas.Result.{IfOk-weaker}
use Rattle.std.specs.List.{flat_map}
use Rattle.json_messages.specs.ValueLists.{HasValues}
use Rattle.json_messages.specs.Values.{list_of}
use Rattle.lsp_answers.specs.Texts.{text_view}
use Rattle.lsp_answers.specs.declared.kinds.Diagnostic.{Diagnostic}
use Rattle.lsp_hints.proofs.FlatSteps.{flat_end, flat_next}
use Rattle.lsp_hints.proofs.Gathered.{gathered, gathered_all}
use Rattle.lsp_hints.specs.Fixes.{fixes_between}
use Rattle.serde_json.specs.Data.{Data}
use Rattle.lsp_hints.proofs.fixes.fixes_in.Goals as goal

pub loop-one-init : goal.loop-one-init
loop-one-init c = ([], c.new-fixes.ensures, refl)

pub loop-one-preserved : goal.loop-one-preserved
loop-one-preserved c =
    let f = fixes_between c.args.uri.now (text_view c.args.text.now) c.args.between in
    let behind = flat_map f (drop (c.loop-one.one-index + 1) c.deref-one-items.result.now) in
    let so_far = c.loop-one.invariant in (
      _,
      c.with_fix-fixes.ensures so_far.0 so_far.1,
      gathered so_far.0 _ _ _ _ _ refl (flat_next f c.deref-one-items.result.now c.loop-one.one-index c.one-item.result
          (omega (arith, c.loop-one-test.true)) ∙ ap (λ (d : Diagnostic). f d ++ behind) (sym c.one-item.is)) so_far.2,
    )

pub returns : goal.returns
returns c =
    let f = fixes_between c.args.uri.now (text_view c.args.text.now) c.args.between in
    let so_far = c.loop-one.invariant in
    let has = c.build.ensures _ (subst (λ (ds : List Data). HasValues ds c.loop-one.fixes)
    (gathered_all so_far.0 _ _ (flat_end f c.deref-one-items.result.now c.loop-one.one-index (omega (arith, c.loop-one-test.false))) so_far.2) so_far.1) in
    let same = ap (λ (ds : List Diagnostic). list_of (flat_map f ds)) c.deref-one-items.ensures.value in
    IfOk-weaker c.build.result _ _ (λ v is. (c.in-Ok.found.items, c.in-Ok.ensures, is ∙ same)) has

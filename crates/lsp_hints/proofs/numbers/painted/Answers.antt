use Rattle.std.proofs.Common.{◌∙◌, ◌++◌, [], List, ap, arith, refl, subst}
use Rattle.json_messages.specs.ValueLists.{HasValues}
use Rattle.lsp_hints.proofs.Gathered.{gathered, gathered_all}
use Rattle.lsp_hints.proofs.PaintSteps.{paint_next, paints_end}
use Rattle.lsp_hints.specs.Painted.{counted, paints_of}
use Rattle.lsp_hints.specs.declared.paint.Paint.{Paint}
use Rattle.serde_json.specs.Data.{Data}
use Rattle.source_notes.specs.Lines.{texts_of}
use Rattle.lsp_hints.proofs.numbers.painted.Goals as goal

pub loop-paint-init : goal.loop-paint-init
loop-paint-init c = ([], c.new-counts.ensures, refl)

pub loop-paint-preserved : goal.loop-paint-preserved
loop-paint-preserved c =
    let so_far = c.loop-paint.invariant in (
      _,
      c.with_paint-counts.ensures so_far.0 so_far.1,
      gathered so_far.0 _ _ _ _ _ refl (paint_next c.loop-paint.line c.loop-paint.start c.loop-paint.paint-index c.deref-paint-items.result.now _
          (omega (arith, c.loop-paint-test.true))) so_far.2,
    )

pub returns : goal.returns
returns c =
    let so_far = c.loop-paint.invariant in
    let paints = c.deref-paint-items.ensures.value ∙ c.in_ok-push_lines.ensures
    ∙ ap (λ (ps : List Paint). ps ++ paints_of c.args.profile c.args.between (texts_of c.args.lines.now)) c.new-paints.ensures.items in
    let all = gathered_all so_far.0 _ _ (paints_end c.loop-paint.line c.loop-paint.start c.loop-paint.paint-index c.deref-paint-items.result.now
    (omega (arith, c.loop-paint-test.false))) so_far.2 ∙ ap (counted 0 0) paints in
    c.build-2.ensures _ (c.member.ensures _ _ c.new.ensures (c.build.ensures _ (subst (λ (ds : List Data). HasValues ds c.loop-paint.counts) all so_far.1)))
